use Rattle.std.proofs.Common.{is_none, sym, ap, ◌∙◌, arith}
use Rattle.std.specs.List.{count_by}
use Rattle.std.specs.FinMap as map
use Rattle.std.proofs.lemmas.List.{take_all}
use Rattle.std.proofs.lemmas.List.Sums.{count_by_more_no, count_by_more_yes}
use Rattle.operations.specs.Totals.{key_cmp}
use Rattle.site_totals.specs.TotalLists.{Row}
use Rattle.site_totals.proofs.EntryLemmas.{count_missing_in}
use Rattle.site_totals.proofs.few.searched_count.Goals as goal
use Rattle.site_totals.proofs.few.searched_count.Goals.{then-lacks, else-lacks}

pub loop-row-preserved : goal.loop-row-preserved
loop-row-preserved c =
    let rows = c.args.rows.now in
    let others = c.args.others.now in
    let i = c.loop-row.row-index in
    let x = c.row-item.result in
    let missing = λ (row : Row). is_none (map.find key_cmp row.0 rows) in
    let is = c.lacks.ensures ∙ ap missing c.row-item.is in
    elim c.if-lacks.branch [
      | then-lacks w ↦ omega (arith, w.count-is, c.loop-row.invariant, count_by_more_yes missing others i x c.loop-row-test.true (sym is ∙ w.if-lacks.true))
      | else-lacks w ↦ omega (arith, w.count-is, c.loop-row.invariant, count_by_more_no missing others i x c.loop-row-test.true (sym is ∙ w.if-lacks.false))
    ]

pub returns : goal.returns
returns c =
    let missing = λ (row : Row). is_none (map.find key_cmp row.0 c.args.rows.now) in
    c.loop-row.invariant ∙ ap (count_by missing) (take_all c.loop-row.row-index c.args.others.now c.loop-row-test.false)
    ∙ sym (count_missing_in c.args.rows.now c.args.others.now c.requires.rising c.requires.others_rising)
