use Rattle.std.proofs.Common.{◌≡◌, ◌++◌, length, drop, take, arith, rules, sym, ap, subst, ◌∙◌}
use Rattle.std.proofs.lemmas.Grind.{common_steps}
use Rattle.std.proofs.lemmas.List.{length-take-le, take_at}
use Rattle.general_lemmas.proofs.Fronts.{turned}
use Rattle.site_totals.specs.TotalLists.{IsKept, entries_of, joined_rows}
use Rattle.site_totals.proofs.JoinedRows.{joined_rows_are, kept_joined}
use Rattle.site_totals.proofs.joining.absorb_walked.Goals as goal
use Rattle.site_totals.proofs.joining.absorb_walked.Goals.{After-merge}

-- the spare places are first, and then all that was there
own_rows : (c : After-merge) → drop c.count_missing-missing.result c.deref_mut.result.now ≡ c.args.rows.now.items
own_rows c =
    let old = c.args.rows.now.items in
    let spare = take c.count_missing-missing.result c.args.others.now in
    let grown : c.extend_from_slice.new.self.items ≡ old ++ spare = grind (arith, common_steps) in
    let own : c.len-own.result ≡ length old = search rules in
    let few = length-take-le c.count_missing-missing.result c.args.others.now c.count_missing-missing.ensures.few in
    ap (λ n. drop n c.deref_mut.result.now) (sym few)
    ∙ turned old spare c.deref_mut.result.now c.len-own.result own (c.deref_mut.ensures.value ∙ c.rotate_left.ensures.items ∙ (λ i. drop c.len-own.result (grown i) ++ take c.len-own.result (grown i)))

-- the join is written over the spare places and the old entries
items : (c : After-merge) → take c.rotate_left.new.self.len (c.merge.new.rows ++ drop (length c.merge.new.rows) c.rotate_left.new.self.items) ≡ joined_rows c.args.rows.now.items c.args.others.now
items c =
    take_at c.merge.new.rows (drop (length c.merge.new.rows) c.rotate_left.new.self.items) c.rotate_left.new.self.len (omega arith)
    ∙ c.merge.ensures
    ∙ ap (λ rows. joined_rows rows c.args.others.now) (own_rows c)

pub returns-clause-kept : goal.returns-clause-kept
returns-clause-kept c = subst IsKept (sym (items (goal.at.returns-clause-kept c).After-merge)) (kept_joined c.args.rows.now.items c.args.others.now c.requires.kept c.requires.others_kept)

pub returns-clause-joined : goal.returns-clause-joined
returns-clause-joined c = ap entries_of (items (goal.at.returns-clause-joined c).After-merge) ∙ joined_rows_are c.args.rows.now.items c.args.others.now c.requires.kept.rising c.requires.others_kept.rising
