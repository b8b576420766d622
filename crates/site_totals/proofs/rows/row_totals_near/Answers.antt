use Rattle.std.proofs.Common.{◌≡◌, sym, ap, ◌∙◌, arith, rules}
use Rattle.std.specs.Prelude.{slice_index_or}
use Rattle.std.specs.Option.{unwrap_or}
use Rattle.std.proofs.lemmas.Grind.{common_steps}
use Rattle.std.proofs.lemmas.List.{get_or_default}
use Rattle.dots.specs.CountedCalls.{no_calls}
use Rattle.general_lemmas.specs.SortedEntries.{IsAt}
use Rattle.operations.specs.Totals.{key_cmp}
use Rattle.general_lemmas.proofs.SortedEntries.{find_at, find_in_gap}
use Rattle.operations.proofs.TotalsLaws.{keys_total}
use Rattle.site_totals.specs.TotalLists.{Row}
use Rattle.site_totals.proofs.rows.row_totals_near.Goals as goal

-- the entry at the guessed place has the key
pub returns-then-eq : goal.returns-then-eq
returns-then-eq c =
    let same : (slice_index_or c.args.rows.now c.args.guess c.index-rows-guess.result).0 ≡ c.args.key = first_of (cc, first_of (search rules, grind (arith, common_steps))) in
    let at : IsAt c.args.rows.now c.args.key c.args.guess = record {
      in_range = omega (arith, c.if-guess-rows.true);
      has_key = λ none. ap (λ (row : Row). row.0) (get_or_default c.args.rows.now c.args.guess none c.index-rows-guess.result (omega (arith, c.if-guess-rows.true))) ∙ same;
    } in
    sym (ap (λ o. unwrap_or o no_calls) (find_at key_cmp keys_total _ c.requires _ _ _ at))

-- the entry at the place is the one that the key finds
pub returns-in-Ok : goal.returns-in-Ok
returns-in-Ok c = sym (ap (λ o. unwrap_or o no_calls) (find_at key_cmp keys_total _ c.requires _ _ _ c.in-Ok.ensures.found))

pub returns-in-Err : goal.returns-in-Err
returns-in-Err c = c.none.ensures ∙ sym (ap (λ o. unwrap_or o no_calls) (find_in_gap key_cmp keys_total _ _ _ c.in-Err.ensures.absent))
