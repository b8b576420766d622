use Rattle.std.proofs.Common.{sym, ap, ◌∙◌}
use Rattle.std.specs.Option.{unwrap_or}
use Rattle.dots.specs.CountedCalls.{no_calls}
use Rattle.operations.specs.Totals.{key_cmp}
use Rattle.general_lemmas.proofs.SortedEntries.{find_at, find_in_gap}
use Rattle.operations.proofs.TotalsLaws.{keys_total}
use Rattle.site_totals.proofs.rows.row_totals.Goals as goal

-- the entry at the place is the one that the key finds
pub returns-in-Ok : goal.returns-in-Ok
returns-in-Ok c = sym (ap (λ o. unwrap_or o no_calls) (find_at key_cmp keys_total _ c.requires _ _ _ c.in-Ok.ensures.found))

pub returns-in-Err : goal.returns-in-Err
returns-in-Err c = c.none.ensures ∙ sym (ap (λ o. unwrap_or o no_calls) (find_in_gap key_cmp keys_total _ _ _ c.in-Err.ensures.absent))
