use Rattle.std.proofs.Common.{is_none, sym, ap}
use Rattle.operations.specs.Totals.{key_cmp}
use Rattle.general_lemmas.proofs.SortedEntries.{find_at, find_in_gap}
use Rattle.operations.proofs.TotalsLaws.{keys_total}
use Rattle.site_totals.proofs.few.lacks.Goals as goal

pub returns-in-Ok : goal.returns-in-Ok
returns-in-Ok c = sym (ap is_none (find_at key_cmp keys_total _ c.requires _ _ (c.args.key, record { completed = 0; abandoned = 0 }) c.in-Ok.ensures.found))

pub returns-in-Err : goal.returns-in-Err
returns-in-Err c = sym (ap is_none (find_in_gap key_cmp keys_total _ _ _ c.in-Err.ensures.absent))
