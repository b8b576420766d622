use Rattle.std.proofs.Common.{arith}
use Rattle.operations.specs.Totals.{key_cmp}
use Rattle.general_lemmas.proofs.SortedEntries.{put_at, put_in_gap, find_in_gap}
use Rattle.operations.proofs.TotalsLaws.{keys_total}
use Rattle.site_totals.proofs.rows.put.Goals as goal

-- memory is wanted only for a key that is not there
pub returns-in_err-insert-in-Err-clause-there : goal.returns-in_err-insert-in-Err-clause-there
returns-in_err-insert-in-Err-clause-there c there = grind (arith, find_in_gap key_cmp keys_total _ _ _ c.in-Err.ensures.absent, c.deref.ensures.value)

-- the entry is written over at its place
pub returns-in-Ok-clause-ok : goal.returns-in-Ok-clause-ok
returns-in-Ok-clause-ok c = put_at key_cmp keys_total _ c.requires c.args.key c.args.totals _ (rw c.deref.ensures.value at c.in-Ok.ensures.found)

-- the entry is added in the gap
pub returns-in_ok-insert-in-Err-clause-ok : goal.returns-in_ok-insert-in-Err-clause-ok
returns-in_ok-insert-in-Err-clause-ok c =
    rw c.in_ok-insert-in-Err.ensures.items (put_in_gap key_cmp keys_total _ c.args.key c.args.totals _ (rw c.deref.ensures.value at c.in-Err.ensures.absent))
