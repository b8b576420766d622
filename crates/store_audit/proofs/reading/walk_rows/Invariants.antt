use Rattle.std.proofs.Common.{take, []}
use Rattle.stored_steps.specs.declared.base.StoredBase.{StoredBase}
use Rattle.store_audit.specs.Walks.{HasWalked}
use Rattle.store_audit.proofs.reading.walk_rows.Given as goal

-- the rows so far were done again
abbrev pub invariant-loop-index : goal.invariant-loop-index
invariant-loop-index l = (base : StoredBase) → HasWalked base [] l.initial.walk → HasWalked base (take l.index l.rows) l.walk
