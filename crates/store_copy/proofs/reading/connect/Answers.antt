use Rattle.std.proofs.Common.{inl}
use Rattle.store_copy.proofs.CleanMemory.{always_clean, left_clean}
use Rattle.store_copy.proofs.Refused.{holds_none}
use Rattle.store_copy.proofs.reading.connect.Goals as goal

pub returns-in-Ok-clause-opened : goal.returns-in-Ok-clause-opened
returns-in-Ok-clause-opened c = c.in-Ok.ensures.opened (always_clean c.in-Ok.conn.store.pool)

pub returns-in-Ok-clause-found : goal.returns-in-Ok-clause-found
returns-in-Ok-clause-found c =
    let found = c.in-Ok.ensures.found (always_clean c.in-Ok.conn.store.pool) in
    record { holds = found.holds; reads = found.reads }

pub returns-in-Err-clause-refused : goal.returns-in-Err-clause-refused
returns-in-Err-clause-refused c is db held = holds_none _ _ _ _ _ c.in-Err.error (c.open_fault.ensures.no_store is) (c.in-Err.ensures.cause (left_clean c.in-Err.left)) (inl (db, held))
