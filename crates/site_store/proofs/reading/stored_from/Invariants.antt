use Rattle.std.proofs.Common.{◌≡◌, ◌+◌, length, take}
use Rattle.site_store.specs.Steps.{rows_from}
use Rattle.site_store.proofs.reading.stored_from.Given as goal

abbrev pub invariant-loop-row : goal.invariant-loop-row
invariant-loop-row l = (l.at ≡ l.first + length l.steps.items) × (rows_from l.first l.steps.items ≡ take l.row-index l.rows)
