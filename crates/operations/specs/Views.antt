-- Rows as readers get them, without where their bytes are in memory.
use Rattle.std.specs.Prelude.{ℕ, List}
use Rattle.std.specs.Borrow.{Bor}
use Rattle.operations.specs.Rows.{MemberRow}
use Rattle.operations.specs.declared.row.Row.{Row}

-- the row that a reader is given, with each text as the bytes that it has now
abbrev pub row_view : Row → MemberRow
row_view row = record { penalty = row.penalty; paused = row.paused; reason = row.reason.now; name = row.name.now; state = row.state.now; ring = row.ring }

-- an interface and its row, as a reader is given them, with each text as the bytes that it has now
abbrev pub listed_row_view : Bor (List ℕ) × Row → List ℕ × MemberRow
listed_row_view item = (item.0.now, row_view item.1)
