-- A walk over the rows of a queue, by the index of members: the place that it has reached, and the rows that are left.
use Rattle.std.specs.Prelude.{ℕ, zero, suc, ◌≡◌, ◌<◌, ◌≤◌, true, false, List, length, slice_get, slice_index_or, Option, None}
use Rattle.std.specs.List.{AllWithin}
use Rattle.std.specs.Option.{option_and_then}
use Rattle.operations.specs.Rows.{MemberRow, interface_in}
use Rattle.op_arena.specs.Ids.{Id}
use Rattle.live_cells.specs.Index.{Listed}
use Rattle.live_cells.specs.PlacedStates.{PlacedState, cells_of, listed_at}
use Rattle.live_cells.specs.ShownRows.{cells_view, is_passed, rows_after}

-- the interface of the entry before a place, where there is one that is in a queue
abbrev pub interface_before : ℕ → List Listed → ℕ → Option (List ℕ)
interface_before queue index zero = None
interface_before queue index (suc place) = option_and_then (λ l. interface_in queue l.member) (slice_get index place)

-- the entries before a place are those of lesser queues, and those of a queue up to the interface before the place
pub record IsReached (queue : ℕ) (index : List Listed) (place : ℕ) : Type 0 where
  pub within : place ≤ length index
  pub before : AllWithin (λ l. is_passed queue (interface_before queue index place) l.member ≡ true) index 0 place
  pub rest : AllWithin (λ l. is_passed queue (interface_before queue index place) l.member ≡ false) index place (length index)

-- an entry of the queue is at the place that is reached
pub record IsNext (queue : ℕ) (index : List Listed) (place : ℕ) (l : Listed) : Type 0 where
  pub within : place < length index
  pub here : l ≡ slice_index_or index place l
  pub own : l.member.queue ≡ queue

-- the rows of a queue that are left, where a place is reached
abbrev pub rows_left : PlacedState → List Id → ℕ → ℕ → List (List ℕ × MemberRow)
rows_left s members queue place = rows_after (cells_view (cells_of s)) queue (interface_before queue (listed_at s.held members) place)
