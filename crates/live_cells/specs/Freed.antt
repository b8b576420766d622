-- Placed dots that are removed, all at once.
use Rattle.std.specs.Prelude.{◌≡◌, ◌⊎◌, Bool, true, None, Some, List, filter, if◌then◌else◌}
use Rattle.std.specs.List.{All}
use Rattle.std.specs.FinMap as maps
use Rattle.std.specs.FinSet as sets
use Rattle.dots.specs.Values.{Dot}
use Rattle.op_arena.specs.Ids.{Id}
use Rattle.live_cells.specs.declared.live_dot.LiveDot.{LiveDot}
use Rattle.live_cells.specs.declared.placed.Placed.{Placed}
use Rattle.live_cells.specs.CellIds.{IdSet}
use Rattle.live_cells.specs.PlacedStates.{ArePlaced, CellMap}

-- the placed dots that have a cell
abbrev pub with_cells : CellMap → List Placed → List Placed
with_cells held dots = filter (λ p. maps.contains_key held p.id) dots

-- an id had a cell before, and has none now
pub record WasFreed (held after : CellMap) (id : Id) : Type 0 where
  pub cell : LiveDot
  pub had : maps.get held id ≡ Some cell
  pub gone : maps.get after id ≡ None

-- Some cells were removed, and the others are as they were. The dots that have a cell are placed, and the freed ids are spent,
-- in addition to those that were spent before.
pub record AreFreed (dots : List Placed) (held : CellMap) (spent : IdSet) (after : CellMap) (now : IdSet) : Type 0 where
  pub placed : ArePlaced (with_cells after dots) after now
  pub was : (id : Id) (cell : LiveDot) → maps.get after id ≡ Some cell → maps.get held id ≡ Some cell
  pub spent_before : (id : Id) → sets.contains spent id ≡ true → sets.contains now id ≡ true
  pub spent_now : (id : Id) → WasFreed held after id → sets.contains now id ≡ true
  pub spent_alone : (id : Id) → sets.contains now id ≡ true → (sets.contains spent id ≡ true) ⊎ WasFreed held after id

-- placed dots that pass a test have no cell, and the others have the one that they had
abbrev pub AreChosen : (Dot → Bool) → List Placed → CellMap → CellMap → Type 0
AreChosen test dots held after = All (λ p. maps.get after p.id ≡ (if test p.dot then None else maps.get held p.id)) dots
