-- Cells that are moved into another arena, where each has an id of its own.
use Rattle.std.specs.Prelude.{ℕ, ◌≡◌, ◌<◌, ◌+◌, ◌⊎◌, true, false, Some, None, Contains, List, length}
use Rattle.std.specs.List.{All}
use Rattle.std.specs.Option.{option_map}
use Rattle.std.specs.FinMap as maps
use Rattle.std.specs.FinSet as sets
use Rattle.dots.specs.Values.{Dot}
use Rattle.op_arena.specs.Ids.{Id, id_of}
use Rattle.live_cells.specs.declared.live_dot.LiveDot.{LiveDot}
use Rattle.live_cells.specs.declared.placed.Placed.{Placed}
use Rattle.live_cells.specs.CellIds.{IdSet}
use Rattle.live_cells.specs.PlacedStates.{AreHeld, CellMap, cells_at, ids_of}

-- an id that no cell had, of which the lesser generations are spent
pub record IsUnusedId (held : CellMap) (spent : IdSet) (id : Id) : Type 0 where
  pub free : maps.get held id ≡ None
  pub unspent : sets.contains spent id ≡ false
  pub lesser : (generation : ℕ) → generation < id.generation → sets.contains spent (id_of id.index generation) ≡ true

-- a cell has the dot
pub record IsDotThere (there : CellMap) (dot : Dot) : Type 0 where
  pub id : Id
  pub cell : LiveDot
  pub held : maps.get there id ≡ Some cell
  pub is : cell.dot ≡ dot

-- The cells of ids there were moved here: each has a new id here, which replaces the one that it had there, and is listed with its
-- dot. All other cells are those that were here.
pub record AreMoved (held : CellMap) (spent : IdSet) (there : CellMap) (ids : List Id) (after : CellMap) (dots : List Placed) (now : List Id) : Type 0 where
  pub listed : ids_of dots ≡ now
  pub named : All (λ p. option_map (λ c. c.dot) (maps.get after p.id) ≡ Some p.dot) dots
  pub cells : cells_at after now ≡ cells_at there ids
  pub held_now : AreHeld after now
  pub new_ids : All (IsUnusedId held spent) now
  pub from : All (λ p. IsDotThere there p.dot) dots
  pub kept : (id : Id) (cell : LiveDot) → maps.get held id ≡ Some cell → maps.get after id ≡ Some cell
  pub alone : (id : Id) (cell : LiveDot) → maps.get after id ≡ Some cell → (maps.get held id ≡ Some cell) ⊎ Contains dots (record { dot = cell.dot; id = id })
  pub count : maps.len after ≡ maps.len held + length now
