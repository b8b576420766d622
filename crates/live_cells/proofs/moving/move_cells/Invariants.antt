-- The first cells are moved, and the others stand where they stood.
use Rattle.std.proofs.Common.{◌≡◌, ◌+◌, ◌≤◌, ◌<◌, ℕ, length, get_or, take}
use Rattle.std.specs.FinMap as map
use Rattle.op_arena.specs.Ids.{Id}
use Rattle.live_cells.specs.Moves.{AreMoved}
use Rattle.live_cells.proofs.moving.move_cells.Given as goal

abbrev pub invariant-loop-place : goal.invariant-loop-place
invariant-loop-place g l = record {
  within : l.place ≤ length l.fn.ids.items;
  dots : length l.dots.items ≡ length l.fn.ids.items;
  ids : length l.ids.items ≡ length l.fn.ids.items;
  moved : AreMoved l.fn.cells.held l.fn.cells.spent l.fn.others.held (take l.place l.fn.ids.items) l.cells.held (take l.place l.dots.items) (take l.place l.ids.items);
  spent : l.cells.spent ≡ l.fn.cells.spent;
  spare : l.cells.spare + l.place ≡ l.fn.cells.spare;
  behind : (k : ℕ) (d : Id) → l.place ≤ k → get_or l.ids.items k d ≡ get_or l.fn.ids.items k d;
  left : (k : ℕ) (d : Id) → l.place ≤ k → k < length l.fn.ids.items → map.get l.others.held (get_or l.fn.ids.items k d) ≡ map.get l.fn.others.held (get_or l.fn.ids.items k d);
}
