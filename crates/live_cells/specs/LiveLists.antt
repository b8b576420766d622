-- The cells of live dots, and what contracts see of them.
use Rattle.std.specs.Prelude.{ℕ, ◌≡◌, ◌≤◌, ◌<◌, true, List, length, map, slice_index_or}
use Rattle.std.specs.List.{AllWithin}
use Rattle.std.specs.Ordering.{is_lt}
use Rattle.std.specs.FinMap as maps
use Rattle.dots.specs.Values.{Dot}
use Rattle.dots.specs.Orders.{dot_cmp}
use Rattle.live_cells.specs.declared.live_dot.LiveDot.{LiveDot}
use Rattle.live_cells.specs.Holdings.{Holding}

-- what a cell holds
abbrev pub holding : LiveDot → Holding
holding c = (c.member, c.fields)

-- a cell as an entry of a map
abbrev pub entry_of : LiveDot → Dot × Holding
entry_of c = (c.dot, holding c)

-- the cells as the entries of a map
abbrev pub entries_of : List LiveDot → List (Dot × Holding)
entries_of cells = map entry_of cells

-- the map of the cells
unfoldable pub live_of : List LiveDot → maps.FinMap dot_cmp Holding
live_of cells = maps.from_sorted (entries_of cells)

-- a dot's cell stands at a place
pub record IsCellAt (cells : List LiveDot) (dot : Dot) (place : ℕ) : Type 0 where
  pub within : place < length cells
  pub before : AllWithin (λ c. is_lt (dot_cmp c.dot dot) ≡ true) cells 0 place
  pub here : (d : LiveDot) → dot ≡ (slice_index_or cells place d).dot

-- a dot has no cell, and a place is where its cell would go in
pub record IsGap (cells : List LiveDot) (dot : Dot) (place : ℕ) : Type 0 where
  pub within : place ≤ length cells
  pub before : AllWithin (λ c. is_lt (dot_cmp c.dot dot) ≡ true) cells 0 place
  pub after : (d : LiveDot) → place < length cells → is_lt (dot_cmp dot (slice_index_or cells place d).dot) ≡ true
