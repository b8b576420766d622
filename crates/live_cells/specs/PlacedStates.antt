-- The live dots in order, each with the id of its cell, and the cells by their ids.
use Rattle.std.specs.Prelude.{ℕ, ◌≡◌, ◌≤◌, false, IsTrue, IsSome, Some, List, [], length, map, min, refl}
use Rattle.std.specs.Coded.{Coded, code_by, coded×, coded_ℕ, coded_list}
use Rattle.std.specs.List.{All, filter_map}
use Rattle.std.specs.Option.{option_cmp, option_map}
use Rattle.std.specs.declared.cmp.Ordering.{Ordering}
use Rattle.std.specs.FinMap as maps
use Rattle.std.specs.FinSet as sets
use Rattle.dots.specs.Values.{Dot}
use Rattle.dots.specs.Orders.{dot_cmp}
use Rattle.dots.specs.DotSets.{dot_code}
use Rattle.operations.specs.Codes.{member_code, fields_code}
use Rattle.operations.specs.Conditions.{DotFields, fields_joined}
use Rattle.dots.specs.declared.member.Member.{Member}
use Rattle.op_arena.specs.Ids.{Id, id_cmp, id_code}
use Rattle.live_cells.specs.declared.live_dot.LiveDot.{LiveDot}
use Rattle.live_cells.specs.declared.placed.Placed.{Placed}
use Rattle.live_cells.specs.CellIds.{IdSet}
use Rattle.live_cells.specs.LiveLists.{live_of}
use Rattle.live_cells.specs.LiveStates.{LiveState}
use Rattle.live_cells.specs.Index.{IsIndex, Listed, listed_cmp, listing}
use Rattle.live_cells.specs.PlacedLists.{id_entries}

-- the cells by their ids
abbrev pub CellMap : Type 0
CellMap = maps.FinMap id_cmp LiveDot

-- the live dots in order, each with its id; the cells; the spent ids; and the number of live dots for which there is room in all
pub record PlacedState : Type 0 where
  pub dots : List Placed
  pub held : CellMap
  pub spent : IdSet
  pub room : ℕ

-- a cell is stored as the tuple of its parts
abbrev pub cell_code : Coded LiveDot
cell_code =
    code_by (Dot × (Member × DotFields)) (coded× dot_code (coded× member_code fields_code)) (λ c. (c.dot, (c.member, c.fields)))
    (λ p. record { dot = p.0; member = p.1.0; fields = p.1.1 }) (λ _. refl)

-- a placed dot is stored as a tuple
abbrev pub place_code : Coded Placed
place_code = code_by (Dot × Id) (coded× dot_code id_code) (λ p. (p.dot, p.id)) (λ p. record { dot = p.0; id = p.1 }) (λ _. refl)

-- the state of placed dots is stored as a tuple
abbrev pub placed_code : Coded PlacedState
placed_code =
    code_by (List Placed × (CellMap × (IdSet × ℕ)))
    (coded× (coded_list place_code) (coded× (maps.code id_code cell_code) (coded× (sets.code id_code) coded_ℕ)))
    (λ s. (s.dots, (s.held, (s.spent, s.room))))
    (λ p. record { dots = p.0; held = p.1.0; spent = p.1.1.0; room = p.1.1.1 }) (λ _. refl)

-- the cells of ids, in order
abbrev pub cells_at : CellMap → List Id → List LiveDot
cells_at held ids = filter_map (λ id. maps.get held id) ids

-- each id has a cell
abbrev pub AreHeld : CellMap → List Id → Type 0
AreHeld held ids = All (λ id. IsSome (maps.get held id)) ids

-- the ids of placed dots
abbrev pub ids_of : List Placed → List Id
ids_of dots = map (λ p. p.id) dots

-- the cells in the order of their dots
abbrev pub cells_of : PlacedState → List LiveDot
cells_of s = cells_at s.held (ids_of s.dots)

-- a cell whose fields are joined with others
abbrev pub joined_with : LiveDot → DotFields → LiveDot
joined_with c fields = record { dot = c.dot; member = c.member; fields = fields_joined c.fields fields }

-- placed dots are sorted; the id of each is that of a cell of the dot, and isn't spent; and each cell's dot is placed with its id
pub record ArePlaced (dots : List Placed) (held : CellMap) (spent : IdSet) : Type 0 where
  pub sorted : IsTrue (maps.is_sorted dot_cmp (id_entries dots))
  pub there : All (λ p. option_map (λ c. c.dot) (maps.get held p.id) ≡ Some p.dot) dots
  pub alone : (id : Id) (cell : LiveDot) → maps.get held id ≡ Some cell → maps.Entries.find dot_cmp cell.dot (id_entries dots) ≡ Some id
  pub as_many : maps.len held ≡ length dots
  pub unspent : All (λ p. sets.contains spent p.id ≡ false) dots

-- the state of placed dots is sorted and consistent with its cells
abbrev pub IsPlaced : PlacedState → Type 0
IsPlaced s = ArePlaced s.dots s.held s.spent

-- the entries of ids in the index of members
abbrev pub listed_at : CellMap → List Id → List Listed
listed_at held ids = map listing (cells_at held ids)

-- the order of two ids in the index of members, by the entries of their cells: an id without one precedes those that have one
abbrev pub id_order : CellMap → Id → Id → Ordering
id_order held id other = option_cmp listed_cmp (option_map listing (maps.get held id)) (option_map listing (maps.get held other))

-- the invariant of indexed live dots: they are placed, and the index has the ids of their cells, by their members and then by dots
pub record AreIndexed (s : PlacedState) (members : List Id) : Type 0 where
  pub placed : IsPlaced s
  pub held : AreHeld s.held members
  pub index : IsIndex (listed_at s.held members) (live_of (cells_of s))

-- placed dots that have no index yet: no id is spent, and the list that it is made in is empty and has room for it
pub record AreUnlisted (s : PlacedState) (members : List Id) (capacity : ℕ) : Type 0 where
  pub placed : IsPlaced s
  pub unspent : s.spent ≡ sets.empty
  pub empty : members ≡ []
  pub room : length s.dots ≤ capacity

-- what contracts see of placed dots, if the index has room for `capacity` ids
abbrev pub live_state : PlacedState → ℕ → LiveState
live_state s capacity = record { live = live_of (cells_of s); ids = maps.from_sorted (id_entries s.dots); spent = s.spent; room = min s.room capacity }
