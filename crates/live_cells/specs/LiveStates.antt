-- What contracts see of live dots: the member and the fields of each, its id, the ids that are spent, and room.
use Rattle.std.specs.Prelude.{ℕ, ◌≡◌, ◌≤◌, ◌+◌, ◌*◌, Bool, not, ◌&&◌, Option, Some, None, refl, if◌then◌else◌}
use Rattle.std.specs.FinMap as map
use Rattle.std.specs.FinSet as set
use Rattle.std.specs.Coded.{Coded, code_by, coded×, coded_ℕ}
use Rattle.dots.specs.Values.{Dot}
use Rattle.dots.specs.Orders.{dot_cmp}
use Rattle.dots.specs.DotSets.{dot_code}
use Rattle.operations.specs.Codes.{member_code, fields_code}
use Rattle.operations.specs.Conditions.{DotFields, fields_joined}
use Rattle.op_arena.specs.Ids.{Id, id_code}
use Rattle.live_cells.specs.CellIds.{AreIdsApart, IdMap, IdSet, IdsFollow, IsNew, retired_of}
use Rattle.live_cells.specs.Holdings.{Holding}

-- the live dots with member and fields, the id of each, the ids of removed dots, and the number of live dots for which there is
-- room in all
pub record LiveState : Type 0 where
  pub live : map.FinMap dot_cmp Holding
  pub ids : IdMap
  pub spent : IdSet
  pub room : ℕ

-- the state of live dots is stored as the tuple of its fields
abbrev pub live_code : Coded LiveState
live_code =
    code_by (map.FinMap dot_cmp Holding × (IdMap × (IdSet × ℕ)))
    (coded× (map.code dot_code (coded× member_code fields_code)) (coded× (map.code dot_code id_code) (coded× (set.code id_code) coded_ℕ)))
    (λ s. (s.live, (s.ids, (s.spent, s.room))))
    (λ p. record { live = p.0; ids = p.1.0; spent = p.1.1.0; room = p.1.1.1 }) (λ _. refl)

-- the greatest number of places of cells
abbrev pub most_places : ℕ
most_places = 1048576

-- the invariant of live dots: each has an id, which is its own and not spent; with the retired places they are few enough; and each
-- of those places has spent an id in each of its generations
pub record AreLive (last : ℕ) (s : LiveState) : Type 0 where
  pub named : (dot : Dot) → map.contains_key s.ids dot ≡ map.contains_key s.live dot
  pub apart : AreIdsApart s.ids s.spent
  pub places : retired_of last s.spent + map.len s.live ≤ most_places
  pub worn : retired_of last s.spent * (last + 1) ≤ set.len s.spent

-- the spent ids after a dot's id is spent, if it has one
abbrev pub spent_with : Option Id → IdSet → IdSet
spent_with None spent = spent
spent_with (Some id) spent = set.insert spent id

-- the live dot that has an id, and what it holds
pub record HasId (s : LiveState) (id : Id) (h : Holding) : Type 0 where
  pub dot : Dot
  pub named : map.get s.ids dot ≡ Some id
  pub live : map.get s.live dot ≡ Some h

-- live dots where the fields of one of them are joined with others
abbrev pub joined_at_held : map.FinMap dot_cmp Holding → Dot → DotFields → Option Holding → map.FinMap dot_cmp Holding
joined_at_held live dot fields None = live
joined_at_held live dot fields (Some h) = map.insert live dot (h.0, fields_joined h.1 fields)

-- live dots where the fields of a dot are joined with others, if it is live
abbrev pub fields_joined_at : map.FinMap dot_cmp Holding → Dot → DotFields → map.FinMap dot_cmp Holding
fields_joined_at live dot fields = joined_at_held live dot fields (map.get live dot)

-- whether a dot is known there and not live
abbrev pub dead_there : set.FinSet dot_cmp → map.FinMap dot_cmp Holding → Dot → Bool
dead_there known there dot = set.contains known dot && not (map.contains_key there dot)

-- the dots that pass a test were removed, and their ids are spent; the others are as before, and no less room is left
pub record IsThinned (dead : Dot → Bool) (old new : LiveState) : Type 0 where
  pub live : (q : Dot) → map.get new.live q ≡ (if dead q then None else map.get old.live q)
  pub ids : (q : Dot) → map.get new.ids q ≡ (if dead q then None else map.get old.ids q)
  pub follow : IdsFollow old.ids old.spent new.ids new.spent
  pub room : old.room + map.len new.live ≤ new.room + map.len old.live

-- dots have become live, with ids that no dot had before; the others have theirs as before, and the same ids are spent
pub record HaveGrown (old new : LiveState) : Type 0 where
  pub kept : (q : Dot) (id : Id) → map.get old.ids q ≡ Some id → map.get new.ids q ≡ Some id
  pub new_ids : (q : Dot) (id : Id) → map.get old.ids q ≡ None → map.get new.ids q ≡ Some id → IsNew old.ids old.spent old.spent id
  pub spent : new.spent ≡ old.spent
