-- What contracts see of a set of members: the dots that it knows, the live ones with member and fields, and, without meaning for
-- the members, its ids and its room.
use Rattle.std.specs.Prelude.{ℕ, ◌≡◌, ◌≢◌, ◌≤◌, ◌+◌, ◌⊎◌, Bool, true, false, not, Option, Some, None, Result, Ok, Err, refl, if◌then◌else◌}
use Rattle.std.specs.FinMap as map
use Rattle.std.specs.FinSet as set
use Rattle.std.specs.Ordering.{eq_by_cmp}
use Rattle.std.specs.Coded.{Coded, code_by, coded×, coded_ℕ}
use Rattle.dots.specs.declared.limits.TheConstants.{MOST_LIVE, MOST_RUNS}
use Rattle.dots.specs.declared.member.Member.{Member}
use Rattle.dots.specs.Values.{Dot}
use Rattle.dots.specs.Orders.{dot_cmp}
use Rattle.dots.specs.DotSets.{dot_code, run_count}
use Rattle.operations.specs.Conditions.{DotFields, Condition, Live, Dead, ConditionsAgree, FieldsInConflict, condition_joined, no_fields}
use Rattle.operations.specs.Rows.{DotView}
use Rattle.operations.specs.Codes.{member_code, fields_code}
use Rattle.dots.specs.WithinLimits.{AreDots}
use Rattle.op_arena.specs.Ids.{Id, id_code}
use Rattle.member_orset.specs.declared.join_fault.JoinFault.{JoinFault}
use Rattle.live_cells.specs.declared.places.TheConstants.{LAST_GENERATION}
use Rattle.live_cells.specs.CellIds.{AreIdsApart, IdMap, IdSet, IdsFollow, retired_of}
pub use Rattle.live_cells.specs.Holdings.{Holding, IsPresentIn, view_of}

-- A set of members. A known dot that isn't live is dead; of an unknown dot the set says nothing. The other fields say nothing of
-- members: the ids of the live dots, the spent ids, the number of retired places, and for how many live dots and runs there is
-- room.
pub record Members : Type 0 where
  pub known : set.FinSet dot_cmp
  pub live : map.FinMap dot_cmp Holding
  pub ids : IdMap
  pub spent : IdSet
  pub retired : ℕ
  pub cell_room : ℕ
  pub run_room : ℕ

-- a set is stored as the tuple of its fields
abbrev pub members_code : Coded Members
members_code =
    code_by (set.FinSet dot_cmp × (map.FinMap dot_cmp Holding × (IdMap × (IdSet × (ℕ × (ℕ × ℕ))))))
    (coded× (set.code dot_code) (coded× (map.code dot_code (coded× member_code fields_code)) (coded× (map.code dot_code id_code) (coded× (set.code id_code) (coded× coded_ℕ (coded× coded_ℕ coded_ℕ))))))
    (λ s. (s.known, (s.live, (s.ids, (s.spent, (s.retired, (s.cell_room, s.run_room)))))))
    (λ p. record { known = p.0; live = p.1.0; ids = p.1.1.0; spent = p.1.1.1.0; retired = p.1.1.1.1.0; cell_room = p.1.1.1.1.1.0; run_room = p.1.1.1.1.1.1 }) (λ _. refl)

-- the condition of a dot, by what is live and by whether it is known
abbrev pub condition_at : Option Holding → Bool → Option Condition
condition_at (Some h) known = Some (Live h.0 h.1)
condition_at None true = Some Dead
condition_at None false = None

-- the condition of a dot
abbrev pub condition_of : Members → Dot → Option Condition
condition_of s dot = condition_at (map.get s.live dot) (set.contains s.known dot)

-- two sets say the same: they know the same dots, and the same are live with the same members and fields
pub record SaysTheSame (s t : Members) : Type 0 where
  pub known : t.known ≡ s.known
  pub live : t.live ≡ s.live

-- a set says the same as before, and each id is as before; its room may differ
pub record IsUnchanged (old new : Members) : Type 0 where
  pub known : new.known ≡ old.known
  pub live : new.live ≡ old.live
  pub ids : new.ids ≡ old.ids
  pub spent : new.spent ≡ old.spent
  pub retired : new.retired ≡ old.retired

-- the ids that a set gives follow those of the set before
abbrev pub KeepsIds : Members → Members → Type 0
KeepsIds old new = IdsFollow old.ids old.spent new.ids new.spent

-- some field is set
abbrev pub HasField : DotFields → Type 0
HasField fields = fields ≢ no_fields

-- a live dot is known, and has a field
pub record IsLiveIn (s : Members) (dot : Dot) (h : Holding) : Type 0 where
  pub known : set.contains s.known dot ≡ true
  pub set : HasField h.1

-- the invariant of a set: few enough dots are live, each known and with a field
pub record AreKept (known : set.FinSet dot_cmp) (live : map.FinMap dot_cmp Holding) : Type 0 where
  pub few : map.len live ≤ MOST_LIVE
  pub heard : (dot : Dot) (h : Holding) → map.get live dot ≡ Some h → set.contains known dot ≡ true
  pub set : (dot : Dot) (h : Holding) → map.get live dot ≡ Some h → HasField h.1

-- the dots that are known and not live
unfoldable pub dead_among : set.FinSet dot_cmp → (Dot → Bool) → set.FinSet dot_cmp
dead_among known live = set.retain known (λ dot. not (live dot))

-- there are at most as many spent ids as dead dots
abbrev pub AreOfTheDead : set.FinSet dot_cmp → (Dot → Bool) → IdSet → Type 0
AreOfTheDead known live spent = set.len spent ≤ set.len (dead_among known live)

-- the invariant of a set, with its spent ids: they are at most as many as the dead dots
pub record IsSet (known : set.FinSet dot_cmp) (live : map.FinMap dot_cmp Holding) (spent : IdSet) : Type 0 where
  pub kept : AreKept known live
  pub dead : AreOfTheDead known (map.contains_key live) spent

-- the live dot that has an id, with its member and fields
pub record HasId (s : Members) (id : Id) (h : Holding) : Type 0 where
  pub dot : Dot
  pub named : map.get s.ids dot ≡ Some id
  pub live : map.get s.live dot ≡ Some h

-- the greatest number of retired places: each had 2 ^ 32 dots, and there are 2 ^ 46 dots
abbrev pub most_retired : ℕ
most_retired = 16384

-- the invariant of every set: few enough live dots, runs, and retired places, which are those of the spent ids of the last
-- generation; each dot is within the limits; and each live dot is known, has a field, and alone has an id, which isn't spent
pub record IsWithinLimits (s : Members) : Type 0 where
  pub cells : map.len s.live ≤ MOST_LIVE
  pub rested : s.retired ≤ most_retired
  pub runs : run_count s.known ≤ MOST_RUNS
  pub known : AreDots s.known
  pub held : (dot : Dot) (h : Holding) → map.get s.live dot ≡ Some h → IsLiveIn s dot h
  pub named : (dot : Dot) → map.contains_key s.ids dot ≡ map.contains_key s.live dot
  pub apart : AreIdsApart s.ids s.spent
  pub worn : s.retired ≡ retired_of LAST_GENERATION s.spent

-- what readers of a set see: the live dots with member and fields
abbrev pub dot_view_of : Members → DotView
dot_view_of s = view_of s.live

-- the conditions after a dot is joined with one more condition
abbrev pub joined_at : Members → Dot → Condition → Dot → Option Condition
joined_at s dot condition q =
    if eq_by_cmp dot_cmp q dot then condition_joined (condition_of s q) (Some condition) else condition_of s q

-- two conditions are in conflict: both are live, with two members or with fields in conflict
abbrev pub ConditionsInConflict : Option Condition → Option Condition → Type 0
ConditionsInConflict (Some (Live m f)) (Some (Live n g)) = (m ≢ n) ⊎ FieldsInConflict f g
ConditionsInConflict (Some (Live m f)) (Some Dead) = ⊥
ConditionsInConflict (Some (Live m f)) None = ⊥
ConditionsInConflict (Some Dead) y = ⊥
ConditionsInConflict None y = ⊥

-- the number of live dots after one more is asserted: a known one, live or dead, adds none
abbrev pub live_with : ℕ → Bool → ℕ
live_with live known = if known then live else live + 1

-- the number of live dots once a dot is asserted, if its conditions agree
abbrev pub cells_with : Members → Dot → ℕ
cells_with s dot = live_with (map.len s.live) (set.contains s.known dot)

-- a dot whose conditions in two sets are in conflict
pub record SetsInConflict (s t : Members) : Type 0 where
  pub dot : Dot
  pub conflict : ConditionsInConflict (condition_of s dot) (condition_of t dot)

-- some dot of a set is live with a member
abbrev pub IsPresent : Members → Member → Type 0
IsPresent s member = IsPresentIn s.live member

-- two sets agree: each dot's conditions agree
abbrev pub SetsAgree : Members → Members → Type 0
SetsAgree s t = (dot : Dot) → ConditionsAgree (condition_of s dot) (condition_of t dot)

-- the condition of a dot in the join of two sets
abbrev pub both_joined : Members → Members → Dot → Option Condition
both_joined s t dot = condition_joined (condition_of s dot) (condition_of t dot)

-- whether a condition is that a dot is live
abbrev pub is_live : Option Condition → Bool
is_live None = false
is_live (Some Dead) = false
is_live (Some (Live member fields)) = true

-- the dots that are live in the join of two sets
unfoldable pub joined_dots : Members → Members → set.FinSet dot_cmp
joined_dots s t = set.retain (set.union s.known t.known) (λ dot. is_live (both_joined s t dot))

-- the number of live dots in the join of two sets
abbrev pub cells_joined : Members → Members → ℕ
cells_joined s t = set.len (joined_dots s t)

-- the number of runs of known dots in the join of two sets
abbrev pub runs_joined : Members → Members → ℕ
runs_joined s t = run_count (set.union s.known t.known)

-- the join with another set can't fail: the two agree, the join is small enough, and there is room for the live dots and the runs
-- of both
pub record IsPrepared (s t : Members) : Type 0 where
  pub agree : SetsAgree s t
  pub cells : cells_joined s t ≤ MOST_LIVE
  pub runs : runs_joined s t ≤ MOST_RUNS
  pub cell_room : map.len s.live + map.len t.live ≤ s.cell_room
  pub run_room : run_count s.known + run_count t.known ≤ s.run_room

-- a set is the join of two: it knows the dots of both, and each dot has the join of its conditions
pub record IsJoinOf (s t joined : Members) : Type 0 where
  pub known : joined.known ≡ set.union s.known t.known
  pub conditions : (dot : Dot) → condition_of joined dot ≡ both_joined s t dot

-- a join was refused for this cause, and returned the other set
abbrev pub IsRefusedFor : Result (Unit {0}) (JoinFault × Members) → JoinFault → Type 0
IsRefusedFor (Ok u) fault = ⊥
IsRefusedFor (Err refused) fault = refused.0 ≡ fault
