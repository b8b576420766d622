-- What contracts see of a delta.
use Rattle.std.specs.Prelude.{◌≡◌, ◌≤◌, None, refl}
use Rattle.std.specs.FinMap as map
use Rattle.std.specs.FinSet as set
use Rattle.std.specs.Coded.{Coded, code_by, coded×}
use Rattle.dots.specs.Values.{Dot}
use Rattle.member_orset.specs.Members as sets
use Rattle.member_orset.specs.Members.{Members, members_code, condition_of}
use Rattle.site_totals.specs.Tally.{Tally, tally_code}

-- what contracts see of a delta: a set of members and totals, both with their room, and the set with its retired places
pub record DeltaState : Type 0 where
  pub members : Members
  pub totals : Tally

-- a delta is stored as the pair of its members and its totals
abbrev pub delta_code : Coded DeltaState
delta_code = code_by (Members × Tally) (coded× members_code tally_code) (λ d. (d.members, d.totals)) (λ p. record { members = p.0; totals = p.1 }) (λ _. refl)

-- delta `d` is empty: it has no condition of a dot, no known dot and no total
pub record IsEmpty (d : DeltaState) : Type 0 where
  pub conditions : (dot : Dot) → condition_of d.members dot ≡ None
  pub known : d.members.known ≡ set.empty
  pub totals : d.totals.entries ≡ map.empty

-- deltas `d` and `e` say the same: they have the same condition of each dot, know the same dots and
-- have the same totals
pub record IsSame (d e : DeltaState) : Type 0 where
  pub conditions : (dot : Dot) → condition_of d.members dot ≡ condition_of e.members dot
  pub known : d.members.known ≡ e.members.known
  pub totals : d.totals.entries ≡ e.totals.entries

-- from `old` to `new` a delta says the same as before, with the same ids and as many retired places; its room may differ
pub record IsUnchanged (old new : DeltaState) : Type 0 where
  pub members : sets.IsUnchanged old.members new.members
  pub totals : new.totals.entries ≡ old.totals.entries

-- no room of delta `new` is less than that of `old`
pub record KeepsRoom (old new : DeltaState) : Type 0 where
  pub cells : old.members.cell_room ≤ new.members.cell_room
  pub runs : old.members.run_room ≤ new.members.run_room
  pub totals : old.totals.room ≤ new.totals.room
