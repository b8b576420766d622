-- What the places of a chunk own and lend, at values of the row R. Only this crate's own clauses cite this module.
use Rattle.std.specs.Prelude.{◌≡◌, ℕ, ◌+◌, ◌-◌, ◌*◌, ◌^◌, ◌<◌, ◌≤◌, List, [], ◌∷◌, ◌++◌, length, map, replicate, get_or, Option, Some, None}
use Rattle.std.specs.Mem.{type_size}
use base.Fraction.{full_share}
use base.Fml.{Lft, Fml, ftrue, ffalse, fsep, flt, froom}
use mir.Syntax.{Ty, ty_array}
use mir.Raw.{raw}
use denote.RattleType.{RattleType}
use denote.Memory.{lone, part_at, shared_of}
use denote.Sharing.{nothing, said, beside}
use denote.RawPtr.{Ptr, block_ptr, null_ptr}

-- the one of `places` at `index` holds a value
abbrev pub Holds : {X : Type 0} → List (Option X) → ℕ → Type 0
Holds {X} places index = (value : X) × (get_or places index None ≡ Some value)

-- the values that a list of places holds, in the order of the places
abbrev pub values : {X : Type 0} → List (Option X) → List X
values [] = []
values (None ∷ places) = values places
values (Some value ∷ places) = value ∷ values places

-- of `capacity` places, fewer than 2^63, the first `len` hold values, and the others are empty
pub record IsFilled {X : Type 0} (places : List (Option X)) (len capacity : ℕ) : Type 0 where
  pub laid : places ≡ map Some (values places) ++ replicate (capacity - len) None
  pub count : len ≡ length (values places)
  pub within : len ≤ capacity
  pub small : capacity < 2 ^ 63

module _ (R : RattleType) where
  -- to own one place, at the byte `at` of the block `b`: its value, or room for one
  abbrev pub owns_place : ℕ → ℕ → Option R.Denot → Fml
  owns_place b at None = froom (raw (lone R.mir)) b at
  owns_place b at (Some value) = part_at R full_share value b at

  -- to own places one after another, from the byte `at` of the block `b` on
  abbrev pub owns_row : ℕ → ℕ → List (Option R.Denot) → Fml
  owns_row b at [] = ftrue
  owns_row b at (place ∷ rest) = fsep (owns_place b at place) (owns_row b (at + type_size R) rest)

  -- the places take fewer than 2^63 bytes together
  abbrev pub below_limit : List (Option R.Denot) → Fml
  below_limit places = flt (length places * type_size R) (2 ^ 63)

  -- to own the places from an address on; at the null address there are none to own
  abbrev pub owns_places : Ptr → List (Option R.Denot) → Fml
  owns_places null_ptr places = ffalse
  owns_places (block_ptr b at) places = fsep (below_limit places) (owns_row b at places)

  -- what a `&` to one place, at the byte `at` of the block `b`, gives: a `&` to its value, or
  -- nothing where it is empty
  abbrev pub lends_place : ℕ → ℕ → Option R.Denot → Lft → Fml
  lends_place b at None = nothing
  lends_place b at (Some value) = shared_of R value b at

  -- what a `&` to places one after another, from the byte `at` of the block `b` on, gives: what one
  -- to each of them gives
  abbrev pub lends_row : ℕ → ℕ → List (Option R.Denot) → Lft → Fml
  lends_row b at [] = nothing
  lends_row b at (place ∷ rest) = beside (lends_place b at place) (lends_row b (at + type_size R) rest)

  -- what a `&` to the places from an address on gives: what one to each of them gives
  abbrev pub lends_places : Ptr → List (Option R.Denot) → Lft → Fml
  lends_places null_ptr places = said ffalse
  lends_places (block_ptr b at) places = beside (said (below_limit places)) (lends_row b at places)

  -- to own the allocator's token for the memory of `count` places from the address `first` on
  abbrev pub owns_lease : (Ty → Ptr → Fml) → Ptr → ℕ → Fml
  owns_lease token first count = token (raw (ty_array (lone R.mir) count)) first
