-- The entries of registers, over any type of values: when two registers agree, and what their join is (RR-7506's
-- last-writer-wins register).
use Rattle.std.specs.Prelude.{◌≡◌, ◌≢◌, ◌⊎◌, Option, Some, None, IsSome, if◌then◌else◌}
use Rattle.std.specs.Ordering.{is_lt}
use Rattle.std.specs.declared.cmp.Ordering.TheVariants.{Less}
use Rattle.dots.specs.Values.{Stamp}
use Rattle.dots.specs.Orders.{stamp_cmp}

-- an entry of a register: a value, and the stamp under which it was written
pub record Entry (T : Type 0) : Type 0 where
  pub stamp : Stamp
  pub value : T

-- registers `x` and `y` agree: where both hold an entry under one stamp, these have one value
abbrev pub RegistersAgree : {T : Type 0} → Option (Entry T) → Option (Entry T) → Type 0
RegistersAgree {T} x y = (a b : Entry T) → x ≡ Some a → y ≡ Some b → a.stamp ≡ b.stamp → a.value ≡ b.value

-- registers `x` and `y` are in conflict: both hold an entry under one stamp, and these have two values
pub record RegistersInConflict {T : Type 0} (x y : Option (Entry T)) : Type 0 where
  pub first : Entry T
  pub second : Entry T
  pub in_first : x ≡ Some first
  pub in_second : y ≡ Some second
  pub one_stamp : first.stamp ≡ second.stamp
  pub two_values : first.value ≢ second.value

-- of two entries the one of the greater stamp; under one stamp the first, `a`
abbrev pub latest : {T : Type 0} → Entry T → Entry T → Entry T
latest a b = if is_lt (stamp_cmp a.stamp b.stamp) then b else a

-- the join of two registers: the entry of the greater stamp, for equal stamps that of the first; an empty one adds
-- nothing
abbrev pub join_of : {T : Type 0} → Option (Entry T) → Option (Entry T) → Option (Entry T)
join_of None y = y
join_of (Some a) None = Some a
join_of (Some a) (Some b) = Some (latest a b)

-- a register is below another that holds the same entry, or one under a greater stamp; an empty one
-- is below all
abbrev pub IsBelow : {T : Type 0} → Option (Entry T) → Option (Entry T) → Type 0
IsBelow None y = Unit {0}
IsBelow (Some a) None = ⊥
IsBelow (Some a) (Some b) = (a ≡ b) ⊎ (stamp_cmp a.stamp b.stamp ≡ Less)

-- register `kept` is empty only where `x` and `y` are; else it holds an entry of one of them, and
-- none of theirs is under a greater stamp
pub record KeepsLatest {T : Type 0} (x y kept : Option (Entry T)) : Type 0 where
  pub has_one : (e : Entry T) → (x ≡ Some e) ⊎ (y ≡ Some e) → IsSome kept
  pub of_either : (e : Entry T) → kept ≡ Some e → (x ≡ Some e) ⊎ (y ≡ Some e)
  pub none_later : (k e : Entry T) → kept ≡ Some k → (x ≡ Some e) ⊎ (y ≡ Some e) → stamp_cmp k.stamp e.stamp ≢ Less
