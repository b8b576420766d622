-- The condition of a dot, ordered unknown < live (with its fields) < dead. A delta has a condition for each dot that it knows.
use Rattle.std.specs.Prelude.{ℕ, ◌≡◌, ◌⊎◌, Bool, false, Option, Some, None, if◌then◌else◌}
use Rattle.std.specs.Option.{option_map}
use Rattle.std.specs.FinMap as map
use Rattle.std.specs.FinSet as set
use Rattle.dots.specs.declared.call_totals.CallTotals.{CallTotals}
use Rattle.dots.specs.declared.calls.Calls.TheVariants.{Completed, Abandoned}
use Rattle.dots.specs.declared.label.Label.{Label}
use Rattle.dots.specs.declared.member.Member.{Member}
use Rattle.dots.specs.Values.{Dot, PauseState}
use Rattle.dots.specs.Orders.{dot_cmp}
use Rattle.operations.specs.Registers.{Entry, RegistersAgree, RegistersInConflict, IsBelow, join_of}
use Rattle.dots.specs.CountedCalls.{is_zero}
use Rattle.operations.specs.Totals.{Key, Entries, totals_of}
use Rattle.operations.specs.Operations.{penalty_field, pause_field, label_field, ring_field}
use Rattle.operations.specs.Knowledge.{Knowledge, is_named, known_dots, member_of, field_of}
use Rattle.operations.specs.Counts.{site_total}

-- the fields of a live dot: penalty, pause, label and ring, each a register, which is `None` where it
-- was never set
pub record DotFields : Type 0 where
  pub penalty : Option (Entry ℕ)
  pub pause : Option (Entry PauseState)
  pub label : Option (Entry Label)
  pub ring : Option (Entry Bool)

-- the fields of a dot of which none is set: no penalty, no pause, no label, no ring
abbrev pub no_fields : DotFields
no_fields = record { penalty = None; pause = None; label = None; ring = None }

-- what is known of a dot: it is live, with its member and fields, or dead. An unknown dot has no condition.
pub data Condition : Type 0 where
  Live : (member : Member) (fields : DotFields) → Condition
  Dead : Condition

-- the fields of `dot` in knowledge `k`: of each the entry of the greatest stamp that an operation
-- which asserts the dot sets
abbrev pub fields_in : Knowledge → Dot → DotFields
fields_in k dot = record {
  penalty = field_of penalty_field k dot;
  pause = field_of pause_field k dot;
  label = field_of label_field k dot;
  ring = field_of ring_field k dot;
}

-- the condition of `dot` in knowledge `k`: dead if an operation names it, else live if one asserts
-- it, else unknown
abbrev pub condition_in : Knowledge → Dot → Option Condition
condition_in k dot = if is_named k dot then Some Dead else option_map (λ member. Live member (fields_in k dot)) (member_of k dot)

-- fields `x` and `y` agree: where both have a penalty, pause, label or ring under one stamp, it has one value
pub record FieldsAgree (x y : DotFields) : Type 0 where
  pub penalty : RegistersAgree x.penalty y.penalty
  pub pause : RegistersAgree x.pause y.pause
  pub label : RegistersAgree x.label y.label
  pub ring : RegistersAgree x.ring y.ring

-- fields `x` and `y` are in conflict: both have a penalty, pause, label or ring under one stamp, with
-- two values
abbrev pub FieldsInConflict : DotFields → DotFields → Type 0
FieldsInConflict x y = RegistersInConflict x.penalty y.penalty ⊎ RegistersInConflict x.pause y.pause ⊎ RegistersInConflict x.label y.label ⊎ RegistersInConflict x.ring y.ring

-- two live conditions agree where they have one member and fields that agree; all others agree
abbrev pub ConditionsAgree : Option Condition → Option Condition → Type 0
ConditionsAgree (Some (Live m f)) (Some (Live n g)) = (m ≡ n) × FieldsAgree f g
ConditionsAgree (Some (Live m f)) (Some Dead) = Unit {0}
ConditionsAgree (Some (Live m f)) None = Unit {0}
ConditionsAgree (Some Dead) y = Unit {0}
ConditionsAgree None y = Unit {0}

-- the join of fields `x` and `y`: of each field the entry of the greater stamp (RR-7506), for equal stamps that of `x`
abbrev pub fields_joined : DotFields → DotFields → DotFields
fields_joined x y = record {
  penalty = join_of x.penalty y.penalty;
  pause = join_of x.pause y.pause;
  label = join_of x.label y.label;
  ring = join_of x.ring y.ring;
}

-- the join of two conditions: dead wins over all and live over unknown (RR-8083); two live ones
-- give the member of the first, with the join of their fields
abbrev pub condition_joined : Option Condition → Option Condition → Option Condition
condition_joined None y = y
condition_joined (Some Dead) y = Some Dead
condition_joined (Some (Live m f)) None = Some (Live m f)
condition_joined (Some (Live m f)) (Some Dead) = Some Dead
condition_joined (Some (Live m f)) (Some (Live n g)) = Some (Live m (fields_joined f g))

-- fields `x` are below `y`: each register of `x` is unset, or has the same entry as that of `y`, or
-- one under a lesser stamp
pub record FieldsBelow (x y : DotFields) : Type 0 where
  pub penalty : IsBelow x.penalty y.penalty
  pub pause : IsBelow x.pause y.pause
  pub label : IsBelow x.label y.label
  pub ring : IsBelow x.ring y.ring

-- the order of conditions: unknown is below all, and all are below dead; a live one is below a live
-- one of the same member where its fields are below
abbrev pub IsConditionBelow : Option Condition → Option Condition → Type 0
IsConditionBelow None y = Unit {0}
IsConditionBelow (Some (Live m f)) None = ⊥
IsConditionBelow (Some (Live m f)) (Some (Live n g)) = (m ≡ n) × FieldsBelow f g
IsConditionBelow (Some (Live m f)) (Some Dead) = Unit {0}
IsConditionBelow (Some Dead) None = ⊥
IsConditionBelow (Some Dead) (Some (Live n g)) = ⊥
IsConditionBelow (Some Dead) (Some Dead) = Unit {0}

-- `condition` of dots, the set `known` and the totals `counts` represent knowledge `k`: each dot has its condition in `k`,
-- `known` are the dots that `k` asserts or names, the totals are those of `k`, and no entry is of two zeros
pub record Represents (condition : Dot → Option Condition) (known : set.FinSet dot_cmp) (counts : Entries) (k : Knowledge) : Type 0 where
  pub conditions : (dot : Dot) → condition dot ≡ condition_in k dot
  pub dots : known ≡ known_dots k
  pub totals : (site queue : ℕ) → totals_of counts site queue ≡ record { completed = site_total k site queue Completed; abandoned = site_total k site queue Abandoned }
  pub no_zeros : (key : Key) (totals : CallTotals) → map.get counts key ≡ Some totals → is_zero totals ≡ false

-- the conditions `c` and `d` are equal for each dot, the known dots `known` and `heard` are equal sets, and `counts` and `totals`
-- have the same entries
pub record IsOne (c d : Dot → Option Condition) (known heard : set.FinSet dot_cmp) (counts totals : Entries) : Type 0 where
  pub conditions : (dot : Dot) → c dot ≡ d dot
  pub dots : known ≡ heard
  pub totals_are : counts ≡ totals
