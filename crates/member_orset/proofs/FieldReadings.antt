-- What holds of fields that are joined.
use Rattle.std.proofs.Common.{◌≡◌, Option, Some, None, refl, ap}
use Rattle.operations.specs.Registers.{Entry, join_of}
use Rattle.operations.specs.Conditions.{DotFields, fields_joined}
use Rattle.member_orset.specs.Members.{HasField}

first_none : {T : Type 0} (a b : Option (Entry T)) → join_of a b ≡ None → a ≡ None
first_none None b h = refl
first_none (Some a) None h = absurd (cc)
first_none (Some a) (Some b) h = absurd (cc)

-- a join has a field where the first has one
pub joined_field : (x y : DotFields) → HasField x → HasField (fields_joined x y)
joined_field x y has none = has (λ i. record {
  penalty = first_none x.penalty y.penalty (ap (λ f. f.penalty) none) i;
  pause = first_none x.pause y.pause (ap (λ f. f.pause) none) i;
  label = first_none x.label y.label (ap (λ f. f.label) none) i;
  ring = first_none x.ring y.ring (ap (λ f. f.ring) none) i;
})
