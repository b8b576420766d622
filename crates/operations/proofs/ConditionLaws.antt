-- The laws of the join of conditions.
use Rattle.std.proofs.Common.{◌≡◌, Option, Some, None, refl, ap}
use Rattle.operations.specs.Conditions.{DotFields, Condition, Live, Dead, FieldsAgree, ConditionsAgree, fields_joined, condition_joined}
use Rattle.operations.proofs.RegisterLaws.{joined_comm, joined_assoc, joined_self, joined_agrees}

-- field by field
pub fields_comm : (x y : DotFields) → FieldsAgree x y → fields_joined x y ≡ fields_joined y x
fields_comm x y a = λ i. record {
  penalty = joined_comm x.penalty y.penalty a.penalty i;
  pause = joined_comm x.pause y.pause a.pause i;
  label = joined_comm x.label y.label a.label i;
  ring = joined_comm x.ring y.ring a.ring i;
}

pub fields_assoc : (x y z : DotFields) → fields_joined (fields_joined x y) z ≡ fields_joined x (fields_joined y z)
fields_assoc x y z = λ i. record {
  penalty = joined_assoc x.penalty y.penalty z.penalty i;
  pause = joined_assoc x.pause y.pause z.pause i;
  label = joined_assoc x.label y.label z.label i;
  ring = joined_assoc x.ring y.ring z.ring i;
}

pub fields_self : (x : DotFields) → fields_joined x x ≡ x
fields_self x = λ i. record {
  penalty = joined_self x.penalty i;
  pause = joined_self x.pause i;
  label = joined_self x.label i;
  ring = joined_self x.ring i;
}

pub fields_agree : (x y z : DotFields) → FieldsAgree x z → FieldsAgree y z → FieldsAgree (fields_joined x y) z
fields_agree x y z a b = record {
  penalty = joined_agrees x.penalty y.penalty z.penalty a.penalty b.penalty;
  pause = joined_agrees x.pause y.pause z.pause a.pause b.pause;
  label = joined_agrees x.label y.label z.label a.label b.label;
  ring = joined_agrees x.ring y.ring z.ring a.ring b.ring;
}

-- a condition agrees with that of a dot of which nothing is said
pub agrees_with_none : (x : Option Condition) → ConditionsAgree x None
agrees_with_none None = tt
agrees_with_none (Some Dead) = tt
agrees_with_none (Some (Live m f)) = tt

pub conditions_comm : (x y : Option Condition) → ConditionsAgree x y → condition_joined x y ≡ condition_joined y x
conditions_comm (Some (Live m f)) (Some (Live n g)) a = λ i. Some (Live (a.0 i) (fields_comm f g a.1 i))
conditions_comm (Some (Live m f)) (Some Dead) a = refl
conditions_comm (Some (Live m f)) None a = refl
conditions_comm (Some Dead) (Some (Live n g)) a = refl
conditions_comm (Some Dead) (Some Dead) a = refl
conditions_comm (Some Dead) None a = refl
conditions_comm None (Some (Live n g)) a = refl
conditions_comm None (Some Dead) a = refl
conditions_comm None None a = refl

pub conditions_assoc : (x y z : Option Condition) → condition_joined (condition_joined x y) z ≡ condition_joined x (condition_joined y z)
conditions_assoc None y z = refl
conditions_assoc (Some Dead) y z = refl
conditions_assoc (Some (Live m f)) None z = refl
conditions_assoc (Some (Live m f)) (Some Dead) z = refl
conditions_assoc (Some (Live m f)) (Some (Live n g)) None = refl
conditions_assoc (Some (Live m f)) (Some (Live n g)) (Some Dead) = refl
conditions_assoc (Some (Live m f)) (Some (Live n g)) (Some (Live o h)) = ap (λ k. Some (Live m k)) (fields_assoc f g h)

pub conditions_self : (x : Option Condition) → condition_joined x x ≡ x
conditions_self None = refl
conditions_self (Some Dead) = refl
conditions_self (Some (Live m f)) = ap (λ k. Some (Live m k)) (fields_self f)

pub conditions_agree : (x y z : Option Condition) → ConditionsAgree x y → ConditionsAgree x z → ConditionsAgree y z → ConditionsAgree (condition_joined x y) z
conditions_agree None y z a b c = c
conditions_agree (Some Dead) y z a b c = tt
conditions_agree (Some (Live m f)) None z a b c = b
conditions_agree (Some (Live m f)) (Some Dead) z a b c = tt
conditions_agree (Some (Live m f)) (Some (Live n g)) None a b c = tt
conditions_agree (Some (Live m f)) (Some (Live n g)) (Some Dead) a b c = tt
conditions_agree (Some (Live m f)) (Some (Live n g)) (Some (Live o h)) a b c = (b.0, fields_agree f g h b.1 c.1)

pub dead_wins : (x : Option Condition) → (condition_joined (Some Dead) x ≡ Some Dead) × (condition_joined x (Some Dead) ≡ Some Dead)
dead_wins None = (refl, refl)
dead_wins (Some (Live m f)) = (refl, refl)
dead_wins (Some Dead) = (refl, refl)

pub unknown_is_neutral : (x : Option Condition) → (condition_joined None x ≡ x) × (condition_joined x None ≡ x)
unknown_is_neutral None = (refl, refl)
unknown_is_neutral (Some (Live m f)) = (refl, refl)
unknown_is_neutral (Some Dead) = (refl, refl)
