-- The orders of registers and of conditions, and that a join is the least above both.
use Rattle.std.proofs.Common.{◌≡◌, inl, inr, Bool, true, false, Option, Some, None, refl, sym, ap, subst, ◌∙◌, if◌then◌else◌}
use Rattle.std.specs.Ordering.{is_lt, ordering_reverse}
use Rattle.std.specs.declared.cmp.Ordering.{Ordering}
use Rattle.std.specs.declared.cmp.Ordering.TheVariants.{Less, Equal, Greater}
use Rattle.std.proofs.lemmas.Cmp.{tied_itself}
use Rattle.dots.specs.declared.member.Member.{Member}
use Rattle.dots.specs.Values.{Stamp}
use Rattle.dots.specs.Orders.{stamp_cmp}
use Rattle.operations.specs.Registers.{Entry, RegistersAgree, IsBelow, join_of}
use Rattle.general_lemmas.specs.Joins.{IsOrder, IsLeastAbove}
use Rattle.operations.specs.Conditions.{DotFields, Condition, Live, Dead, FieldsAgree, ConditionsAgree, FieldsBelow, IsConditionBelow, fields_joined, condition_joined}
use Rattle.operations.proofs.RegisterLaws.{stamps_total, exact_stamps}

-- no stamp is less than itself
pub not_less : (a : Stamp) → stamp_cmp a a ≡ Less → ⊥
not_less a h = let tied = tied_itself stamps_total a in absurd (cc)

module _ {T : Type 0} where
  pub below_self : (x : Option (Entry T)) → IsBelow x x
  below_self None = tt
  below_self (Some a) = inl refl

  pub below_through : (x y z : Option (Entry T)) → IsBelow x y → IsBelow y z → IsBelow x z
  below_through None y z p q = tt
  below_through (Some a) None z p q = absurd p
  below_through (Some a) (Some b) None p q = absurd q
  below_through (Some a) (Some b) (Some c) (inl e) q = subst (λ w. IsBelow (Some w) (Some c)) (sym e) q
  below_through (Some a) (Some b) (Some c) (inr less) (inl e) = subst (λ w. IsBelow (Some a) (Some w)) e (inr less)
  below_through (Some a) (Some b) (Some c) (inr less) (inr more) = inr (stamps_total.trans a.stamp b.stamp c.stamp less more)

  pub below_both_ways : (x y : Option (Entry T)) → IsBelow x y → IsBelow y x → x ≡ y
  below_both_ways None None p q = refl
  below_both_ways None (Some b) p q = absurd q
  below_both_ways (Some a) None p q = absurd p
  below_both_ways (Some a) (Some b) (inl e) q = ap Some e
  below_both_ways (Some a) (Some b) (inr less) (inl e) = ap Some (sym e)
  below_both_ways (Some a) (Some b) (inr less) (inr more) = absurd (not_less a.stamp (stamps_total.trans a.stamp b.stamp a.stamp less more))

  pub below_joined : (x y : Option (Entry T)) → IsBelow x (join_of x y)
  below_joined None y = tt
  below_joined (Some a) None = inl refl
  below_joined (Some a) (Some b) = by (stamp_cmp a.stamp b.stamp) refl
    where
      by : (o : Ordering) → stamp_cmp a.stamp b.stamp ≡ o → IsBelow (Some a) (Some (if is_lt o then b else a))
      by Less e = inr e
      by Equal e = inl refl
      by Greater e = inl refl

  pub other_below_joined : (x y : Option (Entry T)) → RegistersAgree x y → IsBelow y (join_of x y)
  other_below_joined None y h = below_self y
  other_below_joined (Some a) None h = tt
  other_below_joined (Some a) (Some b) h = by (stamp_cmp a.stamp b.stamp) refl
    where
      one : a.stamp ≡ b.stamp → b ≡ a
      one s = λ i. record { stamp = sym s i; value = sym (h a b refl refl s) i }

      by : (o : Ordering) → stamp_cmp a.stamp b.stamp ≡ o → IsBelow (Some b) (Some (if is_lt o then b else a))
      by Less e = inl refl
      by Equal e = inl (one (exact_stamps a.stamp b.stamp e))
      by Greater e = inr (stamps_total.antisymm b.stamp a.stamp ∙ ap ordering_reverse e)

  pub joined_least : (x y z : Option (Entry T)) → IsBelow x z → IsBelow y z → IsBelow (join_of x y) z
  joined_least None y z p q = q
  joined_least (Some a) None z p q = p
  joined_least (Some a) (Some b) z p q = by (is_lt (stamp_cmp a.stamp b.stamp))
    where
      by : (t : Bool) → IsBelow (Some (if t then b else a)) z
      by true = q
      by false = p

  pub registers_ordered : IsOrder (IsBelow {T = T})
  registers_ordered = record { reflexive = below_self; transitive = below_through; antisymmetric = below_both_ways }

  pub registers_least : (x y : Option (Entry T)) → RegistersAgree x y → IsLeastAbove IsBelow x y (join_of x y)
  registers_least x y h = record { first = below_joined x y; second = other_below_joined x y h; least = joined_least x y }

pub fields_below_self : (x : DotFields) → FieldsBelow x x
fields_below_self x = record { penalty = below_self x.penalty; pause = below_self x.pause; label = below_self x.label; ring = below_self x.ring }

pub fields_below_through : (x y z : DotFields) → FieldsBelow x y → FieldsBelow y z → FieldsBelow x z
fields_below_through x y z p q = record {
  penalty = below_through x.penalty y.penalty z.penalty p.penalty q.penalty;
  pause = below_through x.pause y.pause z.pause p.pause q.pause;
  label = below_through x.label y.label z.label p.label q.label;
  ring = below_through x.ring y.ring z.ring p.ring q.ring;
}

pub fields_below_both_ways : (x y : DotFields) → FieldsBelow x y → FieldsBelow y x → x ≡ y
fields_below_both_ways x y p q = λ i. record {
  penalty = below_both_ways x.penalty y.penalty p.penalty q.penalty i;
  pause = below_both_ways x.pause y.pause p.pause q.pause i;
  label = below_both_ways x.label y.label p.label q.label i;
  ring = below_both_ways x.ring y.ring p.ring q.ring i;
}

pub fields_least : (x y : DotFields) → FieldsAgree x y → IsLeastAbove FieldsBelow x y (fields_joined x y)
fields_least x y a = record {
  first = record { penalty = below_joined x.penalty y.penalty; pause = below_joined x.pause y.pause; label = below_joined x.label y.label; ring = below_joined x.ring y.ring };
  second = record {
    penalty = other_below_joined x.penalty y.penalty a.penalty;
    pause = other_below_joined x.pause y.pause a.pause;
    label = other_below_joined x.label y.label a.label;
    ring = other_below_joined x.ring y.ring a.ring;
  };
  least = λ z p q. record {
    penalty = joined_least x.penalty y.penalty z.penalty p.penalty q.penalty;
    pause = joined_least x.pause y.pause z.pause p.pause q.pause;
    label = joined_least x.label y.label z.label p.label q.label;
    ring = joined_least x.ring y.ring z.ring p.ring q.ring;
  };
}

pub condition_below_self : (x : Option Condition) → IsConditionBelow x x
condition_below_self None = tt
condition_below_self (Some (Live m f)) = (refl, fields_below_self f)
condition_below_self (Some Dead) = tt

condition_below_dead : (x : Option Condition) → IsConditionBelow x (Some Dead)
condition_below_dead None = tt
condition_below_dead (Some (Live m f)) = tt
condition_below_dead (Some Dead) = tt

pub condition_below_through : (x y z : Option Condition) → IsConditionBelow x y → IsConditionBelow y z → IsConditionBelow x z
condition_below_through None y z p q = tt
condition_below_through (Some Dead) None z p q = absurd p
condition_below_through (Some Dead) (Some (Live n g)) z p q = absurd p
condition_below_through (Some Dead) (Some Dead) z p q = q
condition_below_through (Some (Live m f)) None z p q = absurd p
condition_below_through (Some (Live m f)) (Some Dead) None p q = absurd q
condition_below_through (Some (Live m f)) (Some Dead) (Some (Live o h)) p q = absurd q
condition_below_through (Some (Live m f)) (Some Dead) (Some Dead) p q = tt
condition_below_through (Some (Live m f)) (Some (Live n g)) None p q = absurd q
condition_below_through (Some (Live m f)) (Some (Live n g)) (Some (Live o h)) p q = (p.0 ∙ q.0, fields_below_through f g h p.1 q.1)
condition_below_through (Some (Live m f)) (Some (Live n g)) (Some Dead) p q = tt

pub condition_below_both_ways : (x y : Option Condition) → IsConditionBelow x y → IsConditionBelow y x → x ≡ y
condition_below_both_ways None None p q = refl
condition_below_both_ways None (Some (Live n g)) p q = absurd q
condition_below_both_ways None (Some Dead) p q = absurd q
condition_below_both_ways (Some Dead) None p q = absurd p
condition_below_both_ways (Some Dead) (Some (Live n g)) p q = absurd p
condition_below_both_ways (Some Dead) (Some Dead) p q = refl
condition_below_both_ways (Some (Live m f)) None p q = absurd p
condition_below_both_ways (Some (Live m f)) (Some Dead) p q = absurd q
condition_below_both_ways (Some (Live m f)) (Some (Live n g)) p q = λ i. Some (Live (p.0 i) (fields_below_both_ways f g p.1 q.1 i))

pub conditions_ordered : IsOrder IsConditionBelow
conditions_ordered = record { reflexive = condition_below_self; transitive = condition_below_through; antisymmetric = condition_below_both_ways }

-- two live ones
live_least : (m n : Member) (f g : DotFields) → m ≡ n → FieldsAgree f g → (z : Option Condition) → IsConditionBelow (Some (Live m f)) z → IsConditionBelow (Some (Live n g)) z → IsConditionBelow (Some (Live m (fields_joined f g))) z
live_least m n f g e a None p q = absurd p
live_least m n f g e a (Some Dead) p q = tt
live_least m n f g e a (Some (Live o h)) p q = (p.0, (fields_least f g a).least h p.1 q.1)

pub conditions_least : (x y : Option Condition) → ConditionsAgree x y → IsLeastAbove IsConditionBelow x y (condition_joined x y)
conditions_least None y a = record { first = tt; second = condition_below_self y; least = λ z p q. q }
conditions_least (Some Dead) y a = record { first = tt; second = condition_below_dead y; least = λ z p q. p }
conditions_least (Some (Live m f)) None a = record { first = (refl, fields_below_self f); second = tt; least = λ z p q. p }
conditions_least (Some (Live m f)) (Some Dead) a = record { first = tt; second = tt; least = λ z p q. q }
conditions_least (Some (Live m f)) (Some (Live n g)) a = record {
  first = (refl, (fields_least f g a.1).first);
  second = (sym a.0, (fields_least f g a.1).second);
  least = live_least m n f g a.0 a.1;
}
