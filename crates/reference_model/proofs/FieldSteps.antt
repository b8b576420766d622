-- Fields that are joined one after the other.
use Rattle.std.proofs.Common.{◌≡◌, Bool, true, false, List, ◌∷◌, Option, Some, None, if◌then◌else◌, refl, sym, ap, ◌∙◌}
use Rattle.std.specs.List.{filter_map, cons_option}
use Rattle.std.specs.Ordering.{is_lt}
use Rattle.dots.specs.Values.{Dot}
use Rattle.dots.specs.Orders.{stamp_cmp}
use Rattle.operations.specs.Registers.{Entry, join_of}
use Rattle.operations.specs.Operations.{Operation, Field, penalty_field, pause_field, label_field, ring_field}
use Rattle.operations.specs.Conditions.{DotFields, fields_in, fields_joined}
use Rattle.operations.specs.Knowledge.{Knowledge, asserts, field_of, latest_of, settings_of}
use Rattle.operations.proofs.ConditionLaws.{fields_assoc}
use Rattle.reference_model.specs.declared.entry.Entry.{Entry as Held}
use Rattle.reference_model.specs.Views.{entry_of, fields_set, fields_over}

-- ---- what is seen of a join
through : {A B : Type 0} → (A → B) → Option (Entry A) → Option (Entry B)
through see None = None
through see (Some e) = Some (record { stamp = e.stamp; value = see e.value })

entry_through : {A B : Type 0} (see : A → B) (x : Option (Held A)) → entry_of see x ≡ through see (entry_of (λ v. v) x)
unfolding through
entry_through see None = refl
entry_through see (Some e) = refl

joined_through : {A B : Type 0} (see : A → B) (x y : Option (Entry A)) → through see (join_of x y) ≡ join_of (through see x) (through see y)
unfolding through
joined_through see None y = refl
joined_through see (Some a) None = refl
joined_through {A} {B} see (Some a) (Some b) =
    let seen : Entry A → Entry B = λ e. record { stamp = e.stamp; value = see e.value } in
    elim (is_lt (stamp_cmp a.stamp b.stamp)) as (λ t. through see (Some (if t then b else a)) ≡ Some (if t then seen b else seen a)) [ true ↦ refl | false ↦ refl ]

-- the later entry is seen as the later of both that are seen
pub later_is : {A B : Type 0} (see : A → B) (x y r : Option (Held A)) → entry_of (λ v. v) r ≡ join_of (entry_of (λ v. v) x) (entry_of (λ v. v) y) → entry_of see r ≡ join_of (entry_of see x) (entry_of see y)
later_is see x y r h =
    entry_through see r
    ∙ ap (through see) h
    ∙ joined_through see (entry_of (λ v. v) x) (entry_of (λ v. v) y)
    ∙ (λ i. join_of (sym (entry_through see x) i) (sym (entry_through see y) i))

-- ---- one operation more
latest_first : {T : Type 0} (x : Option (Entry T)) (es : List (Entry T)) → latest_of (cons_option x es) ≡ join_of x (latest_of es)
latest_first None es = refl
latest_first (Some e) es = refl

set_if : {T : Type 0} → Bool → Option (Entry T) → List (Entry T) → Option (Entry T)
set_if b x es = latest_of (cons_option (if b then x else None) es)

field_asserted : {T : Type 0} (field : Field T) (o : Operation) (k : Knowledge) (dot : Dot) → asserts dot o ≡ true → field_of field (o ∷ k) dot ≡ join_of (field o) (field_of field k dot)
unfolding set_if
field_asserted field o k dot there = ap (λ b. set_if b (field o) (settings_of field k dot)) there ∙ latest_first (field o) (settings_of field k dot)

field_passed : {T : Type 0} (field : Field T) (o : Operation) (k : Knowledge) (dot : Dot) → asserts dot o ≡ false → field_of field (o ∷ k) dot ≡ field_of field k dot
unfolding set_if
field_passed field o k dot absent = ap (λ b. set_if b (field o) (settings_of field k dot)) absent

-- an operation that asserts the dot has its settings joined
pub fields_asserted : (o : Operation) (k : Knowledge) (dot : Dot) → asserts dot o ≡ true → fields_in (o ∷ k) dot ≡ fields_joined (fields_set o) (fields_in k dot)
fields_asserted o k dot there = λ i. record {
  penalty = field_asserted penalty_field o k dot there i;
  pause = field_asserted pause_field o k dot there i;
  label = field_asserted label_field o k dot there i;
  ring = field_asserted ring_field o k dot there i;
}

-- one that doesn't changes nothing
pub fields_passed : (o : Operation) (k : Knowledge) (dot : Dot) → asserts dot o ≡ false → fields_in (o ∷ k) dot ≡ fields_in k dot
fields_passed o k dot absent = λ i. record {
  penalty = field_passed penalty_field o k dot absent i;
  pause = field_passed pause_field o k dot absent i;
  label = field_passed label_field o k dot absent i;
  ring = field_passed ring_field o k dot absent i;
}

-- one dot more
pub fields_over_more : (k : Knowledge) (dot : Dot) (dots : List Dot) → fields_over k (dot ∷ dots) ≡ fields_joined (fields_in k dot) (fields_over k dots)
fields_over_more k dot dots = λ i. record {
  penalty = latest_first (field_of penalty_field k dot) (filter_map (field_of penalty_field k) dots) i;
  pause = latest_first (field_of pause_field k dot) (filter_map (field_of pause_field k) dots) i;
  label = latest_first (field_of label_field k dot) (filter_map (field_of label_field k) dots) i;
  ring = latest_first (field_of ring_field k dot) (filter_map (field_of ring_field k) dots) i;
}

-- ---- a loop's turn: x is what was joined so far, and what is left is joined to it
pub joins_first : (x first rest left new all : DotFields) → left ≡ fields_joined first rest → new ≡ fields_joined x first → fields_joined x left ≡ all → fields_joined new rest ≡ all
joins_first x first rest left new all is made h =
    ap (λ f. fields_joined f rest) made ∙ fields_assoc x first rest ∙ ap (fields_joined x) (sym is) ∙ h
