-- Parts of a history, and that any two of them are consistent together.
use Rattle.std.proofs.Common.{◌≡◌, ℕ, ◌⊎◌, inl, inr, Bool, true, false, ◌||◌, List, [], ◌∷◌, ◌++◌, Contains, Option, Some, None, refl, sym, ap, subst, ◌∙◌, if◌then◌else◌, arith}
use Rattle.std.specs.FinSet as set
use Rattle.std.specs.List.{list_any}
use Rattle.std.proofs.Math.Bool.{or-true}
use Rattle.std.proofs.lemmas.List.Elements.{Contains-append_cases, Contains-append_left, Contains-append_right}
use Rattle.dots.specs.declared.member.Member.{Member}
use Rattle.dots.specs.Values.{Dot, Stamp}
use Rattle.operations.specs.Registers.{Entry}
use Rattle.operations.specs.Operations.{Operation, Field, Add, Write, Remove, Count, asserted_by, entry_under, penalty_field, pause_field, label_field, ring_field, set_label, set_pause, set_penalty, set_ring}
use Rattle.operations.specs.Knowledge.{IsConsistent, Knowledge, OneValue, all_asserted, asserts, is_asserted, is_named, known_dots, names, settings_of}
use Rattle.operations.proofs.KnownLaws.{known_dot}
use Rattle.general_lemmas.proofs.Membership.{any_in, in_any, in_part, in_some, only_in, part_in}
use Rattle.operations.proofs.FieldLaws.{chosen}
use Rattle.sites_world.specs.Histories.{IsHistory, IsPartOf, stamp_of}
use Rattle.sites_world.proofs.Lists.{none_some, one_some}

-- ---- parts

-- nothing is a part of everything
pub none_part : (h : Knowledge) → IsPartOf [] h
none_part h o here = absurd (omega (arith, here.1))

-- parts of a part
pub part_through : (k l h : Knowledge) → IsPartOf k l → IsPartOf l h → IsPartOf k h
part_through k l h p q o here = q o (p o here)

-- two parts together are one
pub both_part : (k l h : Knowledge) → IsPartOf k h → IsPartOf l h → IsPartOf (k ++ l) h
both_part k l h p q o here = elim (Contains-append_cases k l o here) [ inl a ↦ p o a | inr b ↦ q o b ]

-- each of two parts is a part of both
pub first_part : (k l : Knowledge) → IsPartOf k (k ++ l)
first_part k l o here = Contains-append_left k l o here

pub second_part : (k l : Knowledge) → IsPartOf l (k ++ l)
second_part k l o here = Contains-append_right k l o here

-- an operation more, of the history
pub more_part : (o : Operation) (k h : Knowledge) → Contains h o → IsPartOf k h → IsPartOf (o ∷ k) h
more_part o k h is p = both_part (o ∷ []) k h (λ q here. subst (Contains h) (only_in o q here) is) p

-- ---- what is asserted and known in a part

pub asserted_part : (k h : Knowledge) → IsPartOf k h → (p : Dot × Member) → Contains (all_asserted k) p → Contains (all_asserted h) p
asserted_part k h part p here = let o = in_part asserted_by k p here in part_in asserted_by h o.0 p (part o.0 o.1) o.2

any_part : (p : Operation → Bool) (k h : Knowledge) → IsPartOf k h → list_any p k ≡ true → list_any p h ≡ true
any_part p k h part is = let o = in_any p k is in any_in p h o.0 (part o.0 o.1) o.2

pub named_part : (k h : Knowledge) (dot : Dot) → IsPartOf k h → is_named k dot ≡ true → is_named h dot ≡ true
named_part k h dot part is = any_part (names dot) k h part is

-- a dot that is known is asserted or named
pub known_cases : (k : Knowledge) (dot : Dot) → set.contains (known_dots k) dot ≡ true → (is_asserted k dot ≡ true) ⊎ (is_named k dot ≡ true)
known_cases k dot is = by (is_asserted k dot) (is_named k dot) refl refl (sym (known_dot k dot) ∙ is)
  where
    by : (a n : Bool) → is_asserted k dot ≡ a → is_named k dot ≡ n → (a || n) ≡ true → (is_asserted k dot ≡ true) ⊎ (is_named k dot ≡ true)
    by true n e f h = inl e
    by false n e f h = inr (f ∙ h)

pub known_asserted : (k : Knowledge) (dot : Dot) → is_asserted k dot ≡ true → set.contains (known_dots k) dot ≡ true
known_asserted k dot is = known_dot k dot ∙ ap (λ b. b || is_named k dot) is

pub known_named : (k : Knowledge) (dot : Dot) → is_named k dot ≡ true → set.contains (known_dots k) dot ≡ true
known_named k dot is = known_dot k dot ∙ ap (λ b. is_asserted k dot || b) is ∙ or-true (is_asserted k dot)

pub known_part : (k h : Knowledge) (dot : Dot) → IsPartOf k h → set.contains (known_dots k) dot ≡ true → set.contains (known_dots h) dot ≡ true
known_part k h dot part is = elim (known_cases k dot is) [
  | inl a ↦ known_asserted h dot (any_part (asserts dot) k h part a)
  | inr n ↦ known_named h dot (named_part k h dot part n)
]

-- ---- stamps

-- a field is set under the stamp of its operation alone
abbrev pub IsStamped : {T : Type 0} → Field T → Type 0
IsStamped {T} field = (o : Operation) (e : Entry T) → field o ≡ Some e → stamp_of o ≡ Some e.stamp

under : {T : Type 0} (stamp : Stamp) (value : Option T) (e : Entry T) → entry_under stamp value ≡ Some e → Some stamp ≡ Some e.stamp
under stamp None e h = absurd (none_some e h)
under stamp (Some value) e h = ap (λ x. Some x.stamp) (one_some _ e h)

pub penalty_stamped : IsStamped penalty_field
penalty_stamped (Add dot member stamp penalty pause label older) e h = under stamp (Some penalty) e h
penalty_stamped (Write dots setting stamp older) e h = under stamp (set_penalty setting) e h
penalty_stamped (Remove dots) e h = absurd (none_some e h)
penalty_stamped (Count site queue calls total) e h = absurd (none_some e h)

pub pause_stamped : IsStamped pause_field
pause_stamped (Add dot member stamp penalty pause label older) e h = under stamp (Some pause) e h
pause_stamped (Write dots setting stamp older) e h = under stamp (set_pause setting) e h
pause_stamped (Remove dots) e h = absurd (none_some e h)
pause_stamped (Count site queue calls total) e h = absurd (none_some e h)

pub label_stamped : IsStamped label_field
label_stamped (Add dot member stamp penalty pause label older) e h = under stamp (Some label) e h
label_stamped (Write dots setting stamp older) e h = under stamp (set_label setting) e h
label_stamped (Remove dots) e h = absurd (none_some e h)
label_stamped (Count site queue calls total) e h = absurd (none_some e h)

pub ring_stamped : IsStamped ring_field
ring_stamped (Add dot member stamp penalty pause label older) e h = absurd (none_some e h)
ring_stamped (Write dots setting stamp older) e h = under stamp (set_ring setting) e h
ring_stamped (Remove dots) e h = absurd (none_some e h)
ring_stamped (Count site queue calls total) e h = absurd (none_some e h)

-- an entry is set by an operation of the knowledge
pub set_by : {T : Type 0} (field : Field T) (k : Knowledge) (dot : Dot) (e : Entry T) → Contains (settings_of field k dot) e → (o : Operation) × Contains k o × (field o ≡ Some e)
set_by {T} field k dot e here = let o = in_some (chosen field dot) k e here in (o.0, o.1, by (asserts dot o.0) o.2)
  where
    by : {x : Option (Entry T)} (b : Bool) → (if b then x else None) ≡ Some e → x ≡ Some e
    by true h = h
    by false h = absurd (none_some e h)

-- where a stamp belongs to one operation, it gives a field one value
one_value : {T : Type 0} (field : Field T) → IsStamped field → (k : Knowledge)
    → ((o p : Operation) (stamp : Stamp) → Contains k o → Contains k p → stamp_of o ≡ Some stamp → stamp_of p ≡ Some stamp → o ≡ p) → OneValue field k
one_value field stamped k stamps dot a b ha hb same =
    let o = set_by field k dot a ha in
    let p = set_by field k dot b hb in
    let one = stamps o.0 p.0 a.stamp o.1 p.1 (stamped o.0 a o.2) (stamped p.0 b p.2 ∙ ap Some (sym same)) in
    ap (λ x. x.value) (one_some a b (sym o.2 ∙ ap field one ∙ p.2))

-- a history is consistent, and so is each part of it
pub consistent_part : (names_of_queues : List (List ℕ)) (sites : ℕ) (h k : Knowledge) → IsHistory names_of_queues sites h → IsPartOf k h → IsConsistent k
consistent_part names_of_queues sites h k made part = record {
  members = λ dot m n a b. made.members dot m n (asserted_part k h part (dot, m) a) (asserted_part k h part (dot, n) b);
  penalties = one_value penalty_field penalty_stamped k stamps;
  pauses = one_value pause_field pause_stamped k stamps;
  labels = one_value label_field label_stamped k stamps;
  rings = one_value ring_field ring_stamped k stamps;
}
  where
    stamps : (o p : Operation) (stamp : Stamp) → Contains k o → Contains k p → stamp_of o ≡ Some stamp → stamp_of p ≡ Some stamp → o ≡ p
    stamps o p stamp ho hp = made.stamps o p stamp (part o ho) (part p hp)
