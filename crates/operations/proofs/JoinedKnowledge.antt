-- Two knowledges together: what their operations say is the join of what each says.
use Rattle.std.proofs.Common.{◌≡◌, ℕ, max, Bool, true, false, ◌||◌, List, [], ◌∷◌, ◌++◌, Contains, Option, Some, None, is_some, if◌then◌else◌, refl, sym, ap, subst, ◌∙◌, arith, true≢false}
use Rattle.std.specs.List.{find, cons_option}
use Rattle.std.specs.Option.{option_map, option_or}
use Rattle.std.specs.FinSet as set
use Rattle.std.proofs.lemmas.Grind.{flat_map-append}
use Rattle.std.proofs.lemmas.List.Elements.{Contains-append_left, Contains-append_right, filter_map-append}
use Rattle.std.proofs.lemmas.List.Folds.{find-append, list_any-append}
use Rattle.dots.specs.declared.calls.Calls.{Calls}
use Rattle.dots.specs.declared.member.Member.{Member}
use Rattle.dots.specs.Values.{Dot}
use Rattle.operations.specs.Registers.{Entry, RegistersAgree, join_of}
use Rattle.operations.specs.Conditions.{Condition, Live, Dead, DotFields, FieldsAgree, ConditionsAgree, condition_in, condition_joined, fields_in, fields_joined}
use Rattle.operations.specs.Operations.{Field, asserted_by, penalty_field, pause_field, label_field, ring_field}
use Rattle.operations.specs.Knowledge.{Knowledge, IsConsistent, OneValue, all_asserted, asserts, field_of, is_asserted, is_dot, is_named, known_dots, latest_of, member_of, names, settings_of}
use Rattle.operations.specs.Counts.{site_total}
use Rattle.dots.proofs.DotOrder.{dots_exact, dots_total}
use Rattle.operations.proofs.FieldLaws.{chosen, found_pair, latest_in}
use Rattle.operations.proofs.KnownLaws.{known_dot}
use Rattle.general_lemmas.proofs.Membership.{any_flat_map, some_find}
use Rattle.operations.proofs.RegisterLaws.{joined_assoc}

-- ---- known dots

named_both : (k l : Knowledge) (dot : Dot) → is_named (k ++ l) dot ≡ (is_named k dot || is_named l dot)
named_both k l dot = list_any-append (names dot) k l

asserted_both : (k l : Knowledge) (dot : Dot) → is_asserted (k ++ l) dot ≡ (is_asserted k dot || is_asserted l dot)
asserted_both k l dot = list_any-append (asserts dot) k l

-- the dots that two knowledges know together
pub known_both : (k l : Knowledge) → known_dots (k ++ l) ≡ set.union (known_dots k) (known_dots l)
known_both k l = set.same_set dots_total dots_exact _ _ (λ dot.
    known_dot (k ++ l) dot ∙ (λ i. asserted_both k l dot i || named_both k l dot i)
    ∙ either (is_asserted k dot) (is_asserted l dot) (is_named k dot) (is_named l dot)
    ∙ (λ i. sym (known_dot k dot) i || sym (known_dot l dot) i)
    ∙ sym (set.contains-union dots_total (known_dots k) (known_dots l) dot))
  where
    either : (a b m n : Bool) → ((a || b) || (m || n)) ≡ ((a || m) || (b || n))
    either true b m n = refl
    either false true true n = refl
    either false true false n = refl
    either false false true n = refl
    either false false false n = refl

-- ---- fields

latest_both : {T : Type 0} (xs ys : List (Entry T)) → latest_of (xs ++ ys) ≡ join_of (latest_of xs) (latest_of ys)
latest_both [] ys = refl
latest_both (x ∷ xs) ys = ap (join_of (Some x)) (latest_both xs ys) ∙ sym (joined_assoc (Some x) (latest_of xs) (latest_of ys))

settings_both : {T : Type 0} (field : Field T) (k l : Knowledge) (dot : Dot) → settings_of field (k ++ l) dot ≡ settings_of field k dot ++ settings_of field l dot
settings_both field k l dot = filter_map-append (chosen field dot) k l

pub field_both : {T : Type 0} (field : Field T) (k l : Knowledge) (dot : Dot) → field_of field (k ++ l) dot ≡ join_of (field_of field k dot) (field_of field l dot)
field_both field k l dot = ap latest_of (settings_both field k l dot) ∙ latest_both (settings_of field k dot) (settings_of field l dot)

fields_both : (k l : Knowledge) (dot : Dot) → fields_in (k ++ l) dot ≡ fields_joined (fields_in k dot) (fields_in l dot)
fields_both k l dot = λ i. record {
  penalty = field_both penalty_field k l dot i;
  pause = field_both pause_field k l dot i;
  label = field_both label_field k l dot i;
  ring = field_both ring_field k l dot i;
}

-- where no operation asserts a dot, none sets a field of it
unset : {T : Type 0} (field : Field T) (k : Knowledge) (dot : Dot) → is_asserted k dot ≡ false → settings_of field k dot ≡ []
unset field [] dot h = refl
unset {T} field (o ∷ k) dot h = by (asserts dot o) (unset field k dot) h
  where
    by : (b : Bool) → (is_asserted k dot ≡ false → settings_of field k dot ≡ []) → (b || is_asserted k dot) ≡ false → cons_option (if b then field o else None) (settings_of field k dot) ≡ []
    by true rest h = absurd (true≢false h)
    by false rest h = rest h

pub no_field : {T : Type 0} (field : Field T) (k : Knowledge) (dot : Dot) → is_asserted k dot ≡ false → field_of field k dot ≡ None
no_field field k dot h = ap latest_of (unset field k dot h)

pub joined_none : {T : Type 0} (x : Option (Entry T)) → join_of x None ≡ x
joined_none None = refl
joined_none (Some a) = refl

pub fields_right : (k l : Knowledge) (dot : Dot) → is_asserted k dot ≡ false → fields_in (k ++ l) dot ≡ fields_in l dot
fields_right k l dot h = fields_both k l dot ∙ (λ i. record {
  penalty = join_of (no_field penalty_field k dot h i) (field_of penalty_field l dot);
  pause = join_of (no_field pause_field k dot h i) (field_of pause_field l dot);
  label = join_of (no_field label_field k dot h i) (field_of label_field l dot);
  ring = join_of (no_field ring_field k dot h i) (field_of ring_field l dot);
})

fields_left : (k l : Knowledge) (dot : Dot) → is_asserted l dot ≡ false → fields_in (k ++ l) dot ≡ fields_in k dot
fields_left k l dot h = fields_both k l dot ∙ (λ i. record {
  penalty = left (field_of penalty_field k dot) (field_of penalty_field l dot) (no_field penalty_field l dot h) i;
  pause = left (field_of pause_field k dot) (field_of pause_field l dot) (no_field pause_field l dot h) i;
  label = left (field_of label_field k dot) (field_of label_field l dot) (no_field label_field l dot h) i;
  ring = left (field_of ring_field k dot) (field_of ring_field l dot) (no_field ring_field l dot h) i;
})
  where
    left : {T : Type 0} (x y : Option (Entry T)) → y ≡ None → join_of x y ≡ x
    left x y e = ap (join_of x) e ∙ joined_none x

-- ---- members

pub member_both : (k l : Knowledge) (dot : Dot) → member_of (k ++ l) dot ≡ option_or (member_of k dot) (member_of l dot)
member_both k l dot =
    ap (λ ps. option_map (λ p. p.1) (find (λ p. is_dot dot p.0) ps)) (flat_map-append asserted_by k l)
    ∙ ap (option_map (λ p. p.1)) (find-append (λ p. is_dot dot p.0) (all_asserted k) (all_asserted l))
    ∙ of_either (find (λ p. is_dot dot p.0) (all_asserted k)) (find (λ p. is_dot dot p.0) (all_asserted l))
  where
    of_either : (x y : Option (Dot × Member)) → option_map (λ p. p.1) (option_or x y) ≡ option_or (option_map (λ p. p.1) x) (option_map (λ p. p.1) y)
    of_either None y = refl
    of_either (Some p) y = refl

-- a dot has a member exactly where some operation asserts it
pub member_some : (k : Knowledge) (dot : Dot) → is_some (member_of k dot) ≡ is_asserted k dot
member_some k dot = kept (find test (all_asserted k)) ∙ some_find test (all_asserted k) ∙ any_flat_map test asserted_by k
  where
    test : Dot × Member → Bool
    test = λ p. is_dot dot p.0

    kept : (o : Option (Dot × Member)) → is_some (option_map (λ p. p.1) o) ≡ is_some o
    kept None = refl
    kept (Some p) = refl

no_member : (k : Knowledge) (dot : Dot) → member_of k dot ≡ None → is_asserted k dot ≡ false
no_member k dot h = sym (member_some k dot) ∙ ap is_some h

-- ---- conditions

-- the condition of a dot by whether it is named, its member and its fields
abbrev pub condition_by : Bool → Option Member → DotFields → Option Condition
condition_by named member fields = if named then Some Dead else option_map (λ m. Live m fields) member

joined_by : (n n' : Bool) (m m' : Option Member) (f f' both : DotFields)
    → both ≡ fields_joined f f' → (m ≡ None → both ≡ f') → (m' ≡ None → both ≡ f)
    → condition_by (n || n') (option_or m m') both ≡ condition_joined (condition_by n m f) (condition_by n' m' f')
joined_by true n' m m' f f' both e r l = refl
joined_by false true None m' f f' both e r l = refl
joined_by false true (Some a) m' f f' both e r l = refl
joined_by false false None None f f' both e r l = refl
joined_by false false None (Some b) f f' both e r l = ap (λ g. Some (Live b g)) (r refl)
joined_by false false (Some a) None f f' both e r l = ap (λ g. Some (Live a g)) (l refl)
joined_by false false (Some a) (Some b) f f' both e r l = ap (λ g. Some (Live a g)) e

-- the condition of a dot in two knowledges together is the join of its conditions in each
pub condition_both : (k l : Knowledge) (dot : Dot) → condition_in (k ++ l) dot ≡ condition_joined (condition_in k dot) (condition_in l dot)
condition_both k l dot =
    (λ i. condition_by (named_both k l dot i) (member_both k l dot i) (fields_in (k ++ l) dot))
    ∙ joined_by (is_named k dot) (is_named l dot) (member_of k dot) (member_of l dot) (fields_in k dot) (fields_in l dot) (fields_in (k ++ l) dot)
    (fields_both k l dot) (λ h. fields_right k l dot (no_member k dot h)) (λ h. fields_left k l dot (no_member l dot h))

-- ---- agreement

fields_agree : {T : Type 0} (field : Field T) (k l : Knowledge) (dot : Dot) → OneValue field (k ++ l) → RegistersAgree (field_of field k dot) (field_of field l dot)
fields_agree field k l dot one a b e f stamps =
    one dot a b
    (subst (λ es. Contains es a) (sym (settings_both field k l dot)) (Contains-append_left (settings_of field k dot) (settings_of field l dot) a (latest_in (settings_of field k dot) a e)))
    (subst (λ es. Contains es b) (sym (settings_both field k l dot)) (Contains-append_right (settings_of field k dot) (settings_of field l dot) b (latest_in (settings_of field l dot) b f)))
    stamps

-- the member of a dot stands with it among the dots that are asserted
pub member_in : (k : Knowledge) (dot : Dot) (m : Member) → member_of k dot ≡ Some m → Contains (all_asserted k) (dot, m)
member_in k dot m h = by (find (λ p. is_dot dot p.0) (all_asserted k)) refl h
  where
    by : (o : Option (Dot × Member)) → find (λ p. is_dot dot p.0) (all_asserted k) ≡ o → option_map (λ p. p.1) o ≡ Some m → Contains (all_asserted k) (dot, m)
    by None e h = absurd (cc)
    by (Some p) e h = let same : p.1 ≡ m = cc in subst (λ n. Contains (all_asserted k) (dot, n)) same (found_pair k dot p e)

members_agree : (k l : Knowledge) (dot : Dot) → IsConsistent (k ++ l) → (m n : Member) → member_of k dot ≡ Some m → member_of l dot ≡ Some n → m ≡ n
members_agree k l dot one m n e f =
    let all = sym (flat_map-append asserted_by k l) in
    one.members dot m n
    (subst (λ ps. Contains ps (dot, m)) all (Contains-append_left (all_asserted k) (all_asserted l) (dot, m) (member_in k dot m e)))
    (subst (λ ps. Contains ps (dot, n)) all (Contains-append_right (all_asserted k) (all_asserted l) (dot, n) (member_in l dot n f)))

agree_by : (n n' : Bool) (m m' : Option Member) (f f' : DotFields) → ((a b : Member) → m ≡ Some a → m' ≡ Some b → a ≡ b) → FieldsAgree f f' → ConditionsAgree (condition_by n m f) (condition_by n' m' f')
agree_by true n' m m' f f' one agree = tt
agree_by false n' None m' f f' one agree = tt
agree_by false true (Some a) m' f f' one agree = tt
agree_by false false (Some a) None f f' one agree = tt
agree_by false false (Some a) (Some b) f f' one agree = (one a b refl refl, agree)

-- the conditions of two knowledges that are consistent together agree
pub conditions_agree : (k l : Knowledge) → IsConsistent (k ++ l) → (dot : Dot) → ConditionsAgree (condition_in k dot) (condition_in l dot)
conditions_agree k l one dot =
    agree_by (is_named k dot) (is_named l dot) (member_of k dot) (member_of l dot) (fields_in k dot) (fields_in l dot) (members_agree k l dot one) (record {
      penalty = fields_agree penalty_field k l dot one.penalties;
      pause = fields_agree pause_field k l dot one.pauses;
      label = fields_agree label_field k l dot one.labels;
      ring = fields_agree ring_field k l dot one.rings;
    })

-- ---- totals

pub total_both : (k l : Knowledge) (site queue : ℕ) (calls : Calls) → site_total (k ++ l) site queue calls ≡ max (site_total k site queue calls) (site_total l site queue calls)
total_both [] l site queue calls = omega arith
total_both (o ∷ k) l site queue calls = let rest = total_both k l site queue calls in omega (arith, rest)
