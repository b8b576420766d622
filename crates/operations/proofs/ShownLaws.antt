-- What is shown: of which dot each value of a row is, and where there is none.
use Rattle.std.proofs.Common.{◌≡◌, ◌≢◌, ◌↔◌, ◌⊎◌, ◌≤◌, inl, inr, ℕ, Bool, true, false, List, [], ◌∷◌, Contains, Option, Some, None, IsSome, is_some, true≢false, refl, sym, ap, subst, ◌∙◌, if◌then◌else◌, max, arith, filter, cond}
use Rattle.std.specs.List.{filter_map, cons_option}
use Rattle.std.specs.FinMap as map
use Rattle.std.specs.FinMap.Entries.{below_all}
use Rattle.std.specs.FinSet as set
use Rattle.std.specs.Option.{option_map_or}
use Rattle.std.specs.Ordering.{eq_by_cmp, is_eq, is_lt}
use Rattle.std.specs.declared.cmp.Ordering.{Ordering}
use Rattle.std.specs.declared.cmp.Ordering.TheVariants.{Less, Equal, Greater}
use Rattle.std.proofs.lemmas.Cmp.{tied_itself}
use Rattle.std.proofs.lemmas.Bool.{and_parts}
use Rattle.dots.specs.declared.member.Member.{Member}
use Rattle.dots.specs.Values.{Dot, Stamp}
use Rattle.dots.specs.Orders.{dot_cmp, member_cmp, stamp_cmp}
use Rattle.operations.specs.Registers.{Entry, join_of}
use Rattle.dots.specs.declared.calls.Calls.{Calls}
use Rattle.operations.specs.Operations.{Operation, Field}
use Rattle.operations.specs.Knowledge.{Knowledge, settings_of, field_of, latest_of, visible_dots, member_of}
use Rattle.operations.specs.Rows.{MemberRow, dot_view, is_of, dots_of, member_field, member_fields, row_of_fields, row_if, row_of}
use Rattle.operations.specs.Counts.{count_in, site_total}
use Rattle.operations.specs.Shown.{IsComputed, HasVisibleDot, IsShown, ShowsField, HasValues, IsGreatestCount}
use Rattle.general_lemmas.specs.SetItems.{in_order}
use Rattle.dots.proofs.DotOrder.{dots_total}
use Rattle.operations.proofs.RegisterLaws.{stamps_total}
use Rattle.dots.proofs.MemberOrder.{exact_members}
use Rattle.general_lemmas.proofs.ItemOrder.{units, in_order_has, in_order_rises}
use Rattle.operations.proofs.RowLaws.{has_row}
use Rattle.general_lemmas.proofs.Membership.{first_in, later_in, cases_in, any_in, some_in}
use Rattle.general_lemmas.proofs.Filters.{filter_in, passes}
use Rattle.operations.proofs.FieldLaws.{latest_in, latest_some, latest_greatest, field_is}
use Rattle.general_lemmas.proofs.TruthTables.{equal_of, less_of}

-- the field that is computed is the latest setting
pub is_computed : {T : Type 0} (field : Field T) (k : Knowledge) (dot : Dot) → IsComputed field k dot
is_computed {T} field k dot = record { latest = field_is field k dot; there = (to (field_of field k dot) refl, λ h. latest_some (settings_of field k dot) h.0 h.1) }
  where
    to : (o : Option (Entry T)) → field_of field k dot ≡ o → IsSome (field_of field k dot) → (entry : Entry T) × Contains (settings_of field k dot) entry
    to None e some = absurd (true≢false (sym some ∙ ap is_some e))
    to (Some entry) e some = (entry, latest_in (settings_of field k dot) entry e)

-- a total is the greatest count
pub is_greatest : (k : Knowledge) (site queue : ℕ) (calls : Calls) → IsGreatestCount k site queue calls (site_total k site queue calls)
is_greatest [] site queue calls = record { is_one = inl refl; at_least = λ o h. absurd (omega (arith, h.1)) }
is_greatest (p ∷ k) site queue calls =
    let rest = is_greatest k site queue calls in
    record { is_one = one rest (larger (count_in site queue calls p) (site_total k site queue calls)); at_least = bound rest }
  where
    larger : (a b : ℕ) → (max a b ≡ a) ⊎ (max a b ≡ b)
    larger a b = grind arith

    one : IsGreatestCount k site queue calls (site_total k site queue calls) → ((max (count_in site queue calls p) (site_total k site queue calls) ≡ count_in site queue calls p) ⊎ (max (count_in site queue calls p) (site_total k site queue calls) ≡ site_total k site queue calls))
        → (site_total (p ∷ k) site queue calls ≡ 0) ⊎ ((o : Operation) × Contains (p ∷ k) o × (count_in site queue calls o ≡ site_total (p ∷ k) site queue calls))
    one rest (inl e) = inr (p, first_in p k, sym e)
    one rest (inr e) = elim rest.is_one [
      | inl z ↦ inl (e ∙ z)
      | inr s ↦ inr (s.0, later_in p k s.0 s.1, s.2 ∙ sym e)
    ]

    bound : IsGreatestCount k site queue calls (site_total k site queue calls) → (o : Operation) → Contains (p ∷ k) o → count_in site queue calls o ≤ site_total (p ∷ k) site queue calls
    bound rest o h = elim (cases_in p k o h) [
      | inl e ↦ let same : count_in site queue calls p ≡ count_in site queue calls o = ap (count_in site queue calls) e in omega arith
      | inr r ↦ omega (arith, rest.at_least o r)
    ]

-- dots of which each lies before all that follow it
abbrev Rise : List Dot → Type 0
Rise [] = Unit {0}
Rise (d ∷ ds) = ((x : Dot) → Contains ds x → dot_cmp d x ≡ Less) × Rise ds

-- the latest of what a function gives of dots that rise is that of the least dot among equal stamps
record IsFirstLatest {T : Type 0} (f : Dot → Option (Entry T)) (ds : List Dot) (entry : Entry T) : Type 0 where
  dot : Dot
  own : Contains ds dot
  has : f dot ≡ Some entry
  none_lesser : (d : Dot) (e : Entry T) → Contains ds d → f d ≡ Some e → e.stamp ≡ entry.stamp → dot_cmp d dot ≢ Less

not_before_itself : (d : Dot) → dot_cmp d d ≢ Less
not_before_itself d h = let tied = tied_itself dots_total d in absurd (cc)

not_turned : (a b : Dot) → dot_cmp a b ≡ Less → dot_cmp b a ≢ Less
not_turned a b h g = not_before_itself a (dots_total.trans a b a h g)

stamp_not_before_itself : (s : Stamp) → stamp_cmp s s ≢ Less
stamp_not_before_itself s h = let tied = tied_itself stamps_total s in absurd (cc)

first_latest : {T : Type 0} (f : Dot → Option (Entry T)) (ds : List Dot) (entry : Entry T) → Rise ds → latest_of (filter_map f ds) ≡ Some entry → IsFirstLatest f ds entry
first_latest f [] entry rise h = absurd (none_some h)
  where
    none_some : None ≡ Some entry → ⊥
    none_some h = (cc)
first_latest {T} f (d ∷ ds) entry rise h = of (λ e q. first_latest f ds e rise.1 q) (f d) refl h
  where
    deeper : (e : Entry T) → IsFirstLatest f ds e → ((x : Entry T) → f d ≡ Some x → x.stamp ≡ e.stamp → ⊥) → IsFirstLatest f (d ∷ ds) e
    deeper e l apart = record {
      dot = l.dot;
      own = later_in d ds l.dot l.own;
      has = l.has;
      none_lesser = λ x g here is same. elim (cases_in d ds x here) [
        | inl p ↦ absurd (apart g (ap f p ∙ is) same)
        | inr r ↦ l.none_lesser x g r is same
      ];
    }

    head : (a : Entry T) → f d ≡ Some a → IsFirstLatest f (d ∷ ds) a
    head a is = record {
      dot = d;
      own = first_in d ds;
      has = is;
      none_lesser = λ x g here has same. elim (cases_in d ds x here) [
        | inl p ↦ subst (λ y. dot_cmp y d ≢ Less) p (not_before_itself d)
        | inr r ↦ not_turned d x (rise.0 x r)
      ];
    }

    one : (a b : Entry T) → Some a ≡ Some b → a ≡ b
    one a b e = cc

    chosen : ((e : Entry T) → latest_of (filter_map f ds) ≡ Some e → IsFirstLatest f ds e) → (a b : Entry T) → f d ≡ Some a → latest_of (filter_map f ds) ≡ Some b → (o : Ordering) → stamp_cmp a.stamp b.stamp ≡ o → Some (if is_lt o then b else a) ≡ Some entry → IsFirstLatest f (d ∷ ds) entry
    chosen tail a b is rest Less e q =
        subst (IsFirstLatest f (d ∷ ds)) (one b entry q)
        (deeper b (tail b rest) (λ x has same.
        let stamps : stamp_cmp x.stamp b.stamp ≡ Less = subst (λ y. stamp_cmp y.stamp b.stamp ≡ Less) (one a x (sym is ∙ has)) e in
        stamp_not_before_itself b.stamp (subst (λ s. stamp_cmp s b.stamp ≡ Less) same stamps)))
    chosen tail a b is rest Equal e q = subst (IsFirstLatest f (d ∷ ds)) (one a entry q) (head a is)
    chosen tail a b is rest Greater e q = subst (IsFirstLatest f (d ∷ ds)) (one a entry q) (head a is)

    with_head : ((e : Entry T) → latest_of (filter_map f ds) ≡ Some e → IsFirstLatest f ds e) → (a : Entry T) → f d ≡ Some a → (o : Option (Entry T)) → latest_of (filter_map f ds) ≡ o → join_of (Some a) o ≡ Some entry → IsFirstLatest f (d ∷ ds) entry
    with_head tail a is None rest q = subst (IsFirstLatest f (d ∷ ds)) (one a entry q) (head a is)
    with_head tail a is (Some b) rest q = chosen tail a b is rest (stamp_cmp a.stamp b.stamp) refl q

    none_is : (x : Entry T) → f d ≡ None → f d ≡ Some x → ⊥
    none_is x p q = (cc)

    of : ((e : Entry T) → latest_of (filter_map f ds) ≡ Some e → IsFirstLatest f ds e) → (o : Option (Entry T)) → f d ≡ o → latest_of (cons_option o (filter_map f ds)) ≡ Some entry → IsFirstLatest f (d ∷ ds) entry
    of tail None is q = deeper entry (tail entry q) (λ x has same. none_is x is has)
    of tail (Some a) is q = with_head tail a is (latest_of (filter_map f ds)) refl q

before_all : (d : Dot) (ds : List Dot) → below_all dot_cmp d (units ds) ≡ true → (x : Dot) → Contains ds x → dot_cmp d x ≡ Less
before_all d [] h x here = absurd (omega (arith, here.1))
before_all d (e ∷ ds) h x here =
    let s = and_parts (is_lt (dot_cmp d e)) (below_all dot_cmp d (units ds)) h in
    elim (cases_in e ds x here) [
      | inl p ↦ subst (λ y. dot_cmp d y ≡ Less) p (less_of (dot_cmp d e) s.0)
      | inr r ↦ before_all d ds s.1 x r
    ]

rises : (ds : List Dot) → map.is_sorted dot_cmp (units ds) ≡ true → Rise ds
rises [] h = tt
rises (d ∷ ds) h = let s = and_parts (below_all dot_cmp d (units ds)) (map.is_sorted dot_cmp (units ds)) h in (before_all d ds s.0, rises ds s.1)

-- what is left of dots that rise, rises
rise_filter : (p : Dot → Bool) (ds : List Dot) → Rise ds → Rise (filter p ds)
rise_filter p [] h = tt
rise_filter p (d ∷ ds) h = by (rise_filter p ds h.1) (p d)
  where
    by : Rise (filter p ds) → (b : Bool) → Rise (cond b (d ∷ filter p ds) (filter p ds))
    by tail true = (λ x here. h.0 x (filter_in p ds x here), tail)
    by tail false = tail

-- the dots of a member rise
own_rise : (k : Knowledge) (member : Member) → Rise (dots_of (dot_view k) member)
own_rise k member = rise_filter (is_of (dot_view k) member) (in_order (visible_dots k)) (rises (in_order (visible_dots k)) (in_order_rises (visible_dots k)))

-- what is shown of a field
pub shows_field : {T : Type 0} (field : Field T) (k : Knowledge) (member : Member) → ShowsField field k member
shows_field {T} field k member = record { shown = shown; unset = (nowhere, λ h. nothing h (member_field (field_of field k) (dot_view k) member) refl) }
  where
    shown : (entry : Entry T) → member_field (field_of field k) (dot_view k) member ≡ Some entry → IsShown field k member entry
    shown entry h =
        let l = first_latest (field_of field k) (dots_of (dot_view k) member) entry (own_rise k member) h in
        record {
          dot = l.dot;
          is_own = l.own;
          is_its_field = l.has;
          none_later = λ d e here is. latest_greatest (filter_map (field_of field k) (dots_of (dot_view k) member)) entry e h (some_in (field_of field k) (dots_of (dot_view k) member) d e here is);
          none_lesser = l.none_lesser;
        }

    none_at : (d : Dot) → member_field (field_of field k) (dot_view k) member ≡ None → Contains (dots_of (dot_view k) member) d → (o : Option (Entry T)) → field_of field k d ≡ o → o ≡ None
    none_at d h here None e = refl
    none_at d h here (Some entry) e =
        absurd (true≢false (sym (latest_some (filter_map (field_of field k) (dots_of (dot_view k) member)) entry (some_in (field_of field k) (dots_of (dot_view k) member) d entry here e)) ∙ ap is_some h))

    nowhere : member_field (field_of field k) (dot_view k) member ≡ None → (d : Dot) → Contains (dots_of (dot_view k) member) d → field_of field k d ≡ None
    nowhere h d here = none_at d h here (field_of field k d) refl

    some_none : (e : Entry T) (o : Option (Entry T)) → o ≡ Some e → o ≡ None → ⊥
    some_none e o p q = (cc)

    nothing : ((d : Dot) → Contains (dots_of (dot_view k) member) d → field_of field k d ≡ None) → (o : Option (Entry T)) → member_field (field_of field k) (dot_view k) member ≡ o → o ≡ None
    nothing h None e = refl
    nothing h (Some entry) e = let s = shown entry e in absurd (some_none entry (field_of field k s.dot) s.is_its_field (h s.dot s.is_own))

-- a row has what is shown of each field
pub has_values : (k : Knowledge) (member : Member) (row : MemberRow) → row_of (dot_view k) member ≡ Some row → HasValues k member row
has_values k member row h = of (dots_of (dot_view k) member) h
  where
    shown : MemberRow
    shown = row_of_fields (member_fields (dot_view k) member)

    one : (a b : MemberRow) → Some a ≡ Some b → b ≡ a
    one a b e = cc

    of : (ds : List Dot) → row_if ds shown ≡ Some row → HasValues k member row
    of [] h = absurd (none_some h)
      where
        none_some : None ≡ Some row → ⊥
        none_some h = (cc)
    of (d ∷ ds) h = subst (HasValues k member) (sym (one shown row h)) (record { penalty = refl; paused = refl; reason = refl; name = refl; state = refl; ring = refl })

-- a dot of a member is visible, with that member
of_dot : (k : Knowledge) (member : Member) (d : Dot) → Contains (dots_of (dot_view k) member) d → HasVisibleDot k member
of_dot k member d h = record { dot = d; visible = visible; of_member = with (member_of k d) refl (passes (is_of (dot_view k) member) (in_order (visible_dots k)) d h) }
  where
    visible : set.contains (visible_dots k) d ≡ true
    visible =
        sym (in_order_has dots_total (visible_dots k) d)
        ∙ any_in (eq_by_cmp dot_cmp d) (in_order (visible_dots k)) d (filter_in (is_of (dot_view k) member) (in_order (visible_dots k)) d h) (ap is_eq (tied_itself dots_total d))

    with : (o : Option Member) → member_of k d ≡ o → option_map_or (eq_by_cmp member_cmp member) o false ≡ true → member_of k d ≡ Some member
    with None e t = absurd (true≢false (sym t))
    with (Some m) e t = e ∙ ap Some (sym (exact_members member m (equal_of (member_cmp member m) t)))

-- a member has a row exactly where a dot of it is visible
pub row_is : (k : Knowledge) (member : Member) → IsSome (row_of (dot_view k) member) ↔ HasVisibleDot k member
row_is k member = (of (dots_of (dot_view k) member) refl, λ v. has_row k member v.dot v.visible v.of_member)
  where
    shown : MemberRow
    shown = row_of_fields (member_fields (dot_view k) member)

    of : (ds : List Dot) → dots_of (dot_view k) member ≡ ds → is_some (row_if (dots_of (dot_view k) member) shown) ≡ true → HasVisibleDot k member
    of [] e h = absurd (true≢false (sym h ∙ ap (λ ds. is_some (row_if ds shown)) e))
    of (d ∷ ds) e h = of_dot k member d (subst (λ xs. Contains xs d) (sym e) (first_in d ds))
