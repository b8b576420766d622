-- The rows of a queue one by one: the next is that of the entry of the least interface that is left.
use Rattle.std.proofs.Common.{◌≡◌, ◌≢◌, ◌⊎◌, inl, inr, ℕ, ◌<◌, ◌≤◌, Bool, true, false, not, cond, ◌&&◌, ◌||◌, nat_eq, List, [], ◌∷◌, length, get_or, map as each, Contains, Option, Some, None, filter, refl, sym, ap, subst, ◌∙◌, suc, zero, arith, if◌then◌else◌}
use Rattle.std.specs.Prelude.{nat_lt}
use Rattle.std.specs.List.{All, AllWithin, filter_map, cons_option, list_any}
use Rattle.std.specs.List.Sorted.{IsPartitionedBy}
use Rattle.std.specs.Option.{option_map, option_map_or, option_and_then}
use Rattle.std.specs.Cmp.{tied_then, unsigned_tied}
use Rattle.std.specs.FinMap as maps
use Rattle.std.specs.FinMap.Entries.{below_all}
use Rattle.std.specs.FinSet as sets
use Rattle.std.specs.Ordering.{eq_by_cmp, is_eq, is_lt, nat_cmp, ordering_reverse}
use Rattle.std.specs.declared.cmp.Ordering.TheVariants.{Less}
use Rattle.std.proofs.lemmas.Bool.{and_from, and_parts, cases_Bool, or_right}
use Rattle.std.proofs.lemmas.Bool.Decides.{nat_tests}
use Rattle.std.proofs.lemmas.Cmp.{tied_itself, nat_list_cmp_total}
use Rattle.std.proofs.Math.Bool.{and-false, or-true}
use Rattle.dots.specs.declared.member.Member.{Member}
use Rattle.dots.specs.Values.{Dot}
use Rattle.dots.specs.Orders.{member_cmp, text_cmp}
use Rattle.general_lemmas.specs.SetItems.{in_order}
use Rattle.operations.specs.Rows.{MemberRow, interface_in, interfaces_of, is_of, dots_of, row_if, row_of, rows_of}
use Rattle.general_lemmas.proofs.ItemOrder.{in_order_has}
use Rattle.general_lemmas.proofs.Membership.{any_in, in_any}
use Rattle.live_cells.specs.Index.{Listed}
use Rattle.live_cells.specs.declared.live_dot.LiveDot.{LiveDot}
use Rattle.live_cells.specs.LiveLists.{live_of}
use Rattle.live_cells.specs.Index.{IsIndex, Rises}
use Rattle.live_cells.specs.ShownRows.{IsLeastEntry, cells_view, dots_listed, group, is_after, is_left, is_own, is_passed, rows_after}
use Rattle.live_cells.proofs.CellLists.{Rise}
use Rattle.live_cells.proofs.IndexPlaces.{not_lesser}
use Rattle.live_cells.proofs.Indexes.{partitioned_by}
use Rattle.live_cells.proofs.MemberDots.{dots_are}
use Rattle.dots.proofs.MemberOrder.{exact_texts}
use Rattle.general_lemmas.proofs.TruthTables.{fact, less_of, equal_of}
use Rattle.live_cells.proofs.MemberOrder.{by_members, interface_not_less, less_parts, member_itself, one_member, queue_not_less}

-- texts in order
abbrev Text : Type 0
Text = List ℕ

text_trans : (a b c : Text) → is_lt (text_cmp a b) ≡ true → is_lt (text_cmp b c) ≡ true → is_lt (text_cmp a c) ≡ true
text_trans a b c h k = ap is_lt (nat_list_cmp_total.trans a b c (less_of _ h) (less_of _ k))

not_self : (a : Text) → is_lt (text_cmp a a) ≡ false
not_self a = ap is_lt (tied_itself nat_list_cmp_total a)

not_back : (a b : Text) → is_lt (text_cmp a b) ≡ true → is_lt (text_cmp b a) ≡ false
not_back a b h = ap is_lt (nat_list_cmp_total.antisymm b a ∙ ap ordering_reverse (less_of _ h))

one_text : (a b : Text) → eq_by_cmp text_cmp a b ≡ true → a ≡ b
one_text a b h = exact_texts a b (equal_of _ h)

-- what lies after one that is left is left
after_trans : (last : Option Text) (i k : Text) → is_after last i ≡ true → is_lt (text_cmp i k) ≡ true → is_after last k ≡ true
after_trans None i k h l = refl
after_trans (Some a) i k h l = text_trans a i k h l

abbrev Keys : Type 0
Keys = List (Text × Unit {0})

-- what is among keys past one lies past it
below_in : (d i : Text) (es : Keys) → below_all text_cmp d es ≡ true → list_any (eq_by_cmp text_cmp i) (each (λ e. e.0) es) ≡ true → is_lt (text_cmp d i) ≡ true
below_in d i [] b h = absurd (cc)
below_in d i (e ∷ es) b h =
    let p = and_parts (is_lt (text_cmp d e.0)) (below_all text_cmp d es) b in
    elim (cases_Bool (eq_by_cmp text_cmp i e.0)) [
      | inl t ↦ ap (λ x. is_lt (text_cmp d x)) (one_text i e.0 t) ∙ p.0
      | inr f ↦ below_in d i es p.1 (ap (λ b. b || list_any (eq_by_cmp text_cmp i) (each (λ e. e.0) es)) (sym f) ∙ h)
    ]

-- the rows of keys, one after another
module _ (f : Text → Option MemberRow) where
  abbrev rows : Keys → List (Text × MemberRow)
  rows es = filter_map (λ k. option_map (λ row. (k, row)) (f k)) (each (λ e. e.0) es)

  abbrev rest : (Text → Bool) → Keys → List (Text × MemberRow)
  rest p es = filter (λ e. p e.0) (rows es)

  dropped : (p : Text → Bool) (k : Text) (o : Option MemberRow) (xs : List (Text × MemberRow)) → p k ≡ false → filter (λ e. p e.0) (cons_option (option_map (λ row. (k, row)) o) xs) ≡ filter (λ e. p e.0) xs
  dropped p k None xs h = refl
  dropped p k (Some row) xs h = ap (λ b. cond b ((k, row) ∷ filter (λ e. p e.0) xs) (filter (λ e. p e.0) xs)) h

  all_kept : (p : Text → Bool) (i : Text) (es : Keys) → below_all text_cmp i es ≡ true → ((k : Text) → is_lt (text_cmp i k) ≡ true → p k ≡ true) → rest p es ≡ rows es
  all_kept p i [] b h = refl
  all_kept p i (e ∷ es) b h =
      let q = and_parts (is_lt (text_cmp i e.0)) (below_all text_cmp i es) b in
      kept (f e.0) (h e.0 q.0) ∙ ap (cons_option (option_map (λ row. (e.0, row)) (f e.0))) (all_kept p i es q.1 h)
    where
      kept : (o : Option MemberRow) → p e.0 ≡ true → filter (λ x. p x.0) (cons_option (option_map (λ row. (e.0, row)) o) (rows es)) ≡ cons_option (option_map (λ row. (e.0, row)) o) (rest p es)
      kept None t = refl
      kept (Some row) t = ap (λ b. cond b ((e.0, row) ∷ rest p es) (rest p es)) t

  -- the row of the least key that is left, and those that are left then
  pub first_row : (last : Option Text) (i : Text) (row : MemberRow) (es : Keys) → maps.is_sorted text_cmp es ≡ true → f i ≡ Some row → is_after last i ≡ true → list_any (eq_by_cmp text_cmp i) (each (λ e. e.0) es) ≡ true
      → ((j : Text) → list_any (eq_by_cmp text_cmp j) (each (λ e. e.0) es) ≡ true → is_after last j ≡ true → is_lt (text_cmp j i) ≡ false)
      → rest (is_after last) es ≡ (i, row) ∷ rest (is_after (Some i)) es
  first_row last i row [] s fi a h least = absurd (cc)
  first_row last i row (e ∷ es) s fi a h least =
      let q = and_parts (below_all text_cmp e.0 es) (maps.is_sorted text_cmp es) s in
      elim (cases_Bool (eq_by_cmp text_cmp i e.0)) [
        | inl t ↦
            let same = one_text i e.0 t in
            let past : below_all text_cmp i es ≡ true = ap (λ x. below_all text_cmp x es) same ∙ q.0 in
            (λ n. filter (λ x. is_after last x.0) (cons_option (option_map (λ r. (sym same n, r)) (f (sym same n))) (rows es)))
            ∙ (λ n. filter (λ x. is_after last x.0) (cons_option (option_map (λ r. (i, r)) (fi n)) (rows es)))
            ∙ ap (λ b. cond b ((i, row) ∷ rest (is_after last) es) (rest (is_after last) es)) a
            ∙ ap (λ xs. (i, row) ∷ xs) (all_kept (is_after last) i es past (λ k l. after_trans last i k a l)
            ∙ sym (all_kept (is_after (Some i)) i es past (λ k l. l))
            ∙ sym (dropped (is_after (Some i)) e.0 (f e.0) (rows es) (ap (λ x. is_lt (text_cmp i x)) (sym same) ∙ not_self i)))
        | inr n ↦
            let later = ap (λ b. b || list_any (eq_by_cmp text_cmp i) (each (λ x. x.0) es)) (sym n) ∙ h in
            let before = below_in e.0 i es q.0 later in
            dropped (is_after last) e.0 (f e.0) (rows es) (early e.0 before (least e.0 (ap (λ b. b || list_any (eq_by_cmp text_cmp e.0) (each (λ x. x.0) es)) (ap is_eq (tied_itself nat_list_cmp_total e.0)))))
            ∙ first_row last i row es q.1 fi a later (λ j k. least j (or_right (eq_by_cmp text_cmp j e.0) _ k))
            ∙ ap (λ xs. (i, row) ∷ xs) (sym (dropped (is_after (Some i)) e.0 (f e.0) (rows es) (not_back e.0 i before)))
      ]
    where
      early : (k : Text) → is_lt (text_cmp k i) ≡ true → (is_after last k ≡ true → is_lt (text_cmp k i) ≡ false) → is_after last k ≡ false
      early k b l = split (is_after last k) l
        where
          split : (p : Bool) → (p ≡ true → is_lt (text_cmp k i) ≡ false) → p ≡ false
          split true g = absurd (let x = g refl in cc)
          split false g = refl

  -- no row where none is left
  pub no_row : (p : Text → Bool) (es : Keys) → ((j : Text) → list_any (eq_by_cmp text_cmp j) (each (λ e. e.0) es) ≡ true → p j ≡ false) → rest p es ≡ []
  no_row p [] h = refl
  no_row p (e ∷ es) h =
      dropped p e.0 (f e.0) (rows es) (h e.0 (ap (λ b. b || list_any (eq_by_cmp text_cmp e.0) (each (λ x. x.0) es)) (ap is_eq (tied_itself nat_list_cmp_total e.0))))
      ∙ no_row p es (λ j k. h j (or_right (eq_by_cmp text_cmp j e.0) _ k))

-- whether a list has an element
abbrev has_any : {X : Type 0} → List X → Bool
has_any [] = false
has_any (x ∷ xs) = true

any_kept : {X : Type 0} (p : X → Bool) (xs : List X) → list_any p xs ≡ has_any (filter p xs)
any_kept p [] = refl
any_kept p (x ∷ xs) = split (p x) (any_kept p xs)
  where
    split : (b : Bool) → list_any p xs ≡ has_any (filter p xs) → (b || list_any p xs) ≡ has_any (cond b (x ∷ filter p xs) (filter p xs))
    split true h = refl
    split false h = h

any_dots : (ls : List Listed) → has_any (dots_listed ls) ≡ has_any ls
any_dots [] = refl
any_dots (l ∷ ls) = refl

-- a member has a dot where the index has an entry of it
dots_there : (cs : List LiveDot) (index : List Listed) (m : Member) → Rise cs → IsIndex index (live_of cs) → has_any (dots_of (cells_view cs) m) ≡ list_any (is_own m) index
dots_there cs index m s is = ap has_any (sym (dots_are cs index m s is)) ∙ any_dots (group m index) ∙ sym (any_kept (is_own m) index)

-- the member of a queue with an interface
abbrev in_queue : ℕ → Text → Member
in_queue queue i = record { queue = queue; interface = i }

-- the interfaces of a queue are those of its members
interfaces_kept : (queue : ℕ) (i : Text) (member : Dot → Option Member) (ds : List Dot)
    → list_any (eq_by_cmp text_cmp i) (filter_map (λ dot. option_and_then (interface_in queue) (member dot)) ds) ≡ list_any (λ dot. option_map_or (eq_by_cmp member_cmp (in_queue queue i)) (member dot) false) ds
interfaces_kept queue i member [] = refl
interfaces_kept queue i member (d ∷ ds) =
    one (member d) (filter_map (λ dot. option_and_then (interface_in queue) (member dot)) ds)
    ∙ ap (λ b. option_map_or (eq_by_cmp member_cmp (in_queue queue i)) (member d) false || b) (interfaces_kept queue i member ds)
  where
    if_in : (b : Bool) (t : Text) (xs : List Text) → list_any (eq_by_cmp text_cmp i) (cons_option (if b then Some t else None) xs) ≡ ((b && eq_by_cmp text_cmp i t) || list_any (eq_by_cmp text_cmp i) xs)
    if_in true t xs = refl
    if_in false t xs = refl

    one : (o : Option Member) (xs : List Text) → list_any (eq_by_cmp text_cmp i) (cons_option (option_and_then (interface_in queue) o) xs)
        ≡ (option_map_or (eq_by_cmp member_cmp (in_queue queue i)) o false || list_any (eq_by_cmp text_cmp i) xs)
    one None xs = refl
    one (Some m) xs =
        if_in (nat_eq queue m.queue) m.interface xs
        ∙ ap (λ b. b || list_any (eq_by_cmp text_cmp i) xs) (ap (λ b. b && eq_by_cmp text_cmp i m.interface) (sym (unsigned_tied queue m.queue)) ∙ tied_then (nat_cmp queue m.queue) (text_cmp i m.interface))

interfaces_are : (cs : List LiveDot) (index : List Listed) (queue : ℕ) (i : Text) → Rise cs → IsIndex index (live_of cs)
    → list_any (eq_by_cmp text_cmp i) (in_order (interfaces_of (cells_view cs) queue)) ≡ list_any (is_own (in_queue queue i)) index
unfolding interfaces_of
interfaces_are cs index queue i s is =
    in_order_has nat_list_cmp_total (interfaces_of (cells_view cs) queue) i
    ∙ sets.contains-from_list nat_list_cmp_total (filter_map (λ dot. option_and_then (interface_in queue) ((cells_view cs).member dot)) (in_order (cells_view cs).visible)) i
    ∙ interfaces_kept queue i (cells_view cs).member (in_order (cells_view cs).visible)
    ∙ any_kept (is_of (cells_view cs) (in_queue queue i)) (in_order (cells_view cs).visible)
    ∙ dots_there cs index (in_queue queue i) s is

-- what holds of each entry holds of one of a member
on_own : (P : Listed → Type 0) (X : Type 0) (m : Member) (ls : List Listed) → All P ls → list_any (is_own m) ls ≡ true → ((l : Listed) → P l → m ≡ l.member → X) → X
on_own P X m ls a h g =
    let own = in_any (is_own m) ls h in
    g own.0 (subst P own.1.2 (a own.1.0 own.0 own.1.1)) (one_member m own.0.member own.2)

-- a queue is itself
same_queue : (q r : ℕ) → q ≡ r → nat_eq q r ≡ true
same_queue q r e = grind (arith, nat_tests, e)

module _ (cs : List LiveDot) (index : List Listed) (queue : ℕ) (s : Rise cs) (is : IsIndex index (live_of cs)) where
  abbrev read : Text → Option MemberRow
  read i = row_of (cells_view cs) (in_queue queue i)

  abbrev names : Keys
  names = maps.entries (maps.from_entries {R = text_cmp} (each (λ k. (k, tt {0})) (sets.items (interfaces_of (cells_view cs) queue))))

  names_rise : maps.is_sorted text_cmp names ≡ true
  names_rise = fact _ (maps.entries_sorted (maps.from_entries {R = text_cmp} (each (λ k. (k, tt {0})) (sets.items (interfaces_of (cells_view cs) queue)))))

  -- an interface that is left is that of an entry that is left
  name_left : (last : Option Text) (j : Text) (l : Listed) → in_queue queue j ≡ l.member → is_left queue last l ≡ is_after last j
  name_left last j l e =
      ap (λ (m : Member). nat_eq queue m.queue && is_after last m.interface) (sym e) ∙ ap (λ b. b && is_after last j) (same_queue queue queue refl)

  -- the next row is that of the entry of the least interface
  pub next_row : (last : Option Text) (l : Listed) (row : MemberRow) → IsLeastEntry queue last index l → row_of (cells_view cs) l.member ≡ Some row
      → rows_after (cells_view cs) queue last ≡ (l.member.interface, row) ∷ rows_after (cells_view cs) queue (Some l.member.interface)
  next_row last l row least r =
      let own = and_parts (nat_eq queue l.member.queue) (is_after last l.member.interface) least.own in
      let same : queue ≡ l.member.queue = grind (arith, nat_tests, own) in
      first_row read last l.member.interface row names names_rise (ap (λ q. row_of (cells_view cs) (in_queue q l.member.interface)) same ∙ r) own.1
      (interfaces_are cs index queue l.member.interface s is
      ∙ any_in (is_own (in_queue queue l.member.interface)) index l least.here (ap (λ q. eq_by_cmp member_cmp (in_queue q l.member.interface) l.member) same ∙ member_itself l.member))
      (λ j h a. on_own (λ e. is_left queue last e ≡ true → is_lt (text_cmp e.member.interface l.member.interface) ≡ false) (is_lt (text_cmp j l.member.interface) ≡ false) (in_queue queue j) index least.least
      (sym (interfaces_are cs index queue j s is) ∙ h) (λ e g k. ap (λ (m : Member). is_lt (text_cmp m.interface l.member.interface)) k ∙ g (name_left last j e k ∙ a)))

  -- no row is left where no entry is
  pub no_more_rows : (last : Option Text) → All (λ e. is_left queue last e ≡ false) index → rows_after (cells_view cs) queue last ≡ []
  no_more_rows last none = no_row read (is_after last) names (λ j h.
      on_own (λ e. is_left queue last e ≡ false) (is_after last j ≡ false) (in_queue queue j) index none (sym (interfaces_are cs index queue j s is) ∙ h) (λ e g k. sym (name_left last j e k) ∙ g))

  -- at first all rows are left
  pub all_rows : rows_after (cells_view cs) queue None ≡ rows_of (cells_view cs) queue
  all_rows = whole (rows_of (cells_view cs) queue)
    where
      whole : (xs : List (Text × MemberRow)) → filter (λ x. true) xs ≡ xs
      whole [] = refl
      whole (x ∷ xs) = ap (λ ys. x ∷ ys) (whole xs)

-- the member of an entry has a row
pub has_row : (cs : List LiveDot) (index : List Listed) (l : Listed) → Rise cs → IsIndex index (live_of cs) → Contains index l → row_of (cells_view cs) l.member ≢ None
has_row cs index l s is here = some (dots_of (cells_view cs) l.member) _ (dots_there cs index l.member s is ∙ any_in (is_own l.member) index l here (member_itself l.member))
  where
    some : (ds : List Dot) (row : MemberRow) → has_any ds ≡ true → row_if ds row ≢ None
    some [] row h none = (cc)
    some (d ∷ ds) row h none = (cc)

-- the entries that a search for the least one passes over
module _ (queue : ℕ) (last : Option Text) where
  abbrev Passed : Member → Type 0
  Passed m = (m.queue < queue) ⊎ ((m.queue ≡ queue) × (is_after last m.interface ≡ false))

  abbrev Stopped : Member → Type 0
  Stopped m = (queue < m.queue) ⊎ ((m.queue ≡ queue) × (is_after last m.interface ≡ true))

  passed : (m : Member) → Passed m → is_passed queue last m ≡ true
  passed m p = elim p [
    | inl l ↦ ap (λ b. b || (nat_eq m.queue queue && not (is_after last m.interface))) (below l)
    | inr e ↦ (λ i. nat_lt m.queue queue || (same_queue m.queue queue e.0 i && not (e.1 i))) ∙ or-true (nat_lt m.queue queue)
  ]
    where
      below : m.queue < queue → nat_lt m.queue queue ≡ true
      below l = grind (arith, nat_tests, l)

  by_test : (m : Member) → ((is_passed queue last m ≡ true) × Passed m) ⊎ ((is_passed queue last m ≡ false) × Stopped m)
  by_test m = split (nat_lt m.queue queue) (nat_eq m.queue queue) (is_after last m.interface) refl refl refl
    where
      split : (p q r : Bool) → nat_lt m.queue queue ≡ p → nat_eq m.queue queue ≡ q → is_after last m.interface ≡ r
          → (((p || (q && not r)) ≡ true) × Passed m) ⊎ (((p || (q && not r)) ≡ false) × Stopped m)
      split true q r e f g = inl (refl, inl (grind (arith, nat_tests, e)))
      split false true false e f g = inl (refl, inr (grind (arith, nat_tests, f), g))
      split false true true e f g = inr (refl, inr (grind (arith, nat_tests, f), g))
      split false false r e f g = inr (refl, inl (grind (arith, nat_tests, e, f)))

  is_so : (m : Member) → is_passed queue last m ≡ true → Passed m
  is_so m h = elim (by_test m) [ inl p ↦ p.1 | inr n ↦ absurd (let x = sym h ∙ n.0 in cc) ]

  isnt_so : (m : Member) → is_passed queue last m ≡ false → Stopped m
  isnt_so m h = elim (by_test m) [ inl p ↦ absurd (let x = sym h ∙ p.0 in cc) | inr n ↦ n.1 ]

  -- what lies before one that is passed over is passed over
  passed_before : (a b : Member) → member_cmp a b ≡ Less → is_passed queue last b ≡ true → is_passed queue last a ≡ true
  passed_before a b l h = passed a (elim (less_parts a b l) [
    | inl q ↦ elim (is_so b h) [ inl r ↦ inl (omega arith) | inr e ↦ inl (let f = e.0 in omega arith) ]
    | inr q ↦ elim (is_so b h) [ inl r ↦ inl (let f = q.0 in omega arith) | inr e ↦ inr (q.0 ∙ e.0, early (is_after last a.interface) refl e.1 q.1) ]
  ])
    where
      early : (p : Bool) → is_after last a.interface ≡ p → is_after last b.interface ≡ false → text_cmp a.interface b.interface ≡ Less → is_after last a.interface ≡ false
      early true e n t = absurd (let x = sym (after_trans last a.interface b.interface e (ap is_lt t)) ∙ n in cc)
      early false e n t = e

  pub passed_first : (ls : List Listed) → Rises ls → IsPartitionedBy (λ l. is_passed queue last l.member) ls
  passed_first = partitioned_by (λ l. is_passed queue last l.member) (λ a b h k. elim (by_members a b h) [
    | inl l ↦ passed_before a.member b.member l k
    | inr e ↦ ap (is_passed queue last) e ∙ k
  ])

  -- none of them is left
  not_left : (l : Listed) → is_passed queue last l.member ≡ true → is_left queue last l ≡ false
  not_left l h = elim (is_so l.member h) [
    | inl q ↦ other_queue l (grind (arith, nat_tests, q))
    | inr e ↦ ap (λ b. nat_eq queue l.member.queue && b) e.1 ∙ and-false (nat_eq queue l.member.queue)
  ]
    where
      other_queue : (l : Listed) → nat_eq queue l.member.queue ≡ false → is_left queue last l ≡ false
      other_queue l n = ap (λ b. b && is_after last l.member.interface) n

  beyond : (l : Listed) → queue < l.member.queue → is_left queue last l ≡ false
  beyond l h = ap (λ b. b && is_after last l.member.interface) (apart h)
    where
      apart : queue < l.member.queue → nat_eq queue l.member.queue ≡ false
      apart h = grind (arith, nat_tests, h)

  module _ (ls : List Listed) (i : ℕ) (before : AllWithin (λ l. is_passed queue last l.member ≡ true) ls 0 i) where
    -- nothing is left where all are passed over
    pub least_none : length ls ≤ i → All (λ e. is_left queue last e ≡ false) ls
    least_none w k e l = not_left (get_or ls k e) (before k e (omega arith) (omega arith))

    module _ (rest : AllWithin (λ l. is_passed queue last l.member ≡ false) ls i (length ls)) (r : Rises ls) (x : Listed) (w : i < length ls) (is : x ≡ get_or ls i x) where
      stopped : Stopped x.member
      stopped = isnt_so x.member (ap (λ y. is_passed queue last y.member) is ∙ rest i x (omega arith) w)

      same_entry : (e : Listed) → get_or ls i e ≡ x
      same_entry e = same_at ls i e x w ∙ sym is
        where
          same_at : (ls : List Listed) (i : ℕ) (e x : Listed) → i < length ls → get_or ls i e ≡ get_or ls i x
          same_at [] i e x l = absurd (omega arith)
          same_at (y ∷ ls) zero e x l = refl
          same_at (y ∷ ls) (suc i) e x l = same_at ls i e x (omega arith)

      not_before : (k : ℕ) (e : Listed) → i ≤ k → k < length ls → is_lt (member_cmp (get_or ls k e).member x.member) ≡ false
      not_before k e l h = ap (λ y. is_lt (member_cmp (get_or ls k e).member y.member)) (sym (same_entry e)) ∙ not_lesser ls i k e r l h

      -- no row is left if the first entry that isn't passed over is of another queue
      pub least_beyond : x.member.queue ≢ queue → All (λ e. is_left queue last e ≡ false) ls
      least_beyond other k e l = elim (cases_Bool (nat_lt k i)) [
        | inl t ↦ not_left (get_or ls k e) (before k e (omega arith) (grind (arith, nat_tests, t)))
        | inr f ↦
            let past : queue < x.member.queue = elim stopped [ inl q ↦ q | inr p ↦ absurd (other p.0) ] in
            let later : x.member.queue ≤ (get_or ls k e).member.queue = queue_not_less x.member (get_or ls k e).member (not_before k e (grind (arith, nat_tests, f)) l) in
            beyond (get_or ls k e) (omega arith)
      ]

      -- the first that isn't has the least interface where it is of the queue
      pub least_here : x.member.queue ≡ queue → IsLeastEntry queue last ls x
      least_here own = record {
        here = (i, w, sym is);
        own = and_from (nat_eq queue x.member.queue) (is_after last x.member.interface) (same_queue queue x.member.queue (sym own)) (elim stopped [ inl q ↦ absurd (omega (arith, q, own)) | inr p ↦ p.1 ]);
        least = λ k e l h. elim (cases_Bool (nat_lt k i)) [
          | inl t ↦ absurd (let y = sym h ∙ not_left (get_or ls k e) (before k e (omega arith) (grind (arith, nat_tests, t))) in cc)
          | inr f ↦
              let own_queue : queue ≡ (get_or ls k e).member.queue = grind (arith, nat_tests, (and_parts (nat_eq queue (get_or ls k e).member.queue) (is_after last (get_or ls k e).member.interface) h).0) in
              interface_not_less x.member (get_or ls k e).member (own ∙ own_queue) (not_before k e (grind (arith, nat_tests, f)) l)
        ];
      }
