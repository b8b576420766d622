-- The dots that a command goes over: they rise, each has its member, and they are found queue by queue.
use Rattle.std.proofs.Common.{◌≡◌, ℕ, zero, suc, ◌+◌, ◌<◌, Bool, true, false, ◌&&◌, ◌||◌, cond, filter, List, [], ◌∷◌, ◌++◌, get_or, map as each, Contains, Option, Some, None, Result, Ok, Err, OnErr, inl, inr, if◌then◌else◌, refl, sym, ap, subst, ◌∙◌, arith, true≢false}
use Rattle.std.specs.Prelude.{bytes_eq}
use Rattle.std.specs.Cmp.{eq_by_cmp_equiv}
use Rattle.std.specs.List.{All, AllByRecursion, IsDistinct, cons_option, filter_map, list_any}
use Rattle.std.specs.List.Sorted.{IsPermutation, IsSorted}
use Rattle.std.specs.Option.{option_and_then, option_map, option_map_or}
use Rattle.std.specs.Ordering.{eq_by_cmp, is_eq, is_lt}
use Rattle.std.specs.FinMap as map
use Rattle.std.specs.FinMap.Entries.{below_all}
use Rattle.std.specs.FinSet as set
use Rattle.std.proofs.lemmas.Bool.{and_parts, cases_Bool, cases_lt, or_right}
use Rattle.std.proofs.lemmas.Cmp.{tied_itself}
use Rattle.std.proofs.lemmas.List.Elements.{Contains-get_or}
use Rattle.std.proofs.lemmas.List.Folds.{list_any-append}
use Rattle.std.proofs.lemmas.List.Sorted.{list_any-IsPermutation}
use Rattle.std.proofs.lemmas.Map.Keys.{IsDistinct-IsPermutation, IsDistinct-cons, IsDistinct-head, IsDistinct-tail}
use Rattle.std.proofs.lemmas.Slice.Eq.{bytes_eq-Decides}
use Rattle.dots.specs.declared.member.Member.{Member}
use Rattle.dots.specs.Values.{Dot}
use Rattle.dots.specs.Orders.{dot_cmp, member_cmp}
use Rattle.operations.specs.Conditions.{DotFields}
use Rattle.operations.specs.Knowledge.{is_dot}
use Rattle.operations.specs.Rows.{DotView, dots_of, is_of}
use Rattle.general_lemmas.specs.SetItems.{in_order}
use Rattle.operations.proofs.AlikeViews.{listed_in, own_visible}
use Rattle.dots.proofs.DotOrder.{dots_exact, dots_total}
use Rattle.general_lemmas.proofs.Filters.{filter_has, passes}
use Rattle.general_lemmas.proofs.ItemOrder.{in_order_has, in_order_list, in_order_rises, units}
use Rattle.dots.proofs.MemberOrder.{exact_members, members_total}
use Rattle.general_lemmas.proofs.Membership.{any_in, any_map, cases_in, first_in, in_any, in_some, nothing_in, same_tests, some_in}
use Rattle.general_lemmas.proofs.SortedEntries.{below_first}
use Rattle.general_lemmas.proofs.TruthTables.{equal_of, less_of, truth}
use Rattle.member_orset.specs.Members.{Holding, Members, dot_view_of}
use Rattle.live_cells.proofs.DotTests.{after, one_dot, same_itself}
use Rattle.replica.specs.DotLists.{DotsRise, dots_below}
use Rattle.replica.specs.SiteViews.{dots_seen, with_interface}
use Rattle.replica.specs.Writing.{written_to}
use Rattle.replica.proofs.MadeChanges.{held_by}
use Rattle.replica.proofs.SeenOnce.{AreOnce, dots_paired, in_paired, paired, rising_once, seen_visible, with_own}
use Rattle.replica.proofs.WrittenDots.{held_written}

-- ---- lists that rise

-- what lies before each lies before each that a test leaves
below_filter : (p : Dot → Bool) (x : Dot) (dots : List Dot) → below_all dot_cmp x (units dots) ≡ true → below_all dot_cmp x (units (filter p dots)) ≡ true
below_filter p x [] h = refl
below_filter p x (d ∷ ds) h =
    let parts = and_parts (is_lt (dot_cmp x d)) (below_all dot_cmp x (units ds)) h in at (p d) parts.0 (below_filter p x ds parts.1)
  where
    at : (b : Bool) → is_lt (dot_cmp x d) ≡ true → below_all dot_cmp x (units (filter p ds)) ≡ true → below_all dot_cmp x (units (cond b (d ∷ filter p ds) (filter p ds))) ≡ true
    at true l rest = (λ i. l i && rest i)
    at false l rest = rest

-- the dots that a filter leaves are sorted
filter_rises : (p : Dot → Bool) (dots : List Dot) → DotsRise dots → DotsRise (filter p dots)
filter_rises p [] h = refl
filter_rises p (d ∷ ds) h =
    let parts = and_parts (below_all dot_cmp d (units ds)) (map.is_sorted dot_cmp (units ds)) h in at (p d) (below_filter p d ds parts.0) (filter_rises p ds parts.1)
  where
    at : (b : Bool) → below_all dot_cmp d (units (filter p ds)) ≡ true → DotsRise (filter p ds) → DotsRise (cond b (d ∷ filter p ds) (filter p ds))
    at true l rest = (λ i. l i && rest i)
    at false l rest = rest

-- dots that are sorted, and of which none comes twice, rise
pub sorted_rises : (dots : List Dot) → IsSorted dot_cmp dots → AreOnce dots → DotsRise dots
sorted_rises [] s once = refl
sorted_rises (x ∷ []) s once = refl
sorted_rises (x ∷ y ∷ ys) s once =
    let later : IsSorted dot_cmp (y ∷ ys) = λ k d low high.
    let one : suc k + 1 ≡ suc (k + 1) = omega arith in
    subst (λ n. is_lt (dot_cmp (get_or (x ∷ y ∷ ys) n d) (get_or (y ∷ ys) k d)) ≡ false) one (s (suc k) d (omega arith) (omega arith)) in
    let rest : DotsRise (y ∷ ys) = sorted_rises (y ∷ ys) later (IsDistinct-tail is_dot x (y ∷ ys) once) in
    let apart = (IsDistinct-head is_dot x (y ∷ ys) once).0 in
    let less = after y x (λ e. true≢false (sym (ap (is_dot x) e ∙ same_itself x) ∙ apart)) (s 0 x (omega arith) (omega arith)) in
    (λ i. below_first dot_cmp dots_total x (y, tt) (units ys) (less_of _ less) rest i && rest i)

-- two lists that rise and have the same dots are one
pub same_rising : (xs ys : List Dot) → DotsRise xs → DotsRise ys → ((q : Dot) → list_any (is_dot q) xs ≡ list_any (is_dot q) ys) → xs ≡ ys
same_rising xs ys rise rises same =
    let s : set.FinSet dot_cmp = set.from_list xs in
    sym (in_order_list dots_total dots_exact s xs (truth _ rise) (set.contains-from_list dots_total xs))
    ∙ in_order_list dots_total dots_exact s ys (truth _ rises) (λ q. set.contains-from_list dots_total xs q ∙ same q)

-- ---- the dots of a member

-- a dot is visible, with this member
pub record IsOwn (r : DotView) (m : Member) (q : Dot) : Type 0 where
  pub visible : set.contains r.visible q ≡ true
  pub member : r.member q ≡ Some m

-- the test of a dot's member decides it
is_member : (o : Option Member) (member : Member) → option_map_or (eq_by_cmp member_cmp member) o false ≡ true → o ≡ Some member
is_member None member h = absurd (true≢false (sym h))
is_member (Some m) member h = ap Some (sym (exact_members member m (equal_of _ h)))

-- one of a list is an element of it
element : (dots : List Dot) (q : Dot) → list_any (is_dot q) dots ≡ true → Contains dots q
element dots q h = let p = in_any (is_dot q) dots h in subst (Contains dots) (sym (one_dot q p.0 p.2)) p.1

-- an element of a list is found in it
pub listed : (dots : List Dot) (q : Dot) → Contains dots q → list_any (is_dot q) dots ≡ true
listed dots q h = any_in (is_dot q) dots q h (same_itself q)

module _ (r : DotView) where
  -- a dot of a member is its own
  pub of_member : (member : Member) (q : Dot) → list_any (is_dot q) (dots_of r member) ≡ true → IsOwn r member q
  of_member member q h =
      let found = element (dots_of r member) q h in
      record {
        visible = own_visible r member q found;
        member = is_member (r.member q) member (passes (is_of r member) (in_order r.visible) q found);
      }

  -- a dot that is a member's own is one of its dots
  pub to_member : (member : Member) (q : Dot) → IsOwn r member q → list_any (is_dot q) (dots_of r member) ≡ true
  to_member member q own =
      listed (dots_of r member) q (filter_has (is_of r member) (in_order r.visible) q
      (element (in_order r.visible) q (in_order_has dots_total r.visible q ∙ own.visible))
      (ap (λ o. option_map_or (eq_by_cmp member_cmp member) o false) own.member ∙ ap is_eq (tied_itself members_total member)))

  -- the dots of a member are sorted
  pub member_rises : (member : Member) → DotsRise (dots_of r member)
  member_rises member = filter_rises (is_of r member) (in_order r.visible) (in_order_rises r.visible)

-- each of them is paired with the member
pub paired_with : (member : Member) (dots : List Dot) (p : Dot × Member) → Contains (paired member dots) p → p.1 ≡ member
paired_with member [] p h = absurd (nothing_in p h)
paired_with member (x ∷ xs) p h = elim (cases_in (x, member) (paired member xs) p h) [
  | inl e ↦ ap (λ (p : Dot × Member). p.1) (sym e)
  | inr h ↦ paired_with member xs p h
]

module _ (r : DotView) (interface : List ℕ) where
  -- the dots of an interface, of some
  abbrev left : List Dot → List Dot
  left dots = each (λ p. p.0) (filter_map (with_interface r interface) dots)

  below_left : (x : Dot) (dots : List Dot) → below_all dot_cmp x (units dots) ≡ true → below_all dot_cmp x (units (left dots)) ≡ true
  below_left x [] h = refl
  below_left x (d ∷ ds) h =
      let parts = and_parts (is_lt (dot_cmp x d)) (below_all dot_cmp x (units ds)) h in at (with_interface r interface d) refl parts.0 (below_left x ds parts.1)
    where
      at : (o : Option (Dot × Member)) → with_interface r interface d ≡ o → is_lt (dot_cmp x d) ≡ true → below_all dot_cmp x (units (left ds)) ≡ true
          → below_all dot_cmp x (units (each (λ p. p.0) (cons_option o (filter_map (with_interface r interface) ds)))) ≡ true
      at None e l rest = rest
      at (Some p) e l rest = (λ i. (ap (λ y. is_lt (dot_cmp x y)) (sym (with_own r interface d p e)) ∙ l) i && rest i)

  -- the dots of an interface among some are sorted
  left_rises : (dots : List Dot) → DotsRise dots → DotsRise (left dots)
  left_rises [] h = refl
  left_rises (d ∷ ds) h =
      let parts = and_parts (below_all dot_cmp d (units ds)) (map.is_sorted dot_cmp (units ds)) h in
      at (with_interface r interface d) refl (below_left d ds parts.0) (left_rises ds parts.1)
    where
      at : (o : Option (Dot × Member)) → with_interface r interface d ≡ o → below_all dot_cmp d (units (left ds)) ≡ true → DotsRise (left ds)
          → DotsRise (each (λ p. p.0) (cons_option o (filter_map (with_interface r interface) ds)))
      at None e l rest = rest
      at (Some p) e l rest = (λ i. (ap (λ y. below_all dot_cmp y (units (left ds))) (sym (with_own r interface d p e)) ∙ l) i && rest i)

-- ---- the dots of an interface, queue by queue

-- a dot that isn't one of some differs from them
differs : (x : Dot) (zs : List Dot) → list_any (is_dot x) zs ≡ false → AllByRecursion (λ y. is_dot x y ≡ false) zs
differs x [] h = tt
differs x (z ∷ zs) h = elim (cases_Bool (is_dot x z)) [
  | inl e ↦ absurd (true≢false (sym (ap (λ b. b || list_any (is_dot x) zs) e) ∙ h))
  | inr e ↦ (e, differs x zs (sym (ap (λ b. b || list_any (is_dot x) zs) e) ∙ h))
]

-- lists apart, of which none has a dot twice, have none twice together
once_append : (xs ys : List Dot) → AreOnce xs → AreOnce ys → ((q : Dot) → list_any (is_dot q) xs ≡ true → list_any (is_dot q) ys ≡ false) → AreOnce (xs ++ ys)
once_append [] ys once other apart = other
once_append (x ∷ xs) ys once other apart =
    IsDistinct-cons is_dot x (xs ++ ys) (both xs (IsDistinct-head is_dot x xs once))
    (once_append xs ys (IsDistinct-tail is_dot x xs once) other (λ q h. apart q (or_right (is_dot q x) (list_any (is_dot q) xs) h)))
  where
    both : (zs : List Dot) → AllByRecursion (λ y. is_dot x y ≡ false) zs → AllByRecursion (λ y. is_dot x y ≡ false) (zs ++ ys)
    both [] h = differs x ys (apart x (ap (λ b. b || list_any (is_dot x) xs) (same_itself x)))
    both (z ∷ zs) h = (h.0, both zs h.1)

-- what holds holds where a result is an error
pub of_error : {T E : Type 0} (result : Result T E) (P : Type 0) → P → OnErr result P
of_error (Ok x) P holds = tt
of_error (Err e) P holds = holds

-- of two lists that are none together the first is none
none_first : (xs ys : List Dot) → xs ++ ys ≡ [] → xs ≡ []
none_first [] ys e = refl
none_first (x ∷ xs) ys e = absurd (cc)

-- of two lists that are empty together the second is empty
none_second : (xs ys : List Dot) → xs ++ ys ≡ [] → ys ≡ []
none_second [] ys e = e
none_second (x ∷ xs) ys e = absurd (cc)

module _ (r : DotView) (interface : List ℕ) where
  -- the interface's member in a queue
  abbrev in_queue : ℕ → Member
  in_queue queue = record { queue = queue; interface = interface }

  -- a dot is the interface's own in a queue below a number
  record IsBelow (n : ℕ) (q : Dot) : Type 0 where
    queue : ℕ
    below : queue < n
    own : IsOwn r (in_queue queue) q

  -- one of them is
  below_own : (n : ℕ) (q : Dot) → list_any (is_dot q) (dots_below r interface n) ≡ true → IsBelow n q
  unfolding dots_below
  below_own zero q h = absurd (true≢false (sym h))
  below_own (suc n) q h =
      let parts = sym (list_any-append (is_dot q) (dots_below r interface n) (dots_of r (in_queue n))) ∙ h in
      elim (cases_Bool (list_any (is_dot q) (dots_below r interface n))) [
        | inl t ↦ let b = below_own n q t in record { queue = b.queue; below = let l = b.below in omega (arith, l); own = b.own }
        | inr f ↦ record { queue = n; below = omega arith; own = of_member r (in_queue n) q (ap (λ b. b || list_any (is_dot q) (dots_of r (in_queue n))) (sym f) ∙ parts) }
      ]

  -- a dot that is the interface's own in a lesser queue is one of them
  own_below : (n : ℕ) (q : Dot) (queue : ℕ) → queue < n → IsOwn r (in_queue queue) q → list_any (is_dot q) (dots_below r interface n) ≡ true
  unfolding dots_below
  own_below zero q queue l own = absurd (omega arith)
  own_below (suc n) q queue l own =
      list_any-append (is_dot q) (dots_below r interface n) (dots_of r (in_queue n))
      ∙ elim (cases_lt queue n) [
        | inl m ↦ ap (λ b. b || list_any (is_dot q) (dots_of r (in_queue n))) (own_below n q queue m own)
        | inr m ↦ let e : queue ≡ n = omega arith in
            later (list_any (is_dot q) (dots_below r interface n)) (to_member r (in_queue n) q (subst (λ k. IsOwn r (in_queue k) q) e own))
      ]
    where
      later : (a : Bool) {b : Bool} → b ≡ true → (a || b) ≡ true
      later true e = refl
      later false e = e

  -- if there is no dot, there is none in any of these queues
  pub none_of_them : (n queue : ℕ) → queue < n → dots_below r interface n ≡ [] → dots_of r (in_queue queue) ≡ []
  unfolding dots_below
  none_of_them zero queue l e = absurd (omega (arith, l))
  none_of_them (suc n) queue l e = elim (cases_lt queue n) [
    | inl m ↦ none_of_them n queue m (none_first (dots_below r interface n) (dots_of r (in_queue n)) e)
    | inr m ↦ let same : queue ≡ n = omega arith in subst (λ k. dots_of r (in_queue k) ≡ []) (sym same) (none_second (dots_below r interface n) (dots_of r (in_queue n)) e)
  ]

  -- none of them comes twice
  below_once : (n : ℕ) → AreOnce (dots_below r interface n)
  unfolding dots_below IsDistinct
  below_once zero = tt
  below_once (suc n) =
      once_append (dots_below r interface n) (dots_of r (in_queue n)) (below_once n) (rising_once (dots_of r (in_queue n)) (member_rises r (in_queue n))) (λ q h.
      apart (below_own n q h) (list_any (is_dot q) (dots_of r (in_queue n))) refl)
    where
      apart : {q : Dot} → IsBelow n q → (b : Bool) → list_any (is_dot q) (dots_of r (in_queue n)) ≡ b → list_any (is_dot q) (dots_of r (in_queue n)) ≡ false
      apart {q} b false e = e
      apart {q} b true e =
          let own = of_member r (in_queue n) q e in
          let one : Some (in_queue b.queue) ≡ Some (in_queue n) = sym b.own.member ∙ own.member in
          let same : in_queue b.queue ≡ in_queue n = cc in
          let queues = ap (λ (m : Member). m.queue) same in
          let l = b.below in
          absurd (omega (arith, queues, l))

  -- ---- the dots of an interface, in order

  -- the dots of the interface in every queue
  abbrev all_seen : List Dot
  all_seen = each (λ p. p.0) (dots_seen r None interface)

  -- a dot that is seen has its member, which has the interface
  record IsSeen (q : Dot) (p : Dot × Member) : Type 0 where
    member : r.member q ≡ Some p.1
    interface_is : p.1 ≡ in_queue p.1.queue

  with_member : (q : Dot) (p : Dot × Member) → with_interface r interface q ≡ Some p → IsSeen q p
  with_member q p h = at (r.member q) refl h
    where
      found : (m : Member) (b : Bool) → r.member q ≡ Some m → bytes_eq m.interface interface ≡ b → (if b then Some (q, m) else None) ≡ Some p → IsSeen q p
      found m true is e g =
          let one : (q, m) ≡ p = cc in
          let same : m ≡ p.1 = ap (λ (x : Dot × Member). x.1) one in
          let text : m.interface ≡ interface = (bytes_eq-Decides m.interface interface).0 e in
          record {
            member = is ∙ ap Some same;
            interface_is = sym same ∙ ap (λ x. let y : Member = record { queue = m.queue; interface = x } in y) text ∙ ap (λ (x : Member). in_queue x.queue) same;
          }
      found m false is e g = absurd (cc)

      at : (o : Option Member) → r.member q ≡ o → option_and_then (λ m. if bytes_eq m.interface interface then Some (q, m) else None) o ≡ Some p → IsSeen q p
      at None e g = absurd (cc)
      at (Some m) e g = found m (bytes_eq m.interface interface) e refl g

  -- one of all that are seen is the interface's own in some queue
  seen_own : (q : Dot) → list_any (is_dot q) all_seen ≡ true → (m : Member) × IsOwn r (in_queue m.queue) q
  seen_own q h =
      let f = with_interface r interface in
      let p = in_any (λ p. is_dot q p.0) (dots_seen r None interface) (sym (any_map (is_dot q) (λ p. p.0) (dots_seen r None interface)) ∙ h) in
      let x = in_some f (in_order r.visible) p.0 p.1 in
      let same : x.0 ≡ q = with_own r interface x.0 p.0 x.2 ∙ sym (one_dot q p.0.0 p.2) in
      let seen = with_member x.0 p.0 x.2 in (
        p.0.1,
        record {
          visible = ap (set.contains r.visible) (sym same) ∙ listed_in r.visible x.0 x.1;
          member = ap r.member (sym same) ∙ seen.member ∙ ap Some seen.interface_is;
        },
      )

  -- a dot that is the interface's own in a queue is one of all that are seen
  own_seen : (q : Dot) (queue : ℕ) → IsOwn r (in_queue queue) q → list_any (is_dot q) all_seen ≡ true
  own_seen q queue own =
      let f = with_interface r interface in
      let p : Dot × Member = (q, in_queue queue) in
      let is : f q ≡ Some p =
      ap (option_and_then (λ m. if bytes_eq m.interface interface then (let x : Dot × Member = (q, m) in Some x) else None)) own.member
      ∙ ap (λ b. if b then Some p else None) ((bytes_eq-Decides interface interface).1 refl) in
      any_map (is_dot q) (λ p. p.0) (dots_seen r None interface)
      ∙ any_in (λ (p : Dot × Member). is_dot q p.0) (dots_seen r None interface) p
      (some_in f (in_order r.visible) q p (element (in_order r.visible) q (in_order_has dots_total r.visible q ∙ own.visible)) is) (same_itself q)

  -- if no dot is seen, there is none in the queues below any number
  pub none_below : (n : ℕ) → dots_seen r None interface ≡ [] → dots_below r interface n ≡ []
  none_below n none = by (dots_below r interface n) refl
    where
      by : (dots : List Dot) → dots_below r interface n ≡ dots → dots_below r interface n ≡ []
      by [] e = e
      by (q ∷ qs) e =
          let b = below_own n q (listed (dots_below r interface n) q (subst (λ dots. Contains dots q) (sym e) (first_in q qs))) in
          absurd (true≢false (sym (own_seen q b.queue b.own) ∙ ap (λ ps. list_any (is_dot q) (each (λ p. p.0) ps)) none))

  -- where all queues are below a number, the dots queue by queue, sorted, are all that are seen
  pub by_queue : (n : ℕ) → ((q : Dot) (m : Member) → r.member q ≡ Some m → m.queue < n) → (sorted : List Dot) → IsPermutation (dots_below r interface n) sorted → IsSorted dot_cmp sorted
      → sorted ≡ all_seen
  by_queue n below sorted moved ascends =
      same_rising sorted all_seen
      (sorted_rises sorted ascends (IsDistinct-IsPermutation is_dot (eq_by_cmp_equiv dots_total).symm (dots_below r interface n) sorted moved (below_once n)))
      (left_rises r interface (in_order r.visible) (in_order_rises r.visible))
      (λ q. sym (list_any-IsPermutation (is_dot q) (dots_below r interface n) sorted moved)
      ∙ same_tests (list_any (is_dot q) (dots_below r interface n)) (list_any (is_dot q) all_seen)
      (λ h. let b = below_own n q h in own_seen q b.queue b.own)
      (λ h. let o = seen_own q h in own_below n q o.0.queue (below q (in_queue o.0.queue) o.1.member) o.1))

-- ---- whichever dots are seen

-- each has its member
pub seen_member : (r : DotView) (queue : Option ℕ) (interface : List ℕ) (p : Dot × Member) → Contains (dots_seen r queue interface) p → r.member p.0 ≡ Some p.1
seen_member r None interface p h =
    let x = in_some (with_interface r interface) (in_order r.visible) p h in
    ap r.member (sym (with_own r interface x.0 p x.2)) ∙ (with_member r interface x.0 p x.2).member
seen_member r (Some queue) interface p h =
    let member : Member = record { queue = queue; interface = interface } in
    (of_member r member p.0 (listed (dots_of r member) p.0 (in_paired member (dots_of r member) p h))).member ∙ ap Some (sym (paired_with member (dots_of r member) p h))

-- the dots that are seen are sorted
pub seen_rise : (r : DotView) (queue : Option ℕ) (interface : List ℕ) → DotsRise (each (λ p. p.0) (dots_seen r queue interface))
seen_rise r None interface = left_rises r interface (in_order r.visible) (in_order_rises r.visible)
seen_rise r (Some queue) interface =
    let member : Member = record { queue = queue; interface = interface } in subst DotsRise (sym (dots_paired member (dots_of r member))) (member_rises r member)

module _ (s : Members) (queue : Option ℕ) (interface : List ℕ) where
  -- the dots that are seen in a set, each with its member
  abbrev pairs : List (Dot × Member)
  pairs = dots_seen (dot_view_of s) queue interface

  -- the dots that are seen in a set are live in it
  pub seen_all_live : All (λ dot. map.contains_key s.live dot ≡ true) (each (λ p. p.0) pairs)
  seen_all_live k d l =
      let x = get_or (each (λ p. p.0) pairs) k d in
      let here = listed (each (λ p. p.0) pairs) x (Contains-get_or (each (λ p. p.0) pairs) k d l) in
      let p = in_any (λ p. is_dot x p.0) pairs (sym (any_map (is_dot x) (λ p. p.0) pairs) ∙ here) in
      ap (map.contains_key s.live) (one_dot x p.0.0 p.2)
      ∙ map.contains_key-keys s.live p.0.0 ∙ sym (set.contains-from_list dots_total (map.keys s.live) p.0.0)
      ∙ seen_visible (dot_view_of s) queue interface p.0 p.1

  -- what is held of them once they are written is what an operation that asserts them gives
  pub held_seen : (fields : DotFields) (q : Dot) → written_to s (each (λ p. p.0) pairs) fields q ≡ held_by pairs fields q
  held_seen fields q = held_written s fields pairs (λ p h. seen_member (dot_view_of s) queue interface p h) q

-- where the live dots are of queues below a number, so is the member that is seen of each
pub in_queues : (s : Members) (n : ℕ) → ((dot : Dot) (h : Holding) → map.get s.live dot ≡ Some h → h.0.queue < n)
    → (q : Dot) (m : Member) → (dot_view_of s).member q ≡ Some m → m.queue < n
in_queues s n below q m e = at (map.get s.live q) refl e
  where
    at : (o : Option Holding) → map.get s.live q ≡ o → option_map (λ h. h.0) o ≡ Some m → m.queue < n
    at None f g = absurd (cc)
    at (Some h) f g = let same : h.0 ≡ m = cc in subst (λ (x : Member). x.queue < n) same (below q h f)
