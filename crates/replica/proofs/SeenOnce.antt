-- The dots that a command goes over: none comes twice, and at a site each of them is live.
use Rattle.std.proofs.Common.{◌≡◌, ℕ, Bool, true, false, ◌&&◌, ◌||◌, cond, filter, List, [], ◌∷◌, map as each, Contains, Option, Some, None, inl, inr, if◌then◌else◌, refl, sym, ap, subst, ◌∙◌}
use Rattle.std.specs.Prelude.{bytes_eq}
use Rattle.std.specs.List.{AllByRecursion, IsDistinct, cons_option, filter_map}
use Rattle.std.specs.Option.{option_and_then}
use Rattle.std.specs.Ordering.{is_lt}
use Rattle.std.specs.FinMap as map
use Rattle.std.specs.FinMap.Entries.{below_all}
use Rattle.std.specs.FinSet as set
use Rattle.std.proofs.lemmas.Bool.{and_parts}
use Rattle.std.proofs.lemmas.Map.Keys.{IsDistinct-cons, IsDistinct-head, IsDistinct-tail}
use Rattle.dots.specs.declared.member.Member.{Member}
use Rattle.dots.specs.Values.{Dot}
use Rattle.dots.specs.Orders.{dot_cmp}
use Rattle.operations.specs.Knowledge.{is_dot}
use Rattle.operations.specs.Rows.{DotView, dots_of, is_of}
use Rattle.general_lemmas.specs.SetItems.{in_order}
use Rattle.operations.proofs.AlikeViews.{listed_in, own_visible}
use Rattle.dots.proofs.DotOrder.{dots_exact, dots_total}
use Rattle.general_lemmas.proofs.ItemOrder.{in_order_rises, units}
use Rattle.general_lemmas.proofs.Membership.{cases_in, first_in, in_some, later_in, nothing_in}
use Rattle.live_cells.proofs.DotTests.{apart_after}
use Rattle.delta.specs.DeltaStates.{DeltaState}
use Rattle.replica.specs.Site.{SiteState, view_of}
use Rattle.replica.specs.SiteViews.{dots_seen, older_dots, with_interface}
use Rattle.replica.proofs.Fullness.{contains_older, visible_live}

-- dots of which none comes twice
abbrev pub AreOnce : List Dot → Type 0
AreOnce dots = IsDistinct is_dot dots

-- a dot differs from each of a list
abbrev Differs : Dot → List Dot → Type 0
Differs x dots = AllByRecursion (λ y. is_dot x y ≡ false) dots

-- none of the dots that rise comes twice
pub rising_once : (dots : List Dot) → map.is_sorted dot_cmp (units dots) ≡ true → AreOnce dots
unfolding IsDistinct
rising_once [] h = tt
rising_once (x ∷ xs) h =
    let p = and_parts (below_all dot_cmp x (units xs)) (map.is_sorted dot_cmp (units xs)) h in
    (below xs p.0, rising_once xs p.1)
  where
    below : (ys : List Dot) → below_all dot_cmp x (units ys) ≡ true → Differs x ys
    below [] h = tt
    below (y ∷ ys) h = let p = and_parts (is_lt (dot_cmp x y)) (below_all dot_cmp x (units ys)) h in (apart_after x y p.0, below ys p.1)

-- a dot that differs from each differs from each that a filter leaves
differs_filter : (p : Dot → Bool) (x : Dot) (dots : List Dot) → Differs x dots → Differs x (filter p dots)
differs_filter p x [] h = tt
differs_filter p x (d ∷ ds) h = at (p d) (differs_filter p x ds h.1)
  where
    at : (b : Bool) → Differs x (filter p ds) → Differs x (cond b (d ∷ filter p ds) (filter p ds))
    at true rest = (h.0, rest)
    at false rest = rest

-- no dot that a filter leaves occurs twice
filter_once : (p : Dot → Bool) (dots : List Dot) → AreOnce dots → AreOnce (filter p dots)
filter_once p [] h = h
filter_once p (d ∷ ds) h = at (p d) (filter_once p ds (IsDistinct-tail is_dot d ds h))
  where
    at : (b : Bool) → AreOnce (filter p ds) → AreOnce (cond b (d ∷ filter p ds) (filter p ds))
    at true rest = IsDistinct-cons is_dot d (filter p ds) (differs_filter p d ds (IsDistinct-head is_dot d ds h)) rest
    at false rest = rest

module _ (f : Dot → Option (Dot × Member)) (own : (d : Dot) (p : Dot × Member) → f d ≡ Some p → d ≡ p.0) where
  -- the dots that are left, each with a member
  abbrev left : List Dot → List Dot
  left dots = each (λ p. p.0) (filter_map f dots)

  -- a dot that differs from each differs from each that is left
  differs_left : (x : Dot) (dots : List Dot) → Differs x dots → Differs x (left dots)
  differs_left x [] h = tt
  differs_left x (d ∷ ds) h = at (f d) refl (differs_left x ds h.1)
    where
      at : (o : Option (Dot × Member)) → f d ≡ o → Differs x (left ds) → Differs x (each (λ p. p.0) (cons_option o (filter_map f ds)))
      at None e rest = rest
      at (Some p) e rest = (ap (is_dot x) (sym (own d p e)) ∙ h.0, rest)

  -- no dot that is left occurs twice
  left_once : (dots : List Dot) → AreOnce dots → AreOnce (left dots)
  left_once [] h = h
  left_once (d ∷ ds) h = at (f d) refl (left_once ds (IsDistinct-tail is_dot d ds h))
    where
      at : (o : Option (Dot × Member)) → f d ≡ o → AreOnce (left ds) → AreOnce (each (λ p. p.0) (cons_option o (filter_map f ds)))
      at None e rest = rest
      at (Some p) e rest = IsDistinct-cons is_dot p.0 (left ds)
          (subst (λ x. Differs x (left ds)) (own d p e) (differs_left d ds (IsDistinct-head is_dot d ds h))) rest

-- what is given of a dot is its own
pub with_own : (r : DotView) (interface : List ℕ) (dot : Dot) (d : Dot × Member) → with_interface r interface dot ≡ Some d → dot ≡ d.0
with_own r interface dot d h = by (r.member dot) h
  where
    no : None ≡ Some d → dot ≡ d.0
    no e = (cc)

    one : (member : Member) → Some (dot, member) ≡ Some d → (dot, member) ≡ d
    one member e = cc

    found : (member : Member) (b : Bool) → (if b then Some (dot, member) else None) ≡ Some d → dot ≡ d.0
    found member true e = ap (λ (p : Dot × Member). p.0) (one member e)
    found member false e = no e

    by : (o : Option Member) → option_and_then (λ member. if bytes_eq member.interface interface then Some (dot, member) else None) o ≡ Some d → dot ≡ d.0
    by None e = no e
    by (Some member) e = found member (bytes_eq member.interface interface) e

-- each dot with one member
abbrev pub paired : Member → List Dot → List (Dot × Member)
paired member dots = each (λ dot. let p : Dot × Member = (dot, member) in p) dots

-- the dots of these
pub dots_paired : (member : Member) (dots : List Dot) → each (λ p. p.0) (paired member dots) ≡ dots
dots_paired member [] = refl
dots_paired member (d ∷ ds) = ap (λ rest. d ∷ rest) (dots_paired member ds)

-- a dot of these is one of them
pub in_paired : (member : Member) (dots : List Dot) (d : Dot × Member) → Contains (paired member dots) d → Contains dots d.0
in_paired member [] d h = absurd (nothing_in d h)
in_paired member (x ∷ xs) d h = elim (cases_in (x, member) (paired member xs) d h) [
  | inl e ↦ subst (Contains (x ∷ xs)) (ap (λ (p : Dot × Member). p.0) e) (first_in x xs)
  | inr r ↦ later_in x xs d.0 (in_paired member xs d r)
]

-- none of the dots that are seen comes twice
pub seen_once : (r : DotView) (queue : Option ℕ) (interface : List ℕ) → AreOnce (each (λ p. p.0) (dots_seen r queue interface))
seen_once r None interface =
    left_once (with_interface r interface) (with_own r interface) (in_order r.visible) (rising_once (in_order r.visible) (in_order_rises r.visible))
seen_once r (Some queue) interface =
    let member : Member = record { queue = queue; interface = interface } in
    subst AreOnce (sym (dots_paired member (dots_of r member)))
    (filter_once (is_of r member) (in_order r.visible) (rising_once (in_order r.visible) (in_order_rises r.visible)))

-- each of them is visible
pub seen_visible : (r : DotView) (queue : Option ℕ) (interface : List ℕ) (d : Dot × Member) → Contains (dots_seen r queue interface) d
    → set.contains r.visible d.0 ≡ true
seen_visible r None interface d h =
    let found = in_some (with_interface r interface) (in_order r.visible) d h in
    listed_in r.visible d.0 (subst (Contains (in_order r.visible)) (with_own r interface found.0 d found.2) found.1)
seen_visible r (Some queue) interface d h =
    let member : Member = record { queue = queue; interface = interface } in own_visible r member d.0 (in_paired member (dots_of r member) d h)

module _ (s : SiteState) (d : DeltaState) where
  -- at a site each of them is live
  pub seen_live : (queue : Option ℕ) (interface : List ℕ) (p : Dot × Member) → Contains (dots_seen (view_of s d).dots queue interface) p
      → map.contains_key d.members.live p.0 ≡ true
  seen_live queue interface p h = sym (visible_live s d p.0) ∙ seen_visible (view_of s d).dots queue interface p h

  -- the older dots are known
  pub older_known : (given : List Dot) → set.union d.members.known (older_dots (view_of s d) given) ≡ d.members.known
  older_known given = set.same_set dots_total dots_exact _ _ (λ q.
      set.contains-union dots_total d.members.known (older_dots (view_of s d) given) q
      ∙ ap (λ b. set.contains d.members.known q || b) (contains_older s d given q) ∙ kept (set.contains d.members.known q) _)
    where
      kept : (k b : Bool) → (k || (k && b)) ≡ k
      kept true b = refl
      kept false b = refl
