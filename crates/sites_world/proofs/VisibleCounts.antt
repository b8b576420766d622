-- There are at most as many visible dots as members that have one times sites.
use Rattle.std.proofs.Common.{◌≡◌, ◌≤◌, ◌<◌, ◌+◌, ◌*◌, ◌-◌, ◌⊎◌, inl, inr, nat_eq, ℕ, zero, suc, Bool, true, false, cond, ◌&&◌, ◌||◌, List, [], ◌∷◌, ◌++◌, length, length-append, Contains, Option, Some, None, is_some, refl, sym, ap, subst, ◌∙◌, true≢false, arith}
use Rattle.std.proofs.Math.Nat.{suc-mul, zero-mul}
use Rattle.std.specs.FinSet as set
use Rattle.std.specs.List.{filter_map, list_any}
use Rattle.std.specs.Ordering.{eq_by_cmp, is_eq}
use Rattle.std.proofs.lemmas.Bool.{cases_Bool}
use Rattle.std.proofs.lemmas.Bool.Decides.{nat_tests}
use Rattle.std.proofs.lemmas.Cmp.{tied_itself}
use Rattle.std.proofs.lemmas.List.Elements.{Contains-append_left, Contains-append_right}
use Rattle.dots.specs.declared.member.Member.{Member}
use Rattle.dots.specs.Values.{Dot}
use Rattle.dots.specs.Orders.{dot_cmp, member_cmp}
use Rattle.operations.specs.Knowledge.{Knowledge, member_of, visible_dots}
use Rattle.general_lemmas.proofs.Counting.{item_of, kept_parts, of_item, tied_in}
use Rattle.dots.proofs.DotOrder.{dots_exact, dots_total}
use Rattle.operations.proofs.JoinedKnowledge.{member_some}
use Rattle.dots.proofs.MemberOrder.{exact_members, members_total}
use Rattle.general_lemmas.proofs.Membership.{any_in, cases_in, first_in, in_any, later_in, nothing_in, some_in}
use Rattle.operations.proofs.VisibleLaws.{visible_parts}
use Rattle.general_lemmas.proofs.TruthTables.{equal_of}
use Rattle.sites_world.specs.Promises.{IsVisibleDotOf, members_seen, visible_members}

-- sets of dots
abbrev Dots : Type 0
Dots = set.FinSet dot_cmp

-- ---- dots that are each at a place of its own

module _ {P : Type 0} (at : Dot → P → Bool) where
  -- each dot of a set is at one of these places
  abbrev AreAt : List P → Dots → Type 0
  AreAt ps s = (dot : Dot) → set.contains s dot ≡ true → list_any (at dot) ps ≡ true

  -- no two are at one
  abbrev AreApart : Dots → Type 0
  AreApart s = (dot other : Dot) (p : P) → set.contains s dot ≡ true → set.contains s other ≡ true → at dot p ≡ true → at other p ≡ true → dot ≡ other

  -- a set with no dot has length 0
  no_dots : (s : Dots) → ((dot : Dot) → set.contains s dot ≡ true → ⊥) → set.len s ≡ 0
  no_dots s none =
      ap set.len (set.same_set dots_total dots_exact s set.empty (λ q. never (set.contains s q) (none q) ∙ sym (set.contains-empty dot_cmp q))) ∙ set.len-empty dot_cmp
    where
      never : (b : Bool) → (b ≡ true → ⊥) → b ≡ false
      never true isnt = absurd (isnt refl)
      never false isnt = refl

  -- at a later place, where not at the first
  at_later : (dot : Dot) (p : P) (ps : List P) → (at dot p ≡ true → ⊥) → list_any (at dot) (p ∷ ps) ≡ true → list_any (at dot) ps ≡ true
  at_later dot p ps not_first h = by (at dot p) not_first h
    where
      by : (b : Bool) → (b ≡ true → ⊥) → (b || list_any (at dot) ps) ≡ true → list_any (at dot) ps ≡ true
      by true isnt h = absurd (isnt refl)
      by false isnt h = h

  -- there are at most as many dots as places
  few_at : (ps : List P) (s : Dots) → AreApart s → AreAt ps s → set.len s ≤ length ps
  few_at [] s apart are = let none = no_dots s (λ dot h. true≢false (sym (are dot h))) in omega (arith, none)
  few_at (p ∷ ps) s apart are = by (list_any (λ dot. at dot p) (set.items s)) refl (λ t. few_at ps t)
    where
      by : (b : Bool) → list_any (λ dot. at dot p) (set.items s) ≡ b → ((t : Dots) → AreApart t → AreAt ps t → set.len t ≤ length ps) → set.len s ≤ length (p ∷ ps)
      by true e few =
          let found = in_any (λ dot. at dot p) (set.items s) e in
          let here = of_item dots_total dots_exact s found.0 found.1 in
          let rest = few (set.remove s found.0)
          (λ dot other q one two. apart dot other q (kept_parts dots_total dots_exact s found.0 dot one).0 (kept_parts dots_total dots_exact s found.0 other two).0)
          (λ dot h. let kept = kept_parts dots_total dots_exact s found.0 dot h in at_later dot p ps (λ also. kept.1 (apart dot found.0 p kept.0 here also found.2)) (are dot kept.0)) in
          let less = set.len-remove dots_total s found.0 ∙ ap (λ b. cond b (set.len s - 1) (set.len s)) here in
          omega (arith, rest, less)
      by false e few =
          let rest = few s apart (λ dot h. at_later dot p ps (λ also.
          true≢false (sym (any_in (λ d. at d p) (set.items s) dot (item_of dots_total dots_exact s dot h) also) ∙ e)) (are dot h)) in
          omega (arith, rest)

-- ---- places: a member and a site

-- whether `m` is the member that is given, if one is
abbrev is_member : Option Member → Member → Bool
is_member None m = false
is_member (Some n) m = eq_by_cmp member_cmp n m

-- whether a dot is of the member and the site
abbrev is_at : Knowledge → Dot → Member × ℕ → Bool
is_at k dot p = is_member (member_of k dot) p.0 && nat_eq dot.site p.1

-- a member paired with each of a number of sites
abbrev with_sites : Member → ℕ → List (Member × ℕ)
with_sites m zero = []
with_sites m (suc n) = (m, n) ∷ with_sites m n

-- members, each paired with each of a number of sites
abbrev all_with_sites : List Member → ℕ → List (Member × ℕ)
all_with_sites [] n = []
all_with_sites (m ∷ ms) n = with_sites m n ++ all_with_sites ms n

length_with_sites : (m : Member) (n : ℕ) → length (with_sites m n) ≡ n
length_with_sites m zero = refl
length_with_sites m (suc n) = ap suc (length_with_sites m n)

length_all_with_sites : (ms : List Member) (n : ℕ) → length (all_with_sites ms n) ≡ length ms * n
length_all_with_sites [] n = sym (zero-mul n)
length_all_with_sites (m ∷ ms) n =
    length-append (with_sites m n) (all_with_sites ms n) ∙ (λ i. length_with_sites m n i + length_all_with_sites ms n i) ∙ omega (arith, suc-mul (length ms) n)

in_with_sites : (m : Member) (n site : ℕ) → site < n → Contains (with_sites m n) (m, site)
in_with_sites m zero site less = absurd (omega (arith, less))
in_with_sites m (suc n) site less = elim cases [
  | inl e ↦ subst (λ x. Contains (with_sites m (suc n)) (m, x)) (sym e) (first_in (m, n) (with_sites m n))
  | inr below ↦ later_in (m, n) (with_sites m n) (m, site) (in_with_sites m n site below)
]
  where
    cases : (site ≡ n) ⊎ (site < n)
    cases = grind (arith, less)

in_all_with_sites : (ms : List Member) (n : ℕ) (m : Member) (site : ℕ) → Contains ms m → site < n → Contains (all_with_sites ms n) (m, site)
in_all_with_sites [] n m site here less = absurd (nothing_in m here)
in_all_with_sites (x ∷ ms) n m site here less = elim (cases_in x ms m here) [
  | inl e ↦ Contains-append_left (with_sites x n) (all_with_sites ms n) (m, site) (subst (λ y. Contains (with_sites y n) (m, site)) (sym e) (in_with_sites m n site less))
  | inr later ↦ Contains-append_right (with_sites x n) (all_with_sites ms n) (m, site) (in_all_with_sites ms n m site later less)
]

-- ---- the members of a set, each once

-- a list has all members of another, and as many as these make a set of
record HasEachOnce (ms : List Member) : Type 0 where
  list : List Member
  many : length list ≡ set.len (set.from_list {R = member_cmp} ms)
  all : (m : Member) → Contains ms m → Contains list m

-- a list with one more member has each once
one_more : (x : Member) (ms : List Member) → HasEachOnce ms → HasEachOnce (x ∷ ms)
one_more x ms rest = elim (cases_Bool (set.contains (set.from_list {R = member_cmp} ms) x)) [
  | inl there ↦ record {
    list = rest.list;
    many = rest.many ∙ sym (grown ∙ ap by there);
    all = λ m here. elim (cases_in x ms m here) [
      | inl e ↦ rest.all m (subst (Contains ms) e (tied_in members_total exact_members ms x (sym (set.contains-from_list members_total ms x) ∙ there)))
      | inr later ↦ rest.all m later
    ];
  }
  | inr unseen ↦ record {
    list = x ∷ rest.list;
    many = ap (λ n. suc n) rest.many ∙ sym (grown ∙ ap by unseen ∙ omega arith);
    all = λ m here. elim (cases_in x ms m here) [
      | inl e ↦ subst (Contains (x ∷ rest.list)) e (first_in x rest.list)
      | inr later ↦ later_in x rest.list m (rest.all m later)
    ];
  }
]
  where
    by : Bool → ℕ
    by b = cond b (set.len (set.from_list {R = member_cmp} ms)) (set.len (set.from_list {R = member_cmp} ms) + 1)

    grown : set.len (set.from_list {R = member_cmp} (x ∷ ms)) ≡ by (set.contains (set.from_list {R = member_cmp} ms) x)
    grown = set.len-insert members_total (set.from_list ms) x

-- each list has
each_once : (ms : List Member) → HasEachOnce ms
each_once [] = record { list = []; many = sym (set.len-empty member_cmp); all = λ m here. here }
each_once (x ∷ ms) = one_more x ms (each_once ms)

-- ---- visible dots

module _ (k : Knowledge) (sites : ℕ)
    (one : (m : Member) (dot other : Dot) → IsVisibleDotOf k m dot → IsVisibleDotOf k m other → dot.site ≡ other.site → dot ≡ other)
    (within : (dot : Dot) → set.contains (visible_dots k) dot ≡ true → dot.site < sites) where
  -- a visible dot has a member
  member-of : (dot : Dot) → set.contains (visible_dots k) dot ≡ true → (m : Member) × (member_of k dot ≡ Some m)
  member-of dot visible = by (member_of k dot) refl (member_some k dot ∙ (visible_parts k dot visible).0)
    where
      by : (found : Option Member) → member_of k dot ≡ found → is_some found ≡ true → (m : Member) × (member_of k dot ≡ Some m)
      by None e some = absurd (true≢false (sym some))
      by (Some m) e some = (m, e)

  -- what is at a place is of its member and its site
  at_parts : (dot : Dot) (m : Member) (site : ℕ) → is_at k dot (m, site) ≡ true → (member_of k dot ≡ Some m) × (dot.site ≡ site)
  at_parts dot m site h = by (member_of k dot) (nat_eq dot.site site) refl refl h
    where
      numbers : (a b : ℕ) → nat_eq a b ≡ true → a ≡ b
      numbers a b h = grind (arith, nat_tests, h)

      by : (found : Option Member) (b : Bool) → member_of k dot ≡ found → nat_eq dot.site site ≡ b → (is_member found m && b) ≡ true → (member_of k dot ≡ Some m) × (dot.site ≡ site)
      by None b e s h = absurd (true≢false (sym h))
      by (Some n) b e s h = elim (cases_Bool (eq_by_cmp member_cmp n m)) [
        | inl same ↦ (e ∙ ap Some (exact_members n m (equal_of (member_cmp n m) same)), numbers dot.site site (s ∙ sym (ap (λ t. t && b) same) ∙ h))
        | inr other ↦ absurd (true≢false (sym h ∙ ap (λ t. t && b) other))
      ]

  at_place : (dot : Dot) (m : Member) → member_of k dot ≡ Some m → is_at k dot (m, dot.site) ≡ true
  at_place dot m is = (λ i. is_member (is i) m && itself dot.site i) ∙ ap (λ b. b && true) (ap is_eq (tied_itself members_total m))
    where
      itself : (a : ℕ) → nat_eq a a ≡ true
      itself a = grind (arith, nat_tests)

  pub few_visible : set.len (visible_dots k) ≤ set.len (visible_members k) * sites
  unfolding members_seen
  few_visible =
      let members = filter_map (member_of k) (set.items (visible_dots k)) in
      let once = each_once members in
      let places = all_with_sites once.list sites in
      let few = few_at (is_at k) places (visible_dots k)
      (λ dot other p here there at also.
      let a = at_parts dot p.0 p.1 at in
      let b = at_parts other p.0 p.1 also in
      one p.0 dot other (record { visible = here; member = a.0 }) (record { visible = there; member = b.0 }) (a.1 ∙ sym b.1))
      (λ dot here.
      let m = member-of dot here in
      let listed = some_in (member_of k) (set.items (visible_dots k)) dot m.0 (item_of dots_total dots_exact (visible_dots k) dot here) m.1 in
      any_in (is_at k dot) places (m.0, dot.site) (in_all_with_sites once.list sites m.0 dot.site (once.all m.0 listed) (within dot here)) (at_place dot m.0 m.1)) in
      subst (λ n. set.len (visible_dots k) ≤ n) (length_all_with_sites once.list sites ∙ ap (λ n. n * sites) once.many) few
