-- What is seen below given dots, gathered in the order of the dots.
use Rattle.std.proofs.Common.{◌≡◌, ℕ, suc, zero, ◌+◌, ◌-◌, ◌≤◌, ◌<◌, Bool, true, false, not, cond, ◌&&◌, ◌||◌, nat_eq, List, [], ◌∷◌, refl, sym, ap, ◌∙◌, subst, inl, inr, arith}
use Rattle.std.specs.Prelude.{nat_lt, nat_le}
use Rattle.std.specs.List.{All, list_any}
use Rattle.std.specs.FinSet as sets
use Rattle.std.specs.Ordering.{eq_by_cmp}
use Rattle.std.proofs.lemmas.Bool.{and_parts, cases_Bool, cases_eq, cases_lt, false_from_ne_true, or_from, or_right}
use Rattle.std.proofs.lemmas.Bool.Decides.{nat_tests}
use Rattle.std.proofs.lemmas.List.Elements.{All-head, All-tail, All-weaker}
use Rattle.std.proofs.lemmas.List.Folds.{list_any_none}
use Rattle.std.proofs.Math.Bool.{and-false, and-true, or-false, or_comm}
use Rattle.dots.specs.Values.{Dot}
use Rattle.dots.specs.Orders.{dot_cmp}
use Rattle.dots.specs.DotSets.{IsRunsOf, Run, dots_between, in_run, next_dot, run_count, is_older}
use Rattle.dots.proofs.DotOrder.{dots_total, dots_exact, same_dot}
use Rattle.dots.proofs.OneMoreDot.{dot_before, run_count_insert}
use Rattle.dots.proofs.Runs.{contains_set_of}
use Rattle.general_lemmas.proofs.TruthTables.{or_swap}
use Rattle.causal_context.specs.Contexts.{IsRunWithinLimits}
use Rattle.live_cells.proofs.DotTests.{one_dot}
use Rattle.member_orset.specs.Reads.{seen_dots}
use Rattle.member_orset.specs.Gathering.{AreToName, IsGreatest, is_given, is_to_name, part_before, runs_after}

abbrev Dots : Type 0
Dots = sets.FinSet dot_cmp

abbrev at : ℕ → ℕ → Dot
at site count = record { site = site; count = count }

abbrev run : ℕ → ℕ → ℕ → Run
run site first last = record { site = site; first = first; last = last }

contains_between : (dots : Dots) (site first last : ℕ) (q : Dot) → sets.contains (sets.union dots (dots_between site first last)) q ≡ (sets.contains dots q || in_run q (run site first last))
contains_between dots site first last q =
    sets.contains-union dots_total dots (dots_between site first last) q
    ∙ ap (λ b. sets.contains dots q || b) (contains_set_of (run site first last ∷ []) q ∙ or-false (in_run q (run site first last)))

one_count : (s t c f : ℕ) → (nat_eq s t && (nat_le f c && nat_le c f)) ≡ (nat_eq s t && nat_eq f c)
one_count s t c f = grind (arith, nat_tests)

one_longer : (s t c f l m : ℕ) → f ≤ l → m ≡ l + 1 → (nat_eq s t && (nat_le f c && nat_le c m)) ≡ ((nat_eq s t && nat_eq m c) || (nat_eq s t && (nat_le f c && nat_le c l)))
one_longer s t c f l m h e = grind (arith, nat_tests)

first_only : (dots : Dots) (site first : ℕ) → sets.union dots (dots_between site first first) ≡ sets.insert dots (at site first)
first_only dots site first = sets.same_set dots_total dots_exact _ _ (λ q.
    contains_between dots site first first q
    ∙ ap (λ b. sets.contains dots q || b) (one_count site q.site q.count first ∙ sym (same_dot q (at site first)))
    ∙ or_comm (sets.contains dots q) (eq_by_cmp dot_cmp q (at site first)) ∙ sym (sets.contains-insert dots_total dots (at site first) q))

longer : (dots : Dots) (site first last more : ℕ) → first ≤ last → more ≡ last + 1 → sets.union dots (dots_between site first more) ≡ sets.insert (sets.union dots (dots_between site first last)) (at site more)
longer dots site first last more h e = sets.same_set dots_total dots_exact _ _ (λ q.
    contains_between dots site first more q
    ∙ ap (λ b. sets.contains dots q || b) (one_longer site q.site q.count first last more h e ∙ ap (λ b. b || in_run q (run site first last)) (sym (same_dot q (at site more))))
    ∙ or_swap (sets.contains dots q) (eq_by_cmp dot_cmp q (at site more)) (in_run q (run site first last))
    ∙ ap (λ b. eq_by_cmp dot_cmp q (at site more) || b) (sym (contains_between dots site first last q))
    ∙ sym (sets.contains-insert dots_total (sets.union dots (dots_between site first last)) (at site more) q))

counted_from : (a b : ℕ) (p q : Bool) → p ≡ false → a + cond p 1 0 + cond q 1 0 ≡ b + 1 → a ≡ runs_after b (not q)
counted_from a b p true f e = let g = ap {B = ℕ} (λ x. cond x 1 0) f in omega (arith, e, g)
counted_from a b p false f e = let g = ap {B = ℕ} (λ x. cond x 1 0) f in omega (arith, e, g)

out_of : (s f l c : ℕ) → l < c → (nat_eq s s && (nat_le f c && nat_le c l)) ≡ false
out_of s f l c h = grind (arith, nat_tests)

last_in : (s f l c : ℕ) → f ≤ l → c ≡ l → (nat_eq s s && (nat_le f c && nat_le c l)) ≡ true
last_in s f l c h e = grind (arith, nat_tests)

-- the runs with one more run behind all others of its site
module _ (dots : Dots) (site first : ℕ) (least : 1 ≤ first) (none : (n : ℕ) → first ≤ n → sets.contains dots (at site n) ≡ false) where
  grown : (k : ℕ) (last : ℕ) → last ≡ first + k → run_count (sets.union dots (dots_between site first last)) ≡ runs_after (run_count dots) (not (sets.contains dots (at site (first - 1))))
  grown zero last e =
      let same : last ≡ first = omega arith in
      ap (λ l. run_count (sets.union dots (dots_between site first l))) same ∙ ap run_count (first_only dots site first)
      ∙ counted_from _ _ _ _ (none (suc first) (omega arith)) (run_count_insert dots (at site first) least (none first (omega arith)))
  grown (suc k) last e =
      let before = first + k in
      let order : first ≤ before = omega arith in
      let next : last ≡ before + 1 = omega arith in
      let old = sets.union dots (dots_between site first before) in
      let new : sets.contains old (at site last) ≡ false = contains_between dots site first before (at site last) ∙ or_from _ _ (none last (omega arith)) (out_of site first before last (omega arith)) in
      let past : sets.contains old (next_dot (at site last)) ≡ false = contains_between dots site first before (at site (suc last)) ∙ or_from _ _ (none (suc last) (omega arith)) (out_of site first before (suc last) (omega arith)) in
      let there : sets.contains old (dot_before (at site last)) ≡ true = contains_between dots site first before (at site (last - 1)) ∙ or_right (sets.contains dots (at site (last - 1))) _ (last_in site first before (last - 1) order (omega arith)) in
      ap run_count (longer dots site first before last order next)
      ∙ counted_from _ _ _ _ past (run_count_insert old (at site last) (omega arith) new)
      ∙ ap (λ b. runs_after (run_count old) (not b)) there
      ∙ grown k before refl

  pub runs_grown : (last : ℕ) → first ≤ last → run_count (sets.union dots (dots_between site first last)) ≡ runs_after (run_count dots) (not (sets.contains dots (at site (first - 1))))
  runs_grown last h = grown (last - first) last (omega arith)

-- what is in a part of a set
abbrev pub lies_before : ℕ → ℕ → Dot → Bool
lies_before site count d = nat_lt d.site site || (nat_eq d.site site && nat_lt d.count count)

pub contains_part : (dots : Dots) (site count : ℕ) (q : Dot) → sets.contains (part_before dots site count) q ≡ (sets.contains dots q && lies_before site count q)
unfolding part_before
contains_part dots site count q = sets.contains-retain dots (lies_before site count) q (λ x h. ap (lies_before site count) (sym (dots_exact q x h)))

not_past : (s n c : ℕ) → c ≤ n → (nat_lt s s || (nat_eq s s && nat_lt n c)) ≡ false
not_past s n c h = grind (arith, nat_tests)

just_before : (s n c : ℕ) → n < c → (nat_lt s s || (nat_eq s s && nat_lt n c)) ≡ true
just_before s n c h = grind (arith, nat_tests)

pub none_past : (dots : Dots) (site count n : ℕ) → count ≤ n → sets.contains (part_before dots site count) (at site n) ≡ false
none_past dots site count n h = contains_part dots site count (at site n) ∙ ap (λ b. sets.contains dots (at site n) && b) (not_past site n count h) ∙ and-false (sets.contains dots (at site n))

pub before_it : (dots : Dots) (site count : ℕ) → 1 ≤ count → sets.contains (part_before dots site count) (at site (count - 1)) ≡ sets.contains dots (at site (count - 1))
before_it dots site count h = contains_part dots site count (at site (count - 1)) ∙ ap (λ b. sets.contains dots (at site (count - 1)) && b) (just_before site (count - 1) count (omega arith)) ∙ and-true (sets.contains dots (at site (count - 1)))

further : (t c s f l : ℕ) → f ≤ l → (nat_lt t s || (nat_eq t s && nat_lt c (l + 1))) ≡ ((nat_lt t s || (nat_eq t s && nat_lt c f)) || (nat_eq s t && (nat_le f c && nat_le c l)))
further t c s f l h = grind (arith, nat_tests)

in_it : (t c s f l : ℕ) → (nat_eq s t && (nat_le f c && nat_le c l)) ≡ true → (s ≡ t) × (f ≤ c) × (c ≤ l)
in_it t c s f l h = (grind (arith, nat_tests, h), grind (arith, nat_tests, h), grind (arith, nat_tests, h))

-- the part up to past a run of which all dots are in the set, or none
pub part_inside : (dots : Dots) (site first last : ℕ) → first ≤ last → ((n : ℕ) → first ≤ n → n ≤ last → sets.contains dots (at site n) ≡ true)
    → part_before dots site (last + 1) ≡ sets.union (part_before dots site first) (dots_between site first last)
part_inside dots site first last h all = sets.same_set dots_total dots_exact _ _ (λ q.
    contains_part dots site (last + 1) q ∙ ap (λ b. sets.contains dots q && b) (further q.site q.count site first last h)
    ∙ spread (sets.contains dots q) (lies_before site first q) (in_run q (run site first last)) (λ t. let i = in_it q.site q.count site first last t in ap (λ s. sets.contains dots (at s q.count)) (sym i.0) ∙ all q.count i.1 i.2)
    ∙ ap (λ b. b || in_run q (run site first last)) (sym (contains_part dots site first q)) ∙ sym (contains_between (part_before dots site first) site first last q))
  where
    spread : (s b t : Bool) → (t ≡ true → s ≡ true) → (s && (b || t)) ≡ ((s && b) || t)
    spread true b t f = refl
    spread false b true f = f refl
    spread false b false f = refl

pub part_outside : (dots : Dots) (site first last : ℕ) → first ≤ last → ((n : ℕ) → first ≤ n → n ≤ last → sets.contains dots (at site n) ≡ false)
    → part_before dots site (last + 1) ≡ part_before dots site first
part_outside dots site first last h none = sets.same_set dots_total dots_exact _ _ (λ q.
    contains_part dots site (last + 1) q ∙ ap (λ b. sets.contains dots q && b) (further q.site q.count site first last h)
    ∙ spread (sets.contains dots q) (lies_before site first q) (in_run q (run site first last)) (λ t. let i = in_it q.site q.count site first last t in ap (λ s. sets.contains dots (at s q.count)) (sym i.0) ∙ none q.count i.1 i.2)
    ∙ sym (contains_part dots site first q))
  where
    spread : (s b t : Bool) → (t ≡ true → s ≡ false) → (s && (b || t)) ≡ (s && b)
    spread true true t f = refl
    spread true false true f = f refl
    spread true false false f = refl
    spread false b t f = refl

-- from one site to the next
site_over : (t c s l : ℕ) → (t ≡ s → c ≤ l) → (nat_lt t s || (nat_eq t s && nat_lt c (l + 1))) ≡ (nat_lt t (s + 1) || (nat_eq t (s + 1) && nat_lt c 0))
site_over t c s l h = elim (cases_eq t s) [
  | inl e ↦ let k = h e in grind (arith, nat_tests)
  | inr n ↦ grind (arith, nat_tests)
]

pub under : (s x y : Bool) → (s ≡ true → x ≡ y) → (s && x) ≡ (s && y)
under true x y h = h refl
under false x y h = refl

pub next_site : (dots : Dots) (site last : ℕ) → ((n : ℕ) → last < n → sets.contains dots (at site n) ≡ false) → part_before dots site (last + 1) ≡ part_before dots (site + 1) 0
next_site dots site last none = sets.same_set dots_total dots_exact _ _ (λ q.
    contains_part dots site (last + 1) q
    ∙ under (sets.contains dots q) _ _ (λ t. site_over q.site q.count site last (λ e. elim (cases_lt last q.count) [
      | inl l ↦ absurd (let f = ap (λ s. sets.contains dots (at s q.count)) e ∙ none q.count l in cc)
      | inr m ↦ m
    ]))
    ∙ sym (contains_part dots (site + 1) 0 q))

first_at : (t c s : ℕ) → (t ≡ s → 1 ≤ c) → (nat_lt t s || (nat_eq t s && nat_lt c 1)) ≡ (nat_lt t s || (nat_eq t s && nat_lt c 0))
first_at t c s h = elim (cases_eq t s) [
  | inl e ↦ let k = h e in grind (arith, nat_tests)
  | inr n ↦ grind (arith, nat_tests)
]

pub from_one : (dots : Dots) (site : ℕ) → sets.contains dots (at site 0) ≡ false → part_before dots site 1 ≡ part_before dots site 0
from_one dots site none = sets.same_set dots_total dots_exact _ _ (λ q.
    contains_part dots site 1 q
    ∙ under (sets.contains dots q) _ _ (λ t. first_at q.site q.count site (λ e. elim (cases_lt 0 q.count) [
      | inl l ↦ l
      | inr m ↦ absurd (let z : q.count ≡ 0 = omega arith in let f = (λ i. sets.contains dots (at (e i) (z i))) ∙ none in cc)
    ]))
    ∙ sym (contains_part dots site 0 q))

-- a site of which nothing is to be named adds nothing
pub none_of_site : (known : Dots) (live : Dot → Bool) (given : List Dot) (site : ℕ) (dots : Dots) → AreToName known live given site 0 dots → part_before dots site 0 ≡ part_before dots (site + 1) 0
none_of_site known live given site dots name = sym (from_one dots site name.not_zero) ∙ next_site dots site 0 name.none_past

none_first : (t c s : ℕ) → s ≤ t → (nat_lt t s || (nat_eq t s && nat_lt c 0)) ≡ false
none_first t c s h = grind (arith, nat_tests)

-- before the least site there is nothing
pub no_part : (dots : Dots) (site : ℕ) → ((q : Dot) → sets.contains dots q ≡ true → site ≤ q.site) → sets.empty ≡ part_before dots site 0
no_part dots site from = sets.same_set dots_total dots_exact _ _ (λ q.
    sets.contains-empty dot_cmp q
    ∙ sym (contains_part dots site 0 q ∙ under (sets.contains dots q) _ false (λ t. none_first q.site q.count site (from q t)) ∙ and-false (sets.contains dots q)))

all_first : (t c s : ℕ) → t < s → (nat_lt t s || (nat_eq t s && nat_lt c 0)) ≡ true
all_first t c s h = grind (arith, nat_tests)

-- past the greatest site there is no further dot
pub whole_part : (dots : Dots) (site : ℕ) → ((q : Dot) → sets.contains dots q ≡ true → q.site < site) → part_before dots site 0 ≡ dots
whole_part dots site below = sets.same_set dots_total dots_exact _ _ (λ q.
    contains_part dots site 0 q ∙ under (sets.contains dots q) _ true (λ t. all_first q.site q.count site (below q t)) ∙ and-true (sets.contains dots q))

-- whether a dot was seen
contains_seen : (known : Dots) (live : Dot → Bool) (given : List Dot) (q : Dot)
    → sets.contains (seen_dots known live given) q ≡ (is_given given q || (sets.contains known q && (not (live q) && is_older given q)))
unfolding seen_dots
contains_seen known live given q =
    sets.contains-union dots_total (sets.from_list given) (sets.retain known (λ d. not (live d) && is_older given d)) q
    ∙ (λ i. sets.contains-from_list dots_total given q i || sets.contains-retain known (λ d. not (live d) && is_older given d) q (λ x h. ap (λ d. not (live d) && is_older given d) (sym (dots_exact q x h))) i)

pub not_this : (site n : ℕ) (d : Dot) → (d.site ≡ site → d.count ≡ n → ⊥) → eq_by_cmp dot_cmp (at site n) d ≡ false
not_this site n d h = false_from_ne_true (eq_by_cmp dot_cmp (at site n) d) (λ t. let e = one_dot (at site n) d t in h (sym (ap (λ x. x.site) e)) (sym (ap (λ x. x.count) e)))

any_weaker : (p q : Dot → Bool) (xs : List Dot) → ((x : Dot) → p x ≡ true → q x ≡ true) → list_any p xs ≡ true → list_any q xs ≡ true
any_weaker p q [] f h = h
any_weaker p q (x ∷ xs) f h = elim (cases_Bool (p x)) [
  | inl t ↦ ap (λ b. b || list_any q xs) (f x t)
  | inr n ↦ or_right (q x) (list_any q xs) (any_weaker p q xs f (ap (λ b. b || list_any p xs) (sym n) ∙ h))
]

pub any_has : (P : Dot → Type 0) (p : Dot → Bool) (xs : List Dot) → All P xs → list_any p xs ≡ true → (x : Dot) × P x × (p x ≡ true)
any_has P p [] a h = absurd (cc)
any_has P p (x ∷ xs) a h = elim (cases_Bool (p x)) [
  | inl t ↦ (x, All-head P x xs a, t)
  | inr n ↦ any_has P p xs (All-tail P x xs a) (ap (λ b. b || list_any p xs) (sym n) ∙ h)
]

not_older : (t c s n l : ℕ) → (t ≡ s → c ≤ l) → l ≤ n → (nat_eq t s && nat_lt n c) ≡ false
not_older t c s n l h k = elim (cases_eq t s) [
  | inl e ↦ let m = h e in grind (arith, nat_tests)
  | inr d ↦ grind (arith, nat_tests)
]

is_older_than : (t c s n l : ℕ) → t ≡ s → c ≡ l → n < l → (nat_eq t s && nat_lt n c) ≡ true
is_older_than t c s n l e f h = grind (arith, nat_tests)

no_zero : (s t f l : ℕ) → 1 ≤ f → (nat_eq s t && (nat_le f 0 && nat_le 0 l)) ≡ false
no_zero s t f l h = grind (arith, nat_tests)

-- no known dot has the count 0
pub known_zero : (runs : List Run) (known : Dots) (site : ℕ) → IsRunsOf runs known → All IsRunWithinLimits runs → sets.contains known (at site 0) ≡ false
known_zero runs known site is limits = is.same (at site 0) ∙ list_any_none (in_run (at site 0)) runs (All-weaker IsRunWithinLimits (λ r. in_run (at site 0) r ≡ false) (λ r l. no_zero r.site site r.first r.last l.least) runs limits)

module _ (known : Dots) (live : Dot → Bool) (given : List Dot) (site last : ℕ) (g : IsGreatest given site last) where
  abbrev seen : Dots
  seen = seen_dots known live given

  abbrev dead_below : Dot → Bool
  dead_below q = sets.contains known q && (not (live q) && is_older given q)

  older_past : (n : ℕ) → last ≤ n → is_older given (at site n) ≡ false
  older_past n h = list_any_none (λ d. nat_eq d.site site && nat_lt n d.count) given (All-weaker (λ d. d.site ≡ site → d.count ≤ last) (λ d. (nat_eq d.site site && nat_lt n d.count) ≡ false) (λ d m. not_older d.site d.count site n last m h) given g.most)

  older_below : (n : ℕ) → n < last → is_older given (at site n) ≡ true
  older_below n h = any_weaker (eq_by_cmp dot_cmp (at site last)) (λ d. nat_eq d.site site && nat_lt n d.count) given
      (λ d t. let e = one_dot (at site last) d t in is_older_than d.site d.count site n last (sym (ap (λ x. x.site) e)) (sym (ap (λ x. x.count) e)) h) (g.reached (omega arith))

  -- past the greatest given dot nothing was seen, nor at the count 0
  seen_past : (n : ℕ) → last < n → sets.contains seen (at site n) ≡ false
  seen_past n h =
      contains_seen known live given (at site n)
      ∙ or_from _ _ (list_any_none (eq_by_cmp dot_cmp (at site n)) given (All-weaker (λ d. d.site ≡ site → d.count ≤ last) (λ d. eq_by_cmp dot_cmp (at site n) d ≡ false) (λ d m. not_this site n d (λ s c. let k = m s in omega arith)) given g.most))
      (ap (λ b. sets.contains known (at site n) && (not (live (at site n)) && b)) (older_past n (omega arith)) ∙ none (sets.contains known (at site n)) (not (live (at site n))))
    where
      none : (a b : Bool) → (a && (b && false)) ≡ false
      none true true = refl
      none true false = refl
      none false b = refl

  seen_zero : sets.contains known (at site 0) ≡ false → sets.contains seen (at site 0) ≡ false
  seen_zero k =
      contains_seen known live given (at site 0)
      ∙ or_from _ _ (list_any_none (eq_by_cmp dot_cmp (at site 0)) given (All-weaker (λ d. d.site ≡ site → 1 ≤ d.count) (λ d. eq_by_cmp dot_cmp (at site 0) d ≡ false) (λ d m. not_this site 0 d (λ s c. let k = m s in omega arith)) given g.least))
      (ap (λ b. b && (not (live (at site 0)) && is_older given (at site 0))) k)

  -- the seen dots of a site are the given and the dead ones up to the greatest given count
  up_to : (n : ℕ) → 1 ≤ n → n ≤ last → (is_given given (at site n) || dead_below (at site n)) ≡ is_to_name known live given (at site n)
  up_to n lo hi = elim (cases_lt n last) [
    | inl m ↦ ap (λ b. is_given given (at site n) || (sets.contains known (at site n) && b)) (ap (λ b. not (live (at site n)) && b) (older_below n m) ∙ and-true (not (live (at site n))))
    | inr m ↦
        let e : n ≡ last = omega arith in
        let t : is_given given (at site n) ≡ true = ap (λ x. is_given given (at site x)) e ∙ g.reached (omega arith) in
        ap (λ b. b || dead_below (at site n)) t ∙ sym (ap (λ b. b || (sets.contains known (at site n) && not (live (at site n)))) t)
  ]

  pub seen_to_name : sets.contains known (at site 0) ≡ false → AreToName known live given site last seen
  seen_to_name k = record {
    not_zero = seen_zero k;
    same = λ n lo hi. contains_seen known live given (at site n) ∙ up_to n lo hi;
    none_past = seen_past;
  }

-- what was seen is of sites of given dots
pub seen_sites : (P : ℕ → Type 0) (known : Dots) (live : Dot → Bool) (given : List Dot) → All (λ d. P d.site) given → (q : Dot) → sets.contains (seen_dots known live given) q ≡ true → P q.site
seen_sites P known live given sites q h = elim (cases_Bool (is_given given q)) [
  | inl t ↦ let f = any_has (λ d. P d.site) (eq_by_cmp dot_cmp q) given sites t in subst (λ (d : Dot). P d.site) (sym (one_dot q f.0 f.2)) f.1
  | inr n ↦
      let all = ap (λ b. b || (sets.contains known q && (not (live q) && is_older given q))) (sym n) ∙ sym (contains_seen known live given q) ∙ h in
      let older = (and_parts (not (live q)) (is_older given q) (and_parts (sets.contains known q) (not (live q) && is_older given q) all).1).1 in
      let f = any_has (λ d. P d.site) (λ g. nat_eq g.site q.site && nat_lt q.count g.count) given sites older in
      let same = and_parts (nat_eq f.0.site q.site) (nat_lt q.count f.0.count) f.2 in
      let e : f.0.site ≡ q.site = grind (arith, nat_tests) in
      subst P e f.1
]
