-- How many dots and runs a set has, from a list of its dots that rises.
use Rattle.std.proofs.Common.{◌≡◌, ℕ, suc, zero, ◌+◌, Bool, true, false, cond, not, ◌&&◌, ◌||◌, List, [], ◌∷◌, length, drop, filter, nat_eq, nat_lt, count_by, refl, sym, ap, subst, ◌∙◌, arith, true≢false}
use Rattle.std.specs.FinSet as set
use Rattle.std.specs.List.{list_any, AllByRecursion}
use Rattle.std.specs.List.Sorted.{IsStrictlySortedBy}
use Rattle.std.specs.Ordering.{is_eq, is_lt, ordering_then}
use Rattle.std.specs.declared.cmp.Ordering.TheVariants.{Less, Equal, Greater}
use Rattle.std.proofs.lemmas.Bool.Decides.{nat_tests}
use Rattle.std.proofs.lemmas.Cmp.{eq_by_cmp_equiv}
use Rattle.std.proofs.lemmas.List.Kept.{IsStrictlySortedBy-filter}
use Rattle.std.proofs.lemmas.List.Sums.{length-filter}
use Rattle.std.proofs.lemmas.Map.Keys.{sorted_head, sorted_tail}
use Rattle.std.proofs.lemmas.Map.Made.{is_member-filter}
use Rattle.dots.specs.Values.{Dot}
use Rattle.dots.specs.Orders.{dot_cmp}
use Rattle.dots.specs.DotSets.{next_dot, run_ends, run_count}
use Rattle.operations.specs.Knowledge.{is_dot}
use Rattle.dots.proofs.DotOrder.{dots_total, dots_exact, same_dot}
use Rattle.dots.proofs.RunCounts.{contains_run_ends}
use Rattle.reference_model.specs.NextDots.{goes_on}
use Rattle.general_lemmas.proofs.TruthTables.{equal_of}

-- ---- the order of dots by tests of their numbers
less_tests : (a b : Dot) → is_lt (dot_cmp a b) ≡ (nat_lt a.site b.site || (nat_eq a.site b.site && nat_lt a.count b.count))
less_tests a b = by (nat_lt a.site b.site) (nat_eq a.site b.site) (nat_lt a.count b.count) (nat_eq a.count b.count)
  where
    by : (p q r s : Bool) → is_lt (ordering_then (cond p Less (cond q Equal Greater)) (cond r Less (cond s Equal Greater))) ≡ (p || (q && r))
    by true q r s = refl
    by false true true s = refl
    by false true false true = refl
    by false true false false = refl
    by false false r s = refl

pub same_one : (a b : Dot) → is_dot a b ≡ true → a ≡ b
same_one a b h = dots_exact a b (equal_of (dot_cmp a b) h)

-- the dot after a greater one isn't the lesser
next_greater : (x q : Dot) → is_lt (dot_cmp x q) ≡ true → is_dot (next_dot q) x ≡ false
next_greater x q less = same_dot (next_dot q) x ∙ numbers x.site q.site x.count q.count (sym (less_tests x q) ∙ less)
  where
    numbers : (s t c d : ℕ) → (nat_lt s t || (nat_eq s t && nat_lt c d)) ≡ true → (nat_eq s t && nat_eq c (suc d)) ≡ false
    numbers s t c d h = grind (arith, nat_tests)

next_itself : (x : Dot) → is_dot (next_dot x) x ≡ false
next_itself x = same_dot (next_dot x) x ∙ numbers x.site x.count
  where
    numbers : (s c : ℕ) → (nat_eq s s && nat_eq c (suc c)) ≡ false
    numbers s c = grind (arith, nat_tests)

-- what is greater than a greater dot isn't the next one
past_next : (x y z : Dot) → is_lt (dot_cmp x y) ≡ true → is_lt (dot_cmp y z) ≡ true → is_dot (next_dot x) z ≡ false
past_next x y z first second = same_dot (next_dot x) z ∙ numbers x.site y.site z.site x.count y.count z.count (sym (less_tests x y) ∙ first) (sym (less_tests y z) ∙ second)
  where
    numbers : (s t u c d e : ℕ) → (nat_lt s t || (nat_eq s t && nat_lt c d)) ≡ true → (nat_lt t u || (nat_eq t u && nat_lt d e)) ≡ true → (nat_eq u s && nat_eq e (suc c)) ≡ false
    numbers s t u c d e h k = grind (arith, nat_tests)

-- ---- lists that rise
-- a lesser dot isn't among the greater
not_among : (x : Dot) (xs : List Dot) → AllByRecursion (λ y. dot_cmp x y ≡ Less) xs → list_any (is_dot x) xs ≡ false
not_among x [] h = refl
not_among x (y ∷ ys) h = (λ i. is_eq (h.0 i) || not_among x ys h.1 i)

-- what is among the greater is greater
among_greater : (x q : Dot) (xs : List Dot) → AllByRecursion (λ y. dot_cmp x y ≡ Less) xs → list_any (is_dot q) xs ≡ true → is_lt (dot_cmp x q) ≡ true
among_greater x q [] h there = absurd (true≢false (sym there))
among_greater x q (y ∷ ys) h there = by (is_dot q y) refl (among_greater x q ys h.1) there
  where
    by : (b : Bool) → is_dot q y ≡ b → (list_any (is_dot q) ys ≡ true → is_lt (dot_cmp x q) ≡ true) → (b || list_any (is_dot q) ys) ≡ true → is_lt (dot_cmp x q) ≡ true
    by true e tail there = ap (λ d. is_lt (dot_cmp x d)) (same_one q y e) ∙ ap is_lt h.0
    by false e tail there = tail there

none_next : (x y : Dot) (ys : List Dot) → is_lt (dot_cmp x y) ≡ true → AllByRecursion (λ z. dot_cmp y z ≡ Less) ys → list_any (is_dot (next_dot x)) ys ≡ false
none_next x y [] less h = refl
none_next x y (z ∷ zs) less h = (λ i. past_next x y z less (ap is_lt h.0) i || none_next x y zs less h.1 i)

or_absent : (a b : Bool) → b ≡ false → (a || b) ≡ a
or_absent true b h = refl
or_absent false b h = h

-- the next dot is there where it comes first
pub next_first : (x : Dot) (xs : List Dot) → IsStrictlySortedBy dot_cmp (x ∷ xs) → list_any (is_dot (next_dot x)) xs ≡ goes_on x xs
next_first x [] h = refl
next_first x (y ∷ ys) h =
    let greater = sorted_head dot_cmp x (y ∷ ys) h in
    or_absent (is_dot (next_dot x) y) (list_any (is_dot (next_dot x)) ys)
    (none_next x y ys (ap is_lt greater.0) (sorted_head dot_cmp y ys (sorted_tail dot_cmp x (y ∷ ys) h)))

-- what is left of a list that rises
pub sorted_drop : (xs : List Dot) (n : ℕ) → IsStrictlySortedBy dot_cmp xs → IsStrictlySortedBy dot_cmp (drop n xs)
sorted_drop xs zero h = h
sorted_drop [] (suc n) h = h
sorted_drop (x ∷ xs) (suc n) h = sorted_drop xs n (sorted_tail dot_cmp x xs h)

-- ---- sets
fresh : (x : Dot) (xs : List Dot) → IsStrictlySortedBy dot_cmp (x ∷ xs) → set.contains (set.from_list {R = dot_cmp} xs) x ≡ false
fresh x xs h = set.contains-from_list dots_total xs x ∙ not_among x xs (sorted_head dot_cmp x xs h)

-- a set of dots that rise has as many dots as there are in the list
pub len_sorted : (xs : List Dot) → IsStrictlySortedBy dot_cmp xs → set.len (set.from_list {R = dot_cmp} xs) ≡ length xs
len_sorted [] h = set.len-empty dot_cmp
len_sorted (x ∷ xs) h =
    let n = set.len (set.from_list {R = dot_cmp} xs) in
    set.len-insert dots_total (set.from_list xs) x
    ∙ ap (λ b. cond b n (n + 1)) (fresh x xs h)
    ∙ ap (λ m. m + 1) (len_sorted xs (sorted_tail dot_cmp x xs h)) ∙ omega arith

-- a set with the dots of a list is that of the list
pub set_is : (s : set.FinSet dot_cmp) (xs : List Dot) → ((q : Dot) → set.contains s q ≡ list_any (is_dot q) xs) → s ≡ set.from_list xs
set_is s xs same = set.same_set dots_total dots_exact s (set.from_list xs) (λ q. same q ∙ sym (set.contains-from_list dots_total xs q))

-- the dots of one list that rises that aren't in another
pub len_missing : (s : set.FinSet dot_cmp) (xs ys : List Dot) → IsStrictlySortedBy dot_cmp xs
    → ((q : Dot) → set.contains s q ≡ (list_any (is_dot q) xs && not (list_any (is_dot q) ys)))
    → count_by (λ d. not (list_any (is_dot d) ys)) xs ≡ set.len s
len_missing s xs ys rises same =
    let absent : Dot → Bool = λ d. not (list_any (is_dot d) ys) in
    let left = filter absent xs in
    let has : s ≡ set.from_list left = set_is s left (λ q.
    same q ∙ sym (is_member-filter (eq_by_cmp_equiv dots_total) absent q (λ x e. ap absent (same_one q x e)) xs)) in
    sym (length-filter absent xs) ∙ sym (len_sorted left (IsStrictlySortedBy-filter dot_cmp absent xs rises)) ∙ sym (ap set.len has)

-- ---- one dot more, before all others
kept_ends : (e c b d : Bool) → ((e || c) ≡ true → b ≡ false) → (e ≡ true → d ≡ true) → ((e || c) && not (b || d)) ≡ (c && not d)
kept_ends true c b d f g = (λ i. not (f refl i || g refl i)) ∙ sym (last c) ∙ (λ i. c && not (sym (g refl) i))
  where
    last : (c : Bool) → (c && false) ≡ false
    last true = refl
    last false = refl
kept_ends false true b d f g = ap (λ x. not (x || d)) (f refl)
kept_ends false false b d f g = refl

one_more_end : (e c b d : Bool) → ((e || c) ≡ true → b ≡ false) → (e ≡ true → d ≡ false) → ((e || c) && not (b || d)) ≡ (e || (c && not d))
one_more_end true c b d f g = (λ i. not (f refl i || g refl i))
one_more_end false true b d f g = ap (λ x. not (x || d)) (f refl)
one_more_end false false b d f g = refl

module _ (x : Dot) (xs : List Dot) (rises : IsStrictlySortedBy dot_cmp (x ∷ xs)) where
  abbrev rest : set.FinSet dot_cmp
  rest = set.from_list xs

  not_next : (q : Dot) → (is_dot q x || set.contains rest q) ≡ true → is_dot (next_dot q) x ≡ false
  not_next q there = by (is_dot q x) refl there
    where
      by : (b : Bool) → is_dot q x ≡ b → (b || set.contains rest q) ≡ true → is_dot (next_dot q) x ≡ false
      by true e there = ap (λ d. is_dot (next_dot d) x) (same_one q x e) ∙ next_itself x
      by false e there = next_greater x q (among_greater x q xs (sorted_head dot_cmp x xs rises) (sym (set.contains-from_list dots_total xs q) ∙ there))

  ends_then : (q : Dot) → set.contains (run_ends (set.from_list (x ∷ xs))) q ≡ ((is_dot q x || set.contains rest q) && not (is_dot (next_dot q) x || set.contains rest (next_dot q)))
  ends_then q =
      contains_run_ends (set.from_list (x ∷ xs)) q
      ∙ (λ i. set.contains-insert dots_total rest x q i && not (set.contains-insert dots_total rest x (next_dot q) i))

  next_in : set.contains rest (next_dot x) ≡ goes_on x xs
  next_in = set.contains-from_list dots_total xs (next_dot x) ∙ next_first x xs rises

  at_next : (g : Bool) → goes_on x xs ≡ g → (q : Dot) → is_dot q x ≡ true → set.contains rest (next_dot q) ≡ g
  at_next g e q is = ap (λ d. set.contains rest (next_dot d)) (same_one q x is) ∙ next_in ∙ e

  -- the first dot ends a run where the next one doesn't follow
  pub run_count_more : run_count (set.from_list (x ∷ xs)) ≡ cond (goes_on x xs) (run_count rest) (run_count rest + 1)
  unfolding run_count
  run_count_more = by (goes_on x xs) refl
    where
      by : (g : Bool) → goes_on x xs ≡ g → set.len (run_ends (set.from_list (x ∷ xs))) ≡ cond g (set.len (run_ends rest)) (set.len (run_ends rest) + 1)
      by true e = ap set.len (set.same_set dots_total dots_exact _ _ (λ q.
          ends_then q
          ∙ kept_ends (is_dot q x) (set.contains rest q) (is_dot (next_dot q) x) (set.contains rest (next_dot q)) (not_next q) (at_next true e q)
          ∙ sym (contains_run_ends rest q)))
      by false e =
          ap set.len (set.same_set dots_total dots_exact (run_ends (set.from_list (x ∷ xs))) (set.insert (run_ends rest) x) (λ q.
          ends_then q
          ∙ one_more_end (is_dot q x) (set.contains rest q) (is_dot (next_dot q) x) (set.contains rest (next_dot q)) (not_next q) (at_next false e q)
          ∙ ap (λ b. is_dot q x || b) (sym (contains_run_ends rest q)) ∙ sym (set.contains-insert dots_total (run_ends rest) x q)))
          ∙ set.len-insert dots_total (run_ends rest) x
          ∙ ap (λ b. cond b (set.len (run_ends rest)) (set.len (run_ends rest) + 1))
          (contains_run_ends rest x ∙ ap (λ b. b && not (set.contains rest (next_dot x))) (fresh x xs rises))

pub run_count_empty : run_count (set.from_list {R = dot_cmp} []) ≡ 0
unfolding run_count
run_count_empty =
    ap set.len (set.same_set dots_total dots_exact (run_ends set.empty) set.empty (λ q.
    contains_run_ends set.empty q ∙ ap (λ b. b && not (set.contains (set.empty {R = dot_cmp}) (next_dot q))) (set.contains-empty dot_cmp q) ∙ sym (set.contains-empty dot_cmp q)))
    ∙ set.len-empty dot_cmp

-- one dot more that a loop passes: the ends so far, and the runs of what is left, stay all runs
pub counts_ends : (x : Dot) (rest left : List Dot) (before now all : ℕ) (follows : Bool) → left ≡ x ∷ rest → IsStrictlySortedBy dot_cmp left → follows ≡ goes_on x rest
    → now ≡ cond follows before (before + 1) → before + run_count (set.from_list left) ≡ all → now + run_count (set.from_list rest) ≡ all
counts_ends x rest left before now all follows is rises goes made h =
    let runs = run_count (set.from_list rest) in
    let more : run_count (set.from_list left) ≡ cond follows runs (runs + 1) =
    ap (λ xs. run_count (set.from_list xs)) is ∙ run_count_more x rest (subst (IsStrictlySortedBy dot_cmp) is rises) ∙ ap (λ b. cond b runs (runs + 1)) (sym goes) in
    by follows runs (run_count (set.from_list left)) more made h
  where
    by : (f : Bool) (runs whole : ℕ) → whole ≡ cond f runs (runs + 1) → now ≡ cond f before (before + 1) → before + whole ≡ all → now + runs ≡ all
    by true runs whole p q h = omega (arith, p, q, h)
    by false runs whole p q h = omega (arith, p, q, h)
