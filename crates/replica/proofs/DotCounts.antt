-- How many dots and runs a set has at most.
use Rattle.std.proofs.Common.{◌≡◌, ℕ, suc, ◌+◌, ◌-◌, ◌≤◌, ◌<◌, Bool, true, false, not, cond, ◌&&◌, ◌||◌, List, [], ◌∷◌, ◌++◌, length, take, inl, inr, sym, ap, ◌∙◌, arith, true≢false, length-append}
use Rattle.std.specs.List.{AllByRecursion, list_any}
use Rattle.std.specs.FinSet as set
use Rattle.std.proofs.lemmas.Bool.{and_parts, cases_Bool, or_right}
use Rattle.std.proofs.lemmas.List.{length-take}
use Rattle.std.proofs.lemmas.Map.Keys.{IsDistinct-head, IsDistinct-tail}
use Rattle.dots.specs.declared.limits.TheConstants.{MOST_LIVE, MOST_RUNS}
use Rattle.dots.specs.Values.{Dot}
use Rattle.dots.specs.Orders.{dot_cmp}
use Rattle.dots.specs.DotSets.{run_count, run_ends}
use Rattle.operations.specs.Knowledge.{is_dot}
use Rattle.general_lemmas.proofs.Counting.{positive, within}
use Rattle.dots.proofs.DotOrder.{dots_exact, dots_total}
use Rattle.dots.proofs.RunCounts.{contains_run_ends}
use Rattle.live_cells.proofs.DotTests.{one_dot, same_itself, same_tied}
use Rattle.replica.proofs.SeenOnce.{AreOnce}

-- sets of dots
abbrev Dots : Type 0
Dots = set.FinSet dot_cmp

-- one of some dots isn't another one from which they differ
not_itself : (x q : Dot) (ys : List Dot) → AllByRecursion (λ y. is_dot x y ≡ false) ys → list_any (is_dot q) ys ≡ true → is_dot q x ≡ false
not_itself x q [] a h = absurd (true≢false (sym h))
not_itself x q (y ∷ ys) a h = elim (cases_Bool (is_dot q x)) [
  | inr f ↦ f
  | inl t ↦ elim (cases_Bool (is_dot q y)) [
    | inl u ↦ absurd (true≢false (sym (same_tied x y (sym (one_dot q x t) ∙ one_dot q y u)) ∙ a.0))
    | inr v ↦ not_itself x q ys a.1 (sym (ap (λ b. b || list_any (is_dot q) ys) v) ∙ h)
  ]
]

-- of dots of which none comes twice a set that has them has at least as many
pub once_few : (s : Dots) (dots : List Dot) → AreOnce dots → ((q : Dot) → list_any (is_dot q) dots ≡ true → set.contains s q ≡ true) → length dots ≤ set.len s
once_few s [] once has = omega arith
once_few s (x ∷ xs) once has =
    let here : set.contains s x ≡ true = has x (ap (λ b. b || list_any (is_dot x) xs) (same_itself x)) in
    let one = positive dots_total dots_exact s x here in
    let less = set.len-remove dots_total s x ∙ ap (λ b. cond b (set.len s - 1) (set.len s)) here in
    let rest = once_few (set.remove s x) xs (IsDistinct-tail is_dot x xs once) later in
    omega (arith, one, less, rest)
  where
    later : (q : Dot) → list_any (is_dot q) xs ≡ true → set.contains (set.remove s x) q ≡ true
    later q h =
        set.contains-remove dots_total s x q
        ∙ (λ i. not (not_itself x q xs (IsDistinct-head is_dot x xs once) h i) && has q (or_right (is_dot q x) (list_any (is_dot q) xs) h) i)

-- a set has at most as many runs as dots
pub runs_few : (s : Dots) → run_count s ≤ set.len s
unfolding run_count
runs_few s = within dots_total dots_exact (run_ends s) s (λ q h. (and_parts (set.contains s q) _ (sym (contains_run_ends s q) ∙ h)).0)

-- a set has at most as many dots as the list that it is made of
pub len_list : (dots : List Dot) → set.len (set.from_list {R = dot_cmp} dots) ≤ length dots
len_list [] = omega (arith, set.len-empty dot_cmp)
len_list (d ∷ ds) = at (set.contains (set.from_list ds) d) (set.len-insert dots_total (set.from_list ds) d) (len_list ds)
  where
    at : (b : Bool) → set.len (set.from_list {R = dot_cmp} (d ∷ ds)) ≡ cond b (set.len (set.from_list {R = dot_cmp} ds)) (set.len (set.from_list {R = dot_cmp} ds) + 1)
        → set.len (set.from_list {R = dot_cmp} ds) ≤ length ds → set.len (set.from_list {R = dot_cmp} (d ∷ ds)) ≤ suc (length ds)
    at true e h = omega (arith, e, h)
    at false e h = omega (arith, e, h)

-- few dots, with one more, make few runs
pub runs_more : (dots : List Dot) (i : ℕ) (d : Dot) → length dots ≤ MOST_LIVE → i < length dots → run_count (set.insert (set.from_list (take i dots)) d) ≤ MOST_RUNS
runs_more dots i d few here =
    let all = take i dots ++ d ∷ [] in
    let is : run_count (set.insert (set.from_list (take i dots)) d) ≡ run_count (set.from_list all) = ap run_count (sym (set.from_list_push dots_total dots_exact (take i dots) d)) in
    let runs = runs_few (set.from_list all) in
    let items = len_list all in
    let long : length all ≡ length (take i dots) + 1 = length-append (take i dots) (d ∷ []) in
    omega (arith, is, runs, items, long, length-take i dots)
