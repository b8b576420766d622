-- How many elements have a dot of runs and pass a test, run by run.
use Rattle.std.proofs.Common.{◌≡◌, ℕ, ◌+◌, ◌<◌, Bool, true, false, not, ◌&&◌, ◌||◌, List, [], ◌∷◌, length, get_or, take, filter, refl, sym, ap, ◌∙◌, arith}
use Rattle.std.specs.FinMap as map
use Rattle.std.specs.List.{count_by}
use Rattle.std.proofs.lemmas.Bool.{and_parts}
use Rattle.std.proofs.lemmas.List.Sums.{sum_by-cons}
use Rattle.dots.specs.Values.{Dot}
use Rattle.dots.specs.Orders.{dot_cmp}
use Rattle.dots.specs.DotSets.{AreApart, Run, in_run, in_runs}
use Rattle.live_cells.proofs.Counts.{count_either, count_filter, count_same, earlier_misses, runs_more}
use Rattle.live_cells.specs.Holdings.{Holding}

-- whether a dot is in runs and not live there
abbrev pub dead_in_runs : List Run → map.FinMap dot_cmp Holding → Dot → Bool
dead_in_runs runs there dot = in_runs runs dot && not (map.contains_key there dot)

pub spread : (a b c : Bool) → ((a || b) && c) ≡ ((a && c) || (b && c))
spread true true true = refl
spread true true false = refl
spread true false true = refl
spread true false false = refl
spread false b c = refl

none_pass : {X : Type 0} (xs : List X) → count_by (λ x. false) xs ≡ 0
none_pass [] = refl
none_pass (x ∷ xs) = let cons = sum_by-cons (λ y. 0) x xs in let rest = none_pass xs in omega arith

module _ {X : Type 0} (dot : X → Dot) (test : X → Bool) where
  -- none has a dot of no runs
  pub count_none : (runs : List Run) (xs : List X) → count_by (λ x. in_runs (take 0 runs) (dot x) && test x) xs ≡ 0
  count_none [] xs = none_pass xs
  count_none (r ∷ rs) xs = none_pass xs

  -- the dots in the runs after one more run
  pub count_more : (runs : List Run) (i : ℕ) (run : Run) (xs : List X) → AreApart runs → i < length runs → run ≡ get_or runs i run
      → count_by (λ x. in_runs (take (i + 1) runs) (dot x) && test x) xs ≡ count_by (λ x. in_runs (take i runs) (dot x) && test x) xs + count_by test (filter (λ x. in_run (dot x) run) xs)
  count_more runs i run xs apart l is =
      count_same _ _ (λ x. ap (λ b. b && test x) (runs_more runs i run (dot x) l ∙ ap (λ r. in_runs (take i runs) (dot x) || in_run (dot x) r) (sym is)) ∙ spread (in_runs (take i runs) (dot x)) (in_run (dot x) run) (test x)) xs
      ∙ count_either (λ x. in_runs (take i runs) (dot x) && test x) (λ x. in_run (dot x) run && test x)
      (λ x h. ap (λ b. b && test x) (earlier_misses runs i run (dot x) apart l (ap (in_run (dot x)) (sym is) ∙ (and_parts (in_run (dot x) run) (test x) h).0))) xs
      ∙ ap (λ n. count_by (λ x. in_runs (take i runs) (dot x) && test x) xs + n) (sym (count_filter (λ x. in_run (dot x) run) test xs))

module _ {X : Type 0} (dot : X → Dot) where
  and_true : (b : Bool) → (b && true) ≡ b
  and_true true = refl
  and_true false = refl

  -- no dot is in the first 0 runs
  pub none_so_far : (runs : List Run) (xs : List X) → count_by (λ x. in_runs (take 0 runs) (dot x)) xs ≡ 0
  none_so_far runs xs = count_same _ _ (λ x. sym (and_true (in_runs (take 0 runs) (dot x)))) xs ∙ count_none dot (λ x. true) runs xs

  all_pass : (xs : List X) → count_by (λ x. true) xs ≡ length xs
  all_pass [] = refl
  all_pass (x ∷ xs) = sum_by-cons (λ y. 1) x xs ∙ ap (λ n. 1 + n) (all_pass xs) ∙ omega arith

  pub one_more : (runs : List Run) (i : ℕ) (run : Run) (xs : List X) → AreApart runs → i < length runs → run ≡ get_or runs i run
      → count_by (λ x. in_runs (take (i + 1) runs) (dot x)) xs ≡ count_by (λ x. in_runs (take i runs) (dot x)) xs + length (filter (λ x. in_run (dot x) run) xs)
  one_more runs i run xs apart l is =
      count_same _ _ (λ x. sym (and_true (in_runs (take (i + 1) runs) (dot x)))) xs
      ∙ count_more dot (λ x. true) runs i run xs apart l is
      ∙ (λ j. count_same (λ x. in_runs (take i runs) (dot x) && true) (λ x. in_runs (take i runs) (dot x)) (λ x. and_true (in_runs (take i runs) (dot x))) xs j + all_pass (filter (λ x. in_run (dot x) run) xs) j)
