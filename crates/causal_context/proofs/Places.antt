-- Where a dot's place is in a list of runs that are apart.
use Rattle.std.proofs.Common.{◌≡◌, ℕ, suc, zero, ◌≤◌, ◌<◌, Bool, true, false, ◌||◌, List, [], ◌∷◌, length, get_or, drop, refl, ap, ◌∙◌, arith}
use Rattle.std.specs.Prelude.{IsTrue}
use Rattle.std.specs.List.{All, AllWithin}
use Rattle.std.specs.List.Sorted.{IsPartitionedBy}
use Rattle.std.proofs.lemmas.Bool.Decides.{nat_tests}
use Rattle.std.proofs.lemmas.List.Folds.{list_any_none}
use Rattle.std.proofs.lemmas.List.Elements.{All-cons, All-weaker}
use Rattle.dots.specs.Values.{Dot}
use Rattle.dots.specs.DotSets.{Run, in_run, in_runs, is_apart, AreApart}
use Rattle.causal_context.specs.RunLists.{is_below}

-- what ends before a dot doesn't have it
pub below_misses : (d : Dot) (r : Run) → is_below d r ≡ true → in_run d r ≡ false
below_misses d r h = grind (arith, nat_tests)

-- where a run ends at a dot or after it, none that follow have the dot, unless it does
pub above_misses : (d : Dot) (r x : Run) → is_below d r ≡ false → IsTrue (is_apart r x) → in_run d x ≡ false
above_misses d r x h a = grind (arith, nat_tests)

falls : (d : Dot) (r x : Run) → IsTrue (is_apart r x) → x.first ≤ x.last → is_below d x ≡ true → is_below d r ≡ true
falls d r x a w h = grind (arith, nat_tests)

-- each of the runs has a dot
pub apart_whole : (rs : List Run) → AreApart rs → All (λ r. r.first ≤ r.last) rs
apart_whole [] a = λ k d h. absurd (omega (arith, h))
apart_whole (r ∷ rs) a = All-cons (λ r. r.first ≤ r.last) r rs a.0 (apart_whole rs a.2)

-- the runs that end before a dot come first
pub partitioned : (d : Dot) (rs : List Run) → AreApart rs → IsPartitionedBy (is_below d) rs
partitioned d [] a i j e l h t = absurd (omega (arith, h))
partitioned d (r ∷ rs) a zero zero e l h t = t
partitioned d (r ∷ rs) a zero (suc j) e l h t = falls d r (get_or rs j e) (a.1 j e (omega arith)) (apart_whole rs a.2 j e (omega arith)) t
partitioned d (r ∷ rs) a (suc i) zero e l h t = absurd (omega arith)
partitioned d (r ∷ rs) a (suc i) (suc j) e l h t = partitioned d rs a.2 i j e (omega arith) (omega arith) t

-- a dot is in the run at its place, or in none
pub at_place : (d : Dot) (rs : List Run) (i : ℕ) (e : Run) → AreApart rs → i < length rs → AllWithin (λ r. is_below d r ≡ true) rs 0 i → is_below d (get_or rs i e) ≡ false
    → in_runs rs d ≡ in_run d (get_or rs i e)
at_place d [] i e a l before at = absurd (omega arith)
at_place d (r ∷ rs) zero e a l before at = rest (in_run d r) (in_runs rs d) (list_any_none (in_run d) rs (All-weaker (λ x. IsTrue (is_apart r x)) (λ x. in_run d x ≡ false) (λ x p. above_misses d r x at p) rs a.1))
  where
    rest : (p q : Bool) → q ≡ false → (p || q) ≡ p
    rest true q h = refl
    rest false q h = h
at_place d (r ∷ rs) (suc i) e a l before at =
    ap (λ b. b || in_runs rs d) (below_misses d r (before 0 r (omega arith) (omega arith)))
    ∙ at_place d rs i e a.2 (omega arith) (λ k f lo hi. before (suc k) f (omega arith) (omega arith)) at

-- past all of them there is none
pub at_no_place : (d : Dot) (rs : List Run) → AllWithin (λ r. is_below d r ≡ true) rs 0 (length rs) → in_runs rs d ≡ false
at_no_place d rs before = list_any_none (in_run d) rs (λ k e h. below_misses d (get_or rs k e) (before k e (omega arith) h))

falls_apart : (y r x : Run) → IsTrue (is_apart r x) → x.first ≤ x.last → is_apart x y ≡ true → is_apart r y ≡ true
falls_apart y r x a w h = grind (arith, nat_tests)

-- the runs that precede another run come first
pub partitioned_apart : (y : Run) (rs : List Run) → AreApart rs → IsPartitionedBy (λ r. is_apart r y) rs
partitioned_apart y [] a i j e l h t = absurd (omega (arith, h))
partitioned_apart y (r ∷ rs) a zero zero e l h t = t
partitioned_apart y (r ∷ rs) a zero (suc j) e l h t = falls_apart y r (get_or rs j e) (a.1 j e (omega arith)) (apart_whole rs a.2 j e (omega arith)) t
partitioned_apart y (r ∷ rs) a (suc i) zero e l h t = absurd (omega arith)
partitioned_apart y (r ∷ rs) a (suc i) (suc j) e l h t = partitioned_apart y rs a.2 i j e (omega arith) (omega arith) t

-- what is left of a list is apart too
pub apart_drop : (i : ℕ) (rs : List Run) → AreApart rs → AreApart (drop i rs)
apart_drop zero rs a = a
apart_drop (suc i) [] a = a
apart_drop (suc i) (r ∷ rs) a = apart_drop i rs a.2
