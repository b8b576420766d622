-- Runs of which each lies before the next: what has a dot, and what has none.
use Rattle.std.proofs.Common.{◌≡◌, ◌≤◌, Bool, true, false, not, ◌&&◌, ◌||◌, List, [], ◌∷◌, refl, arith}
use Rattle.std.specs.Prelude.{nat_eq, IsTrue}
use Rattle.std.specs.List.{All, list_any}
use Rattle.std.proofs.lemmas.Bool.Decides.{nat_tests}
use Rattle.std.proofs.lemmas.List.Folds.{list_any_none}
use Rattle.std.proofs.lemmas.List.Elements.{All-weaker}
use Rattle.dots.specs.Values.{Dot}
use Rattle.dots.specs.DotSets.{Run, in_run, in_runs, is_apart, AreApart, next_dot}

-- whether a run ends with the dot
abbrev pub is_end : Dot → Run → Bool
is_end d r = nat_eq r.site d.site && nat_eq r.last d.count

-- a dot of a run, and the next one, are in none that lies after it
pub past_misses : (d : Dot) (r x : Run) → IsTrue (is_apart r x) → in_run d r ≡ true → in_run d x ≡ false
past_misses d r x a h = grind (arith, nat_tests)

pub past_misses_next : (d : Dot) (r x : Run) → IsTrue (is_apart r x) → in_run d r ≡ true → in_run (next_dot d) x ≡ false
past_misses_next d r x a h = grind (arith, nat_tests)

-- a dot whose next one is in a run is in none that lies after it
pub before_misses : (d : Dot) (r x : Run) → IsTrue (is_apart r x) → in_run (next_dot d) r ≡ true → in_run d x ≡ false
before_misses d r x a h = grind (arith, nat_tests)

-- an end is a dot of its run
pub end_is_in : (d : Dot) (r : Run) → r.first ≤ r.last → is_end d r ≡ true → in_run d r ≡ true
end_is_in d r w h = grind (arith, nat_tests)

-- one run ends at a dot where it has the dot and not the next
pub end_of_one : (d : Dot) (r : Run) → r.first ≤ r.last → (in_run d r && not (in_run (next_dot d) r)) ≡ is_end d r
end_of_one d r w = grind (arith, nat_tests)

pub apart_trans : (r x y : Run) → IsTrue (is_apart r x) → x.first ≤ x.last → IsTrue (is_apart x y) → IsTrue (is_apart r y)
apart_trans r x y a w b = grind (arith, nat_tests)

-- where a run has the dot, none of those after it has it or the next one
pub rest_misses : (d : Dot) (r : Run) (rs : List Run) → All (λ x. IsTrue (is_apart r x)) rs → in_run d r ≡ true → in_runs rs d ≡ false
rest_misses d r rs a h = list_any_none (in_run d) rs (All-weaker (λ x. IsTrue (is_apart r x)) (λ x. in_run d x ≡ false) (λ x p. past_misses d r x p h) rs a)

pub rest_misses_next : (d : Dot) (r : Run) (rs : List Run) → All (λ x. IsTrue (is_apart r x)) rs → in_run d r ≡ true → in_runs rs (next_dot d) ≡ false
rest_misses_next d r rs a h = list_any_none (in_run (next_dot d)) rs (All-weaker (λ x. IsTrue (is_apart r x)) (λ x. in_run (next_dot d) x ≡ false) (λ x p. past_misses_next d r x p h) rs a)

pub rest_misses_before : (d : Dot) (r : Run) (rs : List Run) → All (λ x. IsTrue (is_apart r x)) rs → in_run (next_dot d) r ≡ true → in_runs rs d ≡ false
rest_misses_before d r rs a h = list_any_none (in_run d) rs (All-weaker (λ x. IsTrue (is_apart r x)) (λ x. in_run d x ≡ false) (λ x p. before_misses d r x p h) rs a)

-- what no run has, none ends with
pub no_end : (d : Dot) (rs : List Run) → AreApart rs → in_runs rs d ≡ false → list_any (is_end d) rs ≡ false
no_end d [] a h = refl
no_end d (r ∷ rs) a h = split (in_run d r) (is_end d r) (in_runs rs d) (list_any (is_end d) rs) (end_is_in d r a.0) (no_end d rs a.2) h
  where
    split : (p e q f : Bool) → (e ≡ true → p ≡ true) → (q ≡ false → f ≡ false) → (p || q) ≡ false → (e || f) ≡ false
    split true e q f k l m = absurd (cc)
    split false true q f k l m = absurd (let z = k refl in cc)
    split false false q f k l m = l m

ends_split : (p p' q q' e f : Bool) → (p && not p') ≡ e → (q && not q') ≡ f → (p ≡ true → q ≡ false) → (p ≡ true → q' ≡ false) → (p' ≡ true → q ≡ false) → (q ≡ false → f ≡ false) → ((p || q) && not (p' || q')) ≡ (e || f)
ends_split true true q q' e f a b c d g h = (let z = h (c refl) in cc)
ends_split true false q q' e f a b c d g h = (let z = d refl in cc)
ends_split false true q q' e f a b c d g h = (let z = h (g refl) in let y = g refl in cc)
ends_split false false q q' e f a b c d g h = cc

-- runs that are apart end where they have a dot and not the next
pub ends_of_apart : (rs : List Run) → AreApart rs → (d : Dot) → (in_runs rs d && not (in_runs rs (next_dot d))) ≡ list_any (is_end d) rs
ends_of_apart [] a d = refl
ends_of_apart (r ∷ rs) a d =
    ends_split (in_run d r) (in_run (next_dot d) r) (in_runs rs d) (in_runs rs (next_dot d)) (is_end d r) (list_any (is_end d) rs)
    (end_of_one d r a.0) (ends_of_apart rs a.2 d) (rest_misses d r rs a.1) (rest_misses_next d r rs a.1) (rest_misses_before d r rs a.1) (no_end d rs a.2)
