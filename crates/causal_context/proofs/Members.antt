-- What a run that is in a list says of the dots that the list has.
use Rattle.std.proofs.Common.{◌≡◌, ℕ, suc, zero, ◌≤◌, ◌<◌, Bool, true, false, not, ◌&&◌, ◌||◌, List, [], ◌∷◌, length, get_or, refl, sym, ap, subst, ◌∙◌, inl, inr, arith}
use Rattle.std.specs.List.{All, Contains, list_any}
use Rattle.std.specs.List.Sorted.{IsPartitionPoint}
use Rattle.std.specs.FinSet as sets
use Rattle.std.proofs.lemmas.Bool.{cases_Bool}
use Rattle.std.proofs.lemmas.Bool.Decides.{nat_tests}
use Rattle.std.proofs.lemmas.List.Folds.{list_any_at}
use Rattle.std.proofs.lemmas.List.Elements.{Contains-get_or}
use Rattle.dots.specs.Values.{Dot}
use Rattle.dots.specs.Orders.{dot_cmp}
use Rattle.dots.specs.DotSets.{Run, in_run, in_runs, AreApart, IsRunsOf, first_dot, last_dot, next_dot}
use Rattle.dots.proofs.Apart.{is_end, ends_of_apart, rest_misses_before, rest_misses_next}
use Rattle.causal_context.specs.RunLists.{is_below}
use Rattle.causal_context.proofs.Places.{apart_whole, at_no_place, at_place}

any_of_one : (p : Run → Bool) (rs : List Run) (r : Run) → Contains rs r → p r ≡ true → list_any p rs ≡ true
any_of_one p rs r m h = list_any_at p rs m.0 r m.1 (ap p m.2 ∙ h)

-- the list has what one of its runs has
pub has_of_run : (rs : List Run) (r : Run) (d : Dot) → Contains rs r → in_run d r ≡ true → in_runs rs d ≡ true
has_of_run rs r d m h = any_of_one (in_run d) rs r m h

-- a list of runs hasn't the dot past the end of one of its runs
pub misses_past_run : (rs : List Run) (r : Run) → AreApart rs → Contains rs r → in_runs rs (next_dot (last_dot r)) ≡ false
misses_past_run rs r a m = second _ _ (ends_of_apart rs a (last_dot r) ∙ any_of_one (is_end (last_dot r)) rs r m (own r))
  where
    own : (r : Run) → is_end (last_dot r) r ≡ true
    own r = grind (arith, nat_tests)

    second : (p q : Bool) → (p && not q) ≡ true → q ≡ false
    second true true h = sym h
    second true false h = refl
    second false q h = absurd (cc)

-- the dot before a run is in none
before_run : (rs : List Run) (k : ℕ) (e : Run) (d : Dot) → AreApart rs → k < length rs → in_run (next_dot d) (get_or rs k e) ≡ true → in_run d (get_or rs k e) ≡ false → in_runs rs d ≡ false
before_run [] k e d a l h m = refl
before_run (x ∷ rs) zero e d a l h m = ap (λ b. b || in_runs rs d) m ∙ rest_misses_before d x rs a.1 h
before_run (x ∷ rs) (suc k) e d a l h m =
    elim (cases_Bool (in_run d x)) [
      | inl y ↦ absurd (let p = rest_misses_next d x rs a.1 y in let q = list_any_at (in_run (next_dot d)) rs k e (omega arith) h in cc)
      | inr n ↦ ap (λ b. b || in_runs rs d) n ∙ before_run rs k e d a.2 (omega arith) h m
    ]

-- whether a list has a dot is settled at the dot's place
pub at_the_place : (d : Dot) (runs items : List Run) (i : ℕ) (e : Run) → runs ≡ items → AreApart runs → IsPartitionPoint (λ r. is_below d r ≡ true) (λ r. is_below d r ≡ false) items i → i < length runs → e ≡ get_or runs i e
    → in_runs items d ≡ in_run d e
at_the_place d runs items i e same a point l is =
    let here = subst (λ xs. IsPartitionPoint (λ r. is_below d r ≡ true) (λ r. is_below d r ≡ false) xs i) (sym same) point in
    sym (ap (λ xs. in_runs xs d) same) ∙ at_place d runs i e a l here.0 (here.1 i e (omega arith) l) ∙ ap (in_run d) (sym is)

pub at_the_end : (d : Dot) (runs items : List Run) (i : ℕ) → runs ≡ items → IsPartitionPoint (λ r. is_below d r ≡ true) (λ r. is_below d r ≡ false) items i → i ≡ length runs → in_runs items d ≡ false
at_the_end d runs items i same point e = at_no_place d items (λ k x low h. point.0 k x low (omega (arith, h, e, ap length same)))

-- the runs of a set are its longest runs: the dots beside them are not in the set
pub nothing_past : (rs : List Run) (dots : sets.FinSet dot_cmp) → IsRunsOf rs dots → All (λ r. sets.contains dots (next_dot (last_dot r)) ≡ false) rs
nothing_past rs dots is k e l = is.same (next_dot (last_dot (get_or rs k e))) ∙ misses_past_run rs (get_or rs k e) is.apart (Contains-get_or rs k e l)

pub nothing_before : (rs : List Run) (dots : sets.FinSet dot_cmp) → IsRunsOf rs dots → All (λ r. (d : Dot) → next_dot d ≡ first_dot r → sets.contains dots d ≡ false) rs
nothing_before rs dots is k e l d h =
    is.same d ∙ before_run rs k e d is.apart l (ap (λ q. in_run q (get_or rs k e)) h ∙ first_in (get_or rs k e) (apart_whole rs is.apart k e l)) (before_first d (get_or rs k e) (ap (λ q. q.count) h))
  where
    first_in : (r : Run) → r.first ≤ r.last → in_run (first_dot r) r ≡ true
    first_in r w = grind (arith, nat_tests)

    before_first : (d : Dot) (r : Run) → suc d.count ≡ r.first → in_run d r ≡ false
    before_first d r h = grind (arith, nat_tests)
