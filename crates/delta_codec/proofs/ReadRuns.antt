-- The runs that were read are those of the context that keeps them.
use Rattle.std.proofs.Common.{◌≡◌, ℕ, ◌+◌, ◌≤◌, List, [], ◌∷◌, ◌++◌, length, Option, Some, None, refl, sym, ap, subst, ◌∙◌, arith}
use Rattle.std.specs.Prelude.{fold}
use Rattle.std.specs.FinSet as set
use Rattle.std.specs.List.{AllByRecursion}
use Rattle.std.proofs.lemmas.List.{length-append}
use Rattle.dots.specs.declared.limits.TheConstants.{MOST_RUNS}
use Rattle.dots.specs.DotSets.{Run, is_apart, run_count}
use Rattle.dots.specs.Orders.{dot_cmp}
use Rattle.dots.proofs.RunCounts.{run_count_runs}
use Rattle.causal_context.specs.Contexts.{IsRunWithinLimits}
use Rattle.delta_codec.specs.Reading.{Elements, known_of, order_fault, run_elements, with_run}
use Rattle.delta_codec.proofs.ContentLaws.{contains_known_of}
use Rattle.delta_codec.proofs.ListLaws.{Chain, are_apart, last_key}

-- one element more
each_more : {A : Type 0} (G : A → Type 0) (xs : List A) (x : A) → AllByRecursion G xs → G x → AllByRecursion G (xs ++ x ∷ [])
each_more G [] x each good = (good, tt)
each_more G (y ∷ ys) x each good = (each.0, each_more G ys x each.1 good)

chain_more : {A K : Type 0} (e : Elements A K) (last : Option K) (xs : List A) (x : A) → Chain e last xs → e.fault_of (last_key e last xs) (e.key x) ≡ None → Chain e last (xs ++ x ∷ [])
chain_more e last [] x chain next = (next, tt)
chain_more e last (y ∷ ys) x chain next = (chain.0, chain_more e (Some (e.key y)) ys x chain.1 next)

last_more : {A K : Type 0} (e : Elements A K) (last : Option K) (xs : List A) (x : A) → last_key e last (xs ++ x ∷ []) ≡ Some (e.key x)
last_more e last [] x = refl
last_more e last (y ∷ ys) x = last_more e (Some (e.key y)) ys x

kept_more : {A D : Type 0} (step : D → A → D) (d : D) (xs : List A) (x : A) → fold step d (xs ++ x ∷ []) ≡ step (fold step d xs) x
kept_more step d [] x = refl
kept_more step d (y ∷ ys) x = kept_more step (step d y) ys x

-- the dots are those of a number of runs, each after the one before, the last of which is given
pub record AreRead (last : Option Run) (dots : set.FinSet dot_cmp) (count : ℕ) : Type 0 where
  pub runs : List Run
  pub each : AllByRecursion IsRunWithinLimits runs
  pub chain : Chain run_elements None runs
  pub last_is : last_key run_elements None runs ≡ last
  pub dots_are : known_of runs ≡ dots
  pub counted : length runs ≡ count

pub none_read : (dots : set.FinSet dot_cmp) → dots ≡ set.empty → AreRead None dots 0
none_read dots empty = record { runs = []; each = tt; chain = tt; last_is = refl; dots_are = sym empty; counted = refl }

pub one_more : (last : Option Run) (dots : set.FinSet dot_cmp) (count : ℕ) (run : Run) → AreRead last dots count → IsRunWithinLimits run → order_fault is_apart last run ≡ None → AreRead (Some run) (with_run dots run) (count + 1)
one_more last dots count run read good order = record {
  runs = read.runs ++ run ∷ [];
  each = each_more IsRunWithinLimits read.runs run read.each good;
  chain = chain_more run_elements None read.runs run read.chain (ap (λ o. order_fault is_apart o run) read.last_is ∙ order);
  last_is = last_more run_elements None read.runs run;
  dots_are = kept_more with_run set.empty read.runs run ∙ ap (λ d. with_run d run) read.dots_are;
  counted = omega (arith, length-append read.runs (run ∷ []), read.counted);
}

-- the dots have no more runs than were read
pub few_runs : (last : Option Run) (dots : set.FinSet dot_cmp) (count : ℕ) → AreRead last dots count → count ≤ MOST_RUNS → run_count dots ≤ MOST_RUNS
few_runs last dots count read few =
    let same = run_count_runs read.runs (known_of read.runs) (record { apart = are_apart read.runs read.each read.chain; same = contains_known_of read.runs }) in
    subst (λ (d : set.FinSet dot_cmp). run_count d ≤ MOST_RUNS) read.dots_are (omega (arith, same, read.counted, few))
