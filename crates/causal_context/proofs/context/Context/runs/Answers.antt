use Rattle.std.proofs.Common.{◌≡◌, ◌≤◌, true, List, sym, subst, ◌∙◌, arith}
use Rattle.std.specs.FinSet as sets
use Rattle.std.specs.List.{All}
use Rattle.std.proofs.lemmas.Bool.Decides.{nat_tests}
use Rattle.std.proofs.lemmas.List.Elements.{All-contains}
use Rattle.dots.specs.DotSets.{Run, IsRunsOf, in_run}
use Rattle.dots.specs.Orders.{dot_cmp}
use Rattle.dots.specs.Values.{Dot, IsSite}
use Rattle.dots.specs.WithinLimits.{AreDots, IsDot}
use Rattle.general_lemmas.proofs.Membership.{in_any}
use Rattle.dots.proofs.RunCounts.{run_count_runs}
use Rattle.causal_context.specs.Contexts.{IsRunWithinLimits}
use Rattle.causal_context.proofs.context.Context.runs.Goals as goal

-- a dot of a run that is within the limits is
of_run : (q : Dot) (r : Run) → IsRunWithinLimits r → in_run q r ≡ true → IsDot q
of_run q r limits h = record {
  site = subst IsSite (same_site q r h) limits.site;
  count = let first = limits.least in let last = limits.most in let from = least q r h in let to = most q r h in (omega (arith, first, from), omega (arith, last, to));
}
  where
    same_site : (q : Dot) (r : Run) → in_run q r ≡ true → r.site ≡ q.site
    same_site q r h = grind (arith, nat_tests)

    least : (q : Dot) (r : Run) → in_run q r ≡ true → r.first ≤ q.count
    least q r h = grind (arith, nat_tests)

    most : (q : Dot) (r : Run) → in_run q r ≡ true → q.count ≤ r.last
    most q r h = grind (arith, nat_tests)

-- each dot of runs within the limits is within the limits
are_dots : (rs : List Run) (dots : sets.FinSet dot_cmp) → IsRunsOf rs dots → All IsRunWithinLimits rs → AreDots dots
are_dots rs dots is limits q h = let found = in_any (in_run q) rs (sym (is.same q) ∙ h) in of_run q found.0 (All-contains IsRunWithinLimits rs found.0 limits found.1) found.2

pub returns-clause-value : goal.returns-clause-value
returns-clause-value c = sym (run_count_runs c.as_slice.result.now c.args.self.now.dots c.as_slice.ensures.value)

pub returns-clause-dots : goal.returns-clause-dots
returns-clause-dots c = are_dots c.as_slice.result.now c.args.self.now.dots c.as_slice.ensures.value c.as_slice.ensures.limits
