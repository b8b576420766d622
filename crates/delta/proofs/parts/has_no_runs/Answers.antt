use Rattle.std.proofs.Common.{◌≡◌, ◌==◌, ℕ, true, List, [], ◌∷◌, length, sym, ap, ◌∙◌, arith}
use Rattle.std.specs.FinSet as set
use Rattle.std.proofs.lemmas.Bool.Decides.{nat_tests}
use Rattle.dots.specs.Orders.{dot_cmp}
use Rattle.dots.specs.DotSets.{IsRunsOf, Run}
use Rattle.dots.proofs.Runs.{set_of_nil, set_of_runs}
use Rattle.dots.proofs.UniqueRuns.{runs_unique}
use Rattle.delta.proofs.parts.has_no_runs.Goals as goal

no_dots : (runs : List Run) (dots : set.FinSet dot_cmp) → IsRunsOf runs dots → length runs ≡ 0 → dots ≡ set.empty
no_dots [] dots h e = sym (set_of_runs [] dots h) ∙ set_of_nil
no_dots (r ∷ runs) dots h e = absurd (omega arith)

no_runs : (runs : List Run) (dots : set.FinSet dot_cmp) → IsRunsOf runs dots → dots ≡ set.empty → length runs ≡ 0
no_runs runs dots h e = ap length (runs_unique runs [] dots h (record { apart = tt; same = λ d. ap (λ s. set.contains s d) e ∙ set.contains-empty dot_cmp d }))

zero_of : (n : ℕ) → (n == 0) ≡ true → n ≡ 0
zero_of n h = grind (arith, nat_tests)

pub returns : goal.returns
returns c = (
  λ h. no_dots c.as_slice.result.now c.args.context.now.dots c.as_slice.ensures.value (zero_of (length c.as_slice.result.now) (sym c.is_empty.ensures ∙ h)),
  λ e. c.is_empty.ensures ∙ ap (λ n. n == 0) (no_runs c.as_slice.result.now c.args.context.now.dots c.as_slice.ensures.value e),
)
