use Rattle.std.proofs.Common.{[], ap, arith, ◌∙◌}
use Rattle.dots.specs.DotSets.{run_count, set_of}
use Rattle.dots.proofs.Runs.{set_of_nil}
use Rattle.causal_context.proofs.Views.{counted}
use Rattle.causal_context.proofs.context.Context.new.Goals as goal

pub invariant_of-result : goal.invariant_of-result
invariant_of-result c = let none = counted [] tt in let same = ap (λ rs. run_count (set_of rs)) c.new.ensures in omega (arith, none, same)

pub returns : goal.returns
returns c = ap set_of c.new.ensures ∙ set_of_nil
