use Rattle.std.proofs.Common.{◌≡◌, ◌≤◌, ◌-◌, true, length}
use Rattle.std.specs.List.{AllWithin}
use Rattle.causal_context.specs.RunLists.{is_below}
use Rattle.member_orset.proofs.site_walk.SiteWalk.run_at.Given as goal

abbrev pub invariant-loop-passed : goal.invariant-loop-passed
invariant-loop-passed l = record {
  within : l.passed ≤ length l.runs;
  before : AllWithin (λ r. is_below l.dot r ≡ true) l.runs 0 l.passed;
}

abbrev pub decreases-loop-passed : goal.decreases-loop-passed
decreases-loop-passed l = length l.runs - l.passed
