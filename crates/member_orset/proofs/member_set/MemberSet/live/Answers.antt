use Rattle.std.proofs.Common.{◌≤◌, subst, arith}
use Rattle.dots.specs.declared.limits.TheConstants.{MOST_RUNS}
use Rattle.dots.specs.DotSets.{run_count}
use Rattle.member_orset.specs.Members.{IsWithinLimits}
use Rattle.member_orset.proofs.KeptSets.{set_within}
use Rattle.member_orset.proofs.member_set.MemberSet.live.Goals as goal

pub returns-clause-limits : goal.returns-clause-limits
returns-clause-limits c =
    let value = c.runs.ensures.value in
    let limit = c.runs.ensures.limit in
    let few : run_count c.self.inside.context.dots ≤ MOST_RUNS = omega (arith, value, limit) in
    subst IsWithinLimits c.self.view_is (set_within c.self.inside.context c.self.inside.cells few c.runs.ensures.dots c.len.ensures.limits c.self.invariant)
