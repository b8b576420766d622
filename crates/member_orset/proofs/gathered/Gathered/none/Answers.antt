use Rattle.std.proofs.Common.{[], sym}
use Rattle.std.specs.FinSet as set
use Rattle.dots.specs.Orders.{dot_cmp}
use Rattle.dots.proofs.RunCounts.{run_count_runs}
use Rattle.member_orset.proofs.gathered.Gathered.none.Goals as goal

pub returns-clause-none : goal.returns-clause-none
returns-clause-none c = record {
  counted = sym (run_count_runs [] set.empty (record { apart = tt; same = λ d. set.contains-empty dot_cmp d }));
  kept = λ h. c.new.ensures;
  full = λ h. absurd (cc);
}
