use Rattle.std.proofs.Common.{◌-◌, ◌<◌, ℕ, length}
use Rattle.site_audit.specs.Ending.{HasAllSteps}
use Rattle.site_audit.proofs.auditing.least_left.Given as goal

-- each site so far has all its steps
abbrev pub invariant-loop-place : goal.invariant-loop-place
invariant-loop-place l = (site : ℕ) → site < l.place → HasAllSteps l.journals l.at site

abbrev pub decreases-loop-place : goal.decreases-loop-place
decreases-loop-place l = length l.journals - l.place
