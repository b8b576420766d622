use Rattle.std.proofs.Common.{take}
use Rattle.site_journal.specs.Settling.{IsLeastPass}
use Rattle.site_journal.proofs.settling.least_pass.Given as goal

-- the least pass is that of the steps so far
abbrev pub invariant-loop-step : goal.invariant-loop-step
invariant-loop-step l = IsLeastPass l.from (take l.step-index l.steps) l.found
