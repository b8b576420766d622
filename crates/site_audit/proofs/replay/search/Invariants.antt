use Rattle.std.proofs.Common.{length, ◌≤◌}
use Rattle.site_audit.specs.Replays.{IsReplay}
use Rattle.site_audit.proofs.replay.search.Given as goal

-- each round has placed a step
abbrev pub invariant-loop : goal.invariant-loop
invariant-loop l = record { kept : IsReplay l.journals l.replay; many : l.counter ≤ length l.replay.events.items }
