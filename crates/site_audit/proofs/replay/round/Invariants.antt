use Rattle.site_audit.proofs.Ends.{InRound}
use Rattle.site_audit.proofs.replay.round.Given as goal

-- the sites so far had their turn
abbrev pub invariant-loop-place : goal.invariant-loop-place
invariant-loop-place l = InRound l.journals l.fn.replay l.replay l.more l.place
