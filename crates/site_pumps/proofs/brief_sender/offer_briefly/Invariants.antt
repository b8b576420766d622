use Rattle.std.proofs.Common.{◌≡◌}
use Rattle.site_pumps.proofs.brief_sender.offer_briefly.Given as goal

-- nothing was sent, and the bytes are there
abbrev pub invariant-loop-turn : goal.invariant-loop-turn
invariant-loop-turn g l = (l.link.link ≡ l.initial.link.link) × (l.link.sent ≡ l.initial.link.sent) × (l.bytes ≡ l.fn.bytes)
