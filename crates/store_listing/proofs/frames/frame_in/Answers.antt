use Rattle.std.proofs.Common.{rules, inr, refl}
use Rattle.store_listing.proofs.frames.frame_in.Goals as goal

-- more bytes follow the frame
pub returns-then-len-bytes-clause-fault : goal.returns-then-len-bytes-clause-fault
returns-then-len-bytes-clause-fault c = inr (inr (refl, record { frame = c.in_ok-frame.frame; len = c.in_ok-frame.len; spelled = c.in_ok-frame.ensures.front.spelled; more = search rules }))
