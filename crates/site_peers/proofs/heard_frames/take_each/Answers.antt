use Rattle.std.proofs.Common.{◌∙◌, [], ◌∷◌, ◌++◌, refl}
use Rattle.site_peers.proofs.Turns.{one_more}
use Rattle.site_peers.proofs.heard_frames.take_each.Goals as goal

pub loop-init : goal.loop-init
loop-init g c = (([], refl), refl)

-- a frame was dropped
pub loop-preserved : goal.loop-preserved
loop-preserved g c = let was = c.loop.invariant.0 in let taken = c.take_frames-fault.ensures.taken in (
  (was.0 ++ (taken.1, c.take_frames-fault.result.fault) ∷ [], one_more g.P.Port.makes g.P.Port.refuses was.0 taken.1 c.take_frames-fault.result.fault _ _ _ was.1 taken.5),
  c.take_frames-fault.ensures.ordinal ∙ c.loop.invariant.1,
)

-- the link has ended, or a frame was refused
pub returns-in_default-clause-works : goal.returns-in_default-clause-works
returns-in_default-clause-works g c = let was = c.loop.invariant.0 in let taken = c.take_frames-fault.ensures.taken in
    (was.0 ++ (taken.1, c.take_frames-fault.result.fault) ∷ [], one_more g.P.Port.makes g.P.Port.refuses was.0 taken.1 c.take_frames-fault.result.fault _ _ _ was.1 taken.5)
