use Rattle.std.proofs.Common.{Ok, ap}
use Rattle.site_peers.proofs.ReceivedItems.{beats_none, beats_read, item_after}
use Rattle.site_peers.proofs.receiving.next_frame.Goals as goal

-- nothing yet
pub loop-init : goal.loop-init
loop-init g c = (beats_none _ _, c.requires.source, c.requires.receiver)

-- a frame
pub returns-in-Ok-Some-Frame-clause-given : goal.returns-in-Ok-Some-Frame-clause-given
returns-in-Ok-Some-Frame-clause-given g c =
    let done = item_after _ _ _ _ _ _ _ _ _ c.loop.invariant.0 c.in-Ok-Some-Frame.field-0-is c.in-Ok-Some-Frame.field-0-0-is c.in-Ok-Some-Frame.ensures.item in done

-- a beat
pub loop-preserved-in-Ok-Some-Beat : goal.loop-preserved-in-Ok-Some-Beat
loop-preserved-in-Ok-Some-Beat g c =
    let done = item_after _ _ _ _ _ _ _ _ _ c.loop.invariant.0 c.in-Ok-Some-Beat.field-0-is c.in-Ok-Some-Beat.field-0-0-is c.in-Ok-Some-Beat.ensures.item in
    (done, c.in-Ok-Some-Beat.ensures.works.0, c.in-Ok-Some-Beat.ensures.works.1)

-- a read
pub loop-preserved : goal.loop-preserved
loop-preserved g c =
    (beats_read _ _ _ _ _ _ c.loop.invariant.0 (c.in-Ok-None.ensures.none (ap (λ next. Ok next) c.in-Ok-None.field-0-is)), c.in-Ok-None.ensures.works.0, c.in-Ok-None.ensures.works.1)
