use Rattle.std.proofs.Common.{arith}
use Rattle.site_audit.proofs.Ends.{round_on}
use Rattle.site_audit.proofs.replay.round.Goals as goal

pub loop-place-preserved : goal.loop-place-preserved
loop-place-preserved c =
    round_on c.args.journals.now c.args.replay.now c.loop-place.replay c.play.new.replay c.loop-place.more c.in_ok-played.played c.loop-place.place c.loop-place.invariant c.in_ok-played.ensures

pub returns-clause-none : goal.returns-clause-none
returns-clause-none c = λ e site lt. c.loop-place.invariant.none e site (omega (arith, lt))
