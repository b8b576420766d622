use Rattle.std.proofs.Common.{rules, ◌∷◌, [], refl}
use Rattle.site_pumps.specs.Outlets.{OutletRun}
use Rattle.site_pumps.proofs.GivenItems.{outlets_begun_at}
use Rattle.site_pumps.proofs.Carrying.{at_first, at_last, on_err, one_more}
use Rattle.site_pumps.proofs.sending.send_item.Goals as goal

pub loop-i-init : goal.loop-i-init
loop-i-init g c = at_first _ _

pub returns-in_err-send-clause-err : goal.returns-in_err-send-clause-err
returns-in_err-send-clause-err g c = on_err c.from_residual.result (outlets_begun_at _ _ _ _ _ _ _ c.in_err-send.ensures.err c.loop-i.invariant)

pub loop-i-preserved : goal.loop-i-preserved
loop-i-preserved g c = one_more (OutletRun g.O.Outlet.given (c.args.item.now ∷ [])) _ _ _ _ _ (search rules) (_, c.in_ok-send.ensures.given, refl) c.loop-i.invariant

pub returns-clause-ok : goal.returns-clause-ok
returns-clause-ok g c = at_last _ _ _ _ (search rules) c.loop-i.invariant
