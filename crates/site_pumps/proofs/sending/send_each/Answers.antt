use Rattle.std.proofs.Common.{rules, subst, sym}
use Rattle.site_pumps.specs.Carried.{EachLink}
use Rattle.site_pumps.specs.Outlets.{OutletBegins, OutletRun}
use Rattle.site_pumps.proofs.Carrying.{on_err, taken, taken_all}
use Rattle.site_pumps.proofs.GivenItems.{each_begun_longer, each_given_begun, each_given_more, each_given_none}
use Rattle.site_pumps.proofs.sending.send_each.Goals as goal

pub loop-item-init : goal.loop-item-init
loop-item-init g c = each_given_none g.O.Outlet.given _

pub returns-in_err-send_item-clause-err : goal.returns-in_err-send_item-clause-err
returns-in_err-send_item-clause-err g c =
    on_err c.from_residual.result (subst (λ l. EachLink (OutletBegins g.O.Outlet.given l) c.args.outlets.now c.send_item.new.outlets) (taken_all _ _ _ (search rules) c.item-item.is)
    (each_begun_longer g.O.Outlet.given _ _ _ _ (each_given_begun g.O.Outlet.given _ _ _ _ _ c.loop-item.invariant c.in_err-send_item.ensures.err)))

pub loop-item-preserved : goal.loop-item-preserved
loop-item-preserved g c =
    subst (λ l. EachLink (OutletRun g.O.Outlet.given l) c.args.outlets.now c.send_item.new.outlets) (sym (taken _ _ _ (search rules) c.item-item.is)) (each_given_more g.O.Outlet.given _ _ _ _ _ c.loop-item.invariant c.in_ok-send_item.ensures.ok)
