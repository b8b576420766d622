use Rattle.std.proofs.Common.{◌∙◌}
use Rattle.site_pumps.proofs.UnderWay.{no_frame, cut_is_no_whole, one_burst, broken_burst, no_burst}
use Rattle.site_pumps.proofs.outgoing.Outgoing.send_cut.Goals as goal

pub returns-in_default-clause-ok : goal.returns-in_default-clause-ok
returns-in_default-clause-ok g c = λ start w. no_frame g.O.Outlet.given _ _ c.args.receipt.now _ _ _ _ c.in_default.ensures (cut_is_no_whole c.args.receipt.now c.requires.cut) w

pub returns-in_default-frames_to_send-clause-err : goal.returns-in_default-frames_to_send-clause-err
returns-in_default-frames_to_send-clause-err g c = λ start w. no_burst g.O.Outlet.given _ _ _ _ _ _ _ _ c.requires.cut c.in-Some.ensures w

pub returns-in-Ok-send_each-clause-ok : goal.returns-in-Ok-send_each-clause-ok
returns-in-Ok-send_each-clause-ok g c = λ start w. one_burst g.O.Outlet.given _ _ _ _ _ _ _ _ _ _ _ _ c.requires.cut c.in-Some.ensures c.deed_of-deed.ensures (c.as_slice.ensures.value ∙ c.in-Ok.ensures.sent) c.in-Ok.ensures.held w c.in-Ok-send_each.ensures.ok

pub returns-clause-err : goal.returns-clause-err
returns-clause-err g c = λ start w. broken_burst g.O.Outlet.given _ _ _ _ _ _ _ _ _ _ _ c.requires.cut c.in-Some.ensures c.deed_of-deed.ensures (c.as_slice.ensures.value ∙ c.in-Ok.ensures.sent) w c.in-Err.ensures.err
