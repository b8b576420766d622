use Rattle.std.proofs.Common.{◌≡◌, ◌∙◌, ap, subst, sym}
use Rattle.ami_text.specs.Devices.{HasTaken}
use Rattle.link_stream.specs.Items.{item_bytes}
use Rattle.link_stream.specs.Tagged.{tagged}
use Rattle.site_peers.proofs.Items.{begun_or_none, none_begun}
use Rattle.site_peers.proofs.sending.send_item.Goals as goal

-- a frame that was not sent: a prefix of it was written, or nothing
pub returns-in-Frame-clause-begun : goal.returns-in-Frame-clause-begun
returns-in-Frame-clause-begun g c =
    let bytes : c.as_slice.result.now ≡ item_bytes c.args.item.now = c.as_slice.ensures ∙ ap item_bytes (sym c.in-Frame.is) in
    begun_or_none (g.W.Sink.failed c.send_frame.new.sink) c.send_frame.result _ c.send_frame.ensures.fails c.send_frame.ensures.unwritten
    (λ failed. subst (λ b. HasTaken (g.W.Sink.taken c.args.sink.now) (g.W.Sink.taken c.send_frame.new.sink) (tagged c.args.sender.now.key c.args.sender.now.sent b)) bytes (c.send_frame.ensures.begun failed))
    (λ same. subst (λ s. HasTaken (g.W.Sink.taken c.args.sink.now) (g.W.Sink.taken s) (tagged c.args.sender.now.key c.args.sender.now.sent (item_bytes c.args.item.now))) (sym same.0)
    (none_begun (g.W.Sink.taken c.args.sink.now) (tagged c.args.sender.now.key c.args.sender.now.sent (item_bytes c.args.item.now))))
