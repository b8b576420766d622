use Rattle.std.proofs.Common.{IfSome, subst, ◌≡◌}
use Rattle.link_stream.specs.Items.{IsItem, item_bytes}
use Rattle.link_stream.specs.Tagged.{TakesTagged}
use Rattle.site_peers.proofs.ReceivedItems.{received_held}
use Rattle.site_peers.proofs.receiving.advance.Goals as goal

-- an item was held
pub returns-in-Ok-Some-clause-item : goal.returns-in-Ok-Some-clause-item
returns-in-Ok-Some-clause-item g c =
    let e = subst (λ next. IfSome next (λ item. IsItem item × (c.recv.new.source ≡ c.args.source.now) × TakesTagged c.args.receiver.now.stream (item_bytes item) c.recv.new.self.stream)) c.in-Ok-Some.field-0-is c.in-Ok-Some.ensures.item in
    (e.0, received_held g.S.Source.left _ _ _ _ _ e.1 e.2)
