use Rattle.std.proofs.Common.{◌≡◌, rules, sym, subst}
use Rattle.std.proofs.lemmas.Result.{on_err_weaker, on_ok_weaker}
use Rattle.site_peers.specs.Meetings.{HasDialed}
use Rattle.site_peers.proofs.SentLinks.{link_begun, link_sent}
use Rattle.site_peers.proofs.sending.send_link.Goals as goal

-- all items follow the hello
pub returns-clause-sent : goal.returns-clause-sent
returns-clause-sent g c =
    let met = subst (λ t. HasDialed (g.S.Source.left c.args.source.now) (g.S.Source.left c.meet_acceptor.new.source) (g.W.Sink.taken c.args.sink.now) t c.args.key.now c.args.nonce.now c.args.own.now c.in_ok-site.field-0) (sym c.begin-2.ensures.taken)
    c.in_ok-site.ensures.met in
    let sender : c.new-sender.result ≡ record { key = c.in_ok-site.field-0.keys.items; sent = 0 } = search rules in
    let begun : g.Q.ItemQueue.begins c.args.queue.now c.in_ok-site.field-0.site c.begin.new.self = search rules in
    on_ok_weaker c.send_items-ended.result (λ all. (all.0, c.in_ok-site.field-0.site, c.begin.new.self, all.1, begun, all.2, all.3, link_sent _ _ _ _ _ _ _ _ _ met _ _ all.0 sender all.4)) c.send_items-ended.ensures.sent

-- a prefix of the items follows the hello
pub returns-clause-begun : goal.returns-clause-begun
returns-clause-begun g c =
    let met = subst (λ t. HasDialed (g.S.Source.left c.args.source.now) (g.S.Source.left c.meet_acceptor.new.source) (g.W.Sink.taken c.args.sink.now) t c.args.key.now c.args.nonce.now c.args.own.now c.in_ok-site.field-0) (sym c.begin-2.ensures.taken)
    c.in_ok-site.ensures.met in
    let sender : c.new-sender.result ≡ record { key = c.in_ok-site.field-0.keys.items; sent = 0 } = search rules in
    let begun : g.Q.ItemQueue.begins c.args.queue.now c.in_ok-site.field-0.site c.begin.new.self = search rules in
    on_err_weaker c.send_items-ended.result (λ some. (some.0, c.in_ok-site.field-0.site, c.begin.new.self, begun, some.1, link_begun _ _ _ _ _ _ _ _ _ met _ some.0 sender some.2)) c.send_items-ended.ensures.begun
