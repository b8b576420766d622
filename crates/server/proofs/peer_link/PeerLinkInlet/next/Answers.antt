use Rattle.std.proofs.Common.{rules, ◌≡◌, ◌∙◌, ◌<◌, ◌∷◌, [], ◌++◌, ap, length}
use Rattle.site_links.specs.Links.{Receiving}
use Rattle.server.specs.PeerLinks.{frames_among}
use Rattle.server.proofs.FrameLemmas.{frames_mark, frames_next}
use Rattle.server.proofs.peer_link.PeerLinkInlet.next.Goals as goal

-- a frame
pub returns-then-not-is_empty-clause-given : goal.returns-then-not-is_empty-clause-given
returns-then-not-is_empty-clause-given g c =
    let item = c.in-Some-recv.item in
    let some : 0 < length item = search rules in
    ap (λ (r : Receiving). frames_among r.received) c.in-Some-recv.ensures.received
    ∙ frames_next c.loop.self.link.received item some
    ∙ ap (λ l. l ++ item ∷ []) (c.loop.invariant ∙ ap (λ (r : Receiving). frames_among r.received) c.note_first.ensures)

-- a mark
pub loop-preserved : goal.loop-preserved
loop-preserved g c =
    let item = c.in-Some-recv.item in
    let none : length item ≡ 0 = search rules in
    ap (λ (r : Receiving). frames_among r.received) c.pass_mark.ensures
    ∙ ap (λ (r : Receiving). frames_among r.received) c.in-Some-recv.ensures.received
    ∙ frames_mark c.loop.self.link.received item none ∙ c.loop.invariant
