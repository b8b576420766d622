use Rattle.site_peers.specs.Links.{inlet_fault, inlet_source, inlet_stream}
use Rattle.site_peers.proofs.Frames.{frames_of_work}
use Rattle.site_peers.proofs.taking.take_frames.Goals as goal

pub returns-clause-taken : goal.returns-clause-taken
returns-clause-taken g c =
    let pumped = c.pump_in.ensures.pumped in
    let got = frames_of_work (λ inlet. g.S.Source.left (inlet_source inlet)) (λ inlet. inlet_stream inlet) (λ inlet. inlet_fault inlet)
    (λ inlet. g.S.Source.ended (inlet_source inlet)) (λ inlet. g.S.Source.failed (inlet_source inlet)) c.args.inlet.now c.pump_in.new.inlet _ _ pumped.came in
    (pumped.items, pumped.receipts, got.0, got.1, pumped.takes, pumped.work, got.2, got.3)
