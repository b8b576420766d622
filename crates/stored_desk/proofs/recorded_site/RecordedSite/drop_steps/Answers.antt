use Rattle.stored_desk.proofs.Recording.{recorded_dropped}
use Rattle.stored_desk.proofs.recorded_site.RecordedSite.drop_steps.Goals as goal

pub invariant_of-self-2 : goal.invariant_of-self-2
invariant_of-self-2 g c = λ well. recorded_dropped g.L.SiteLedger.base c.self.inside.prefix c.self.inside.journal c.checkpoint.new.self (c.self.invariant well) c.in-Ok.ensures.dropped
