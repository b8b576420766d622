use Rattle.std.proofs.Common.{refl}
use Rattle.scripts.specs.LineSteps.{place_of}
use Rattle.scripts.proofs.Happening.{one_happened}
use Rattle.scripts.proofs.script.Script.happen.Goals as goal

pub returns-in_default-clause-ok : goal.returns-in_default-clause-ok
returns-in_default-clause-ok c = λ w at.
    one_happened c.events_are_run_in_parts.ensures.leads (place_of c.args.self.now) c.args.self.now.world c.happen.new.self w c.args.event c.happen.result refl c.happen.ensures.names c.happen.ensures.count at
    (c.happen.ensures.meaning w at.reached at.stands) c.in_default.not-NoMemory
