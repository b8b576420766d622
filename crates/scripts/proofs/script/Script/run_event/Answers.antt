use Rattle.std.proofs.lemmas.Result.{IfOk-weaker}
use Rattle.scripts.specs.LineSteps.{place_of}
use Rattle.scripts.proofs.Happening.{event_given}
use Rattle.scripts.proofs.script.Script.run_event.Goals as goal

pub returns-clause-ok : goal.returns-clause-ok
returns-clause-ok c =
    IfOk-weaker c.outcome_text.result _ _
    (λ text is. λ w at. event_given (place_of c.args.self.now) w c.args.event _ c.in_ok-outcome.outcome _ (c.in_ok-outcome.ensures.ok w at) is) c.outcome_text.ensures
