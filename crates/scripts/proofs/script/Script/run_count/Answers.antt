use Rattle.std.proofs.Common.{◌≡◌, ◌∙◌, List, ℕ, None, Option, subst, sym}
use Rattle.std.proofs.lemmas.Result.{IfOk-weaker}
use Rattle.ami_session.specs.FieldValues.{name_of}
use Rattle.scripts.specs.LineSteps.{StandsForGiven, place_of}
use Rattle.scripts.specs.Script.{given_by_count}
use Rattle.scripts.proofs.script.Script.run_count.Goals as goal

pub returns-in-None-clause-ok : goal.returns-in-None-clause-ok
returns-in-None-clause-ok c =
    let none : name_of c.args.queue.now ≡ None = sym c.queue_of.ensures ∙ c.in-None.is in
    IfOk-weaker c.no_queue_text.result _ _
    (λ text is. λ w at.
    subst (λ (name : Option (List ℕ)). StandsForGiven (given_by_count (place_of c.args.self.now) w c.args.site c.args.calls name) c.args.self.now.world text.items) (sym none)
    (record { stands = at; is = is })) c.no_queue_text.ensures
