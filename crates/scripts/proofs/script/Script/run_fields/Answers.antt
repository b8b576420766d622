use Rattle.std.proofs.Common.{◌∙◌, ap, Ok, refl}
use Rattle.std.proofs.lemmas.Result.{IfOk-weaker}
use Rattle.scripts.proofs.Replying.{output_message, output_none}
use Rattle.scripts.specs.LineSteps.{place_of}
use Rattle.scripts.proofs.script.Script.run_fields.Goals as goal

pub returns-in_default-clause-ok : goal.returns-in_default-clause-ok
returns-in_default-clause-ok c =
    IfOk-weaker c.not_understood.result _ _
    (λ output is. λ w at. output_none (place_of c.args.self.now) w c.args.number c.args.site c.args.fields.now c.args.self.now.world output
    (c.message_of.ensures.none (c.in_ok-message.was ∙ ap Ok c.in_default.is)) at is) c.not_understood.ensures

pub returns-clause-ok : goal.returns-clause-ok
returns-clause-ok c = λ w at.
    output_message (place_of c.args.self.now) w c.args.number c.args.site c.args.fields.now c.in-Some.message c.run_message.new.self.world _
    (rw c.in-Some.is at c.in_ok-message.ensures.one) (c.in_ok-text.ensures.ok w at) refl
