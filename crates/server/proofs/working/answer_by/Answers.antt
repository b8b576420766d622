use Rattle.std.proofs.Common.{rules, ◌≡◌, ◌∙◌, ap, refl}
use Rattle.pass_desk.specs.PassDesks.{AnswersByPass}
use Rattle.pass_desk.specs.RingingDesks.{inner_desk}
use Rattle.pass_desk.specs.declared.ringing_desk.RingingDesk.{RingingDesk}
use Rattle.site_desk.specs.Passes.{PassState}
use Rattle.serving_clients.proofs.AnsweringLemmas.{clients_keep}
use Rattle.server.proofs.working.answer_by.Goals as goal

-- each answer keeps the number of the pass, and so does each refusal
pub returns : goal.returns
returns g c =
    let kept = clients_keep
    (λ (d : RingingDesk PassState) ask answer (e : RingingDesk PassState). AnswersByPass g.L.SiteLedger.site g.L.SiteLedger.names (inner_desk d) ask answer (inner_desk e))
    (λ (d : RingingDesk PassState) ask (e : RingingDesk PassState). inner_desk e ≡ inner_desk d)
    (λ (d e : RingingDesk PassState). (inner_desk e).ordinal ≡ (inner_desk d).ordinal)
    (λ d. refl) (λ d mid e first then. then ∙ first)
    (record { answer = λ d e ask answer is. is.ordinal; refusal = λ d e ask is. ap (λ (p : PassState). p.ordinal) is })
    _ _ c.answer_over.ensures in
    search rules
