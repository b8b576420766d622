use Rattle.std.proofs.Common.{rules, ◌≡◌, ◌∙◌, ◌⊎◌, ap, refl}
use Rattle.pass_desk.specs.RingingDesks.{inner_desk}
use Rattle.pass_desk.specs.declared.ringing_desk.RingingDesk.{RingingDesk}
use Rattle.serving_clients.proofs.AnsweringLemmas.{clients_keep}
use Rattle.site_desk.specs.Passes.{PassState}
use Rattle.stored_desk.specs.Failing.{HasDoneUnanswered}
use Rattle.stored_pass_desk.specs.StoredPassDesks.{AnswersByStoredPass}
use Rattle.stored_pass_desk.proofs.PortCalls.{unanswered_kept}
use Rattle.server.proofs.stored_working.answer_by.Goals as goal

-- each answer keeps the number of the pass, and so does each refusal
pub returns : goal.returns
returns g c =
    let base = g.L.SiteLedger.base in
    let kept = clients_keep
    (λ (d : RingingDesk PassState) ask answer (e : RingingDesk PassState). AnswersByStoredPass base (inner_desk d) ask answer (inner_desk e))
    (λ (d : RingingDesk PassState) ask (e : RingingDesk PassState). (inner_desk e ≡ inner_desk d) ⊎ HasDoneUnanswered base (inner_desk d) (inner_desk e))
    (λ (d e : RingingDesk PassState). (inner_desk e).ordinal ≡ (inner_desk d).ordinal)
    (λ d. refl) (λ d mid e first then. then ∙ first)
    (record {
      answer = λ d e ask answer is. ap (λ (p : PassState). p.ordinal) is.done.counted;
      refusal = λ d e ask is. unanswered_kept base (inner_desk d) (inner_desk e) is;
    })
    _ _ c.answer_over.ensures in
    search rules
