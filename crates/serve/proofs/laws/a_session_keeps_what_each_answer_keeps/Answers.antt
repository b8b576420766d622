use Rattle.std.proofs.Common.{◌≡◌, ◌∙◌, ◌≤◌, true, refl, arith}
use Rattle.serve.proofs.Working.{work_keeps}
use Rattle.serve.proofs.laws.a_session_keeps_what_each_answer_keeps.Goals as goal

pub returns-clause-same : goal.returns-clause-same
returns-clause-same g c = λ shows each d e worked.
    work_keeps g.D.Desk.answers g.D.Desk.refuses (λ a b. shows b ≡ shows a) (λ a. refl) (λ a mid b first then. then ∙ first) each d e worked

pub returns-clause-no_less : goal.returns-clause-no_less
returns-clause-no_less g c = λ counts each d e worked.
    work_keeps g.D.Desk.answers g.D.Desk.refuses (λ a b. counts a ≤ counts b) (λ a. omega arith) (λ a mid b first then. omega arith) each d e worked

pub returns-clause-passes : goal.returns-clause-passes
returns-clause-passes g c = λ passes order each d e worked.
    work_keeps g.D.Desk.answers g.D.Desk.refuses (λ a b. passes a b ≡ true) order.same order.then each d e worked
