-- What a desk keeps that works for clients.
use Rattle.std.proofs.Common.{ℕ, zero, suc, refl, subst}
use Rattle.serve.proofs.Working.{work_keeps}
use Rattle.serve.specs.Desks.{EachKeeps, HasWorked}
use Rattle.status_report.specs.declared.asks.Answer.{Answer}
use Rattle.status_report.specs.declared.asks.Ask.{Ask}
use Rattle.serving_clients.specs.Answering.{HasAnsweredClients, WorksFor}

-- no client
pub answered_none : {D : Type 0} (Answers : D → Ask → Answer → D → Type 0) (Refuses : D → Ask → D → Type 0) (d : D) → HasAnsweredClients Answers Refuses d d
answered_none Answers Refuses d = (zero, refl)

-- one client more
pub answered_more : {D : Type 0} (Answers : D → Ask → Answer → D → Type 0) (Refuses : D → Ask → D → Type 0) (d mid e : D)
    → HasAnsweredClients Answers Refuses d mid → HasWorked Answers Refuses mid e → HasAnsweredClients Answers Refuses d e
answered_more Answers Refuses d mid e answered worked = (suc answered.0, (mid, answered.1, worked))

works_keep : {D : Type 0} (Answers : D → Ask → Answer → D → Type 0) (Refuses : D → Ask → D → Type 0) (Keeps : D → D → Type 0) → ((d : D) → Keeps d d)
    → ((d mid e : D) → Keeps d mid → Keeps mid e → Keeps d e) → EachKeeps Answers Refuses Keeps → (clients : ℕ) (d e : D) → WorksFor Answers Refuses clients d e → Keeps d e
works_keep Answers Refuses Keeps same then each zero d e works = subst (λ x. Keeps d x) works (same d)
works_keep Answers Refuses Keeps same then each (suc clients) d e works =
    then d works.0 e (works_keep Answers Refuses Keeps same then each clients d works.0 works.1) (work_keeps Answers Refuses Keeps same then each works.0 e works.2)

-- what each answer and each refusal keep, clients keep
pub clients_keep : {D : Type 0} (Answers : D → Ask → Answer → D → Type 0) (Refuses : D → Ask → D → Type 0) (Keeps : D → D → Type 0) → ((d : D) → Keeps d d)
    → ((d mid e : D) → Keeps d mid → Keeps mid e → Keeps d e) → EachKeeps Answers Refuses Keeps → (d e : D) → HasAnsweredClients Answers Refuses d e → Keeps d e
clients_keep Answers Refuses Keeps same then each d e answered = works_keep Answers Refuses Keeps same then each answered.0 d e answered.1
