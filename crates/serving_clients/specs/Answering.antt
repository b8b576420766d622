-- What a desk does for clients, one after another (this project's own).
use Rattle.std.specs.Prelude.{ℕ, zero, suc, ◌≡◌}
use Rattle.serve.specs.Desks.{HasWorked}
use Rattle.status_report.specs.declared.asks.Answer.{Answer}
use Rattle.status_report.specs.declared.asks.Ask.{Ask}

-- a desk works for `clients` clients, one after another, and comes from one state to another
abbrev pub WorksFor : {D : Type 0} → (D → Ask → Answer → D → Type 0) → (D → Ask → D → Type 0) → ℕ → D → D → Type 0
WorksFor Answers Refuses zero d e = d ≡ e
WorksFor {D = D} Answers Refuses (suc clients) d e = (mid : D) × WorksFor Answers Refuses clients d mid × HasWorked Answers Refuses mid e

-- a desk works for some number of clients
abbrev pub HasAnsweredClients : {D : Type 0} → (D → Ask → Answer → D → Type 0) → (D → Ask → D → Type 0) → D → D → Type 0
HasAnsweredClients Answers Refuses d e = (clients : ℕ) × WorksFor Answers Refuses clients d e
