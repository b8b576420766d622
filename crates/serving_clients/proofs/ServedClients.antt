-- What a session leaves, whichever way it ended.
use Rattle.std.proofs.Common.{ℕ, List, Option, Bool, Result, Ok, Err, inl, inr, OnOk, IfErr}
use Rattle.ami_session.specs.Checks.{SessionState}
use Rattle.serve.specs.Sessions.{HasCarried, IsLeftBy, IsServed}
use Rattle.serve.specs.declared.serve_fault.ServeFault.{ServeFault}
use Rattle.status_report.specs.declared.asks.Answer.{Answer}
use Rattle.status_report.specs.declared.asks.Ask.{Ask}
use Rattle.serving_clients.specs.ServedClients.{HasServed}

pub has_served : {T D : Type 0} (Answers : D → Ask → Answer → D → Type 0) (Refuses : D → Ask → D → Type 0) (session : SessionState) (old new : D)
    (left left' taken taken' : Option (List ℕ)) (ended : Bool) (result : Result T ServeFault)
    → OnOk result (HasCarried left left' taken taken' (IsServed Answers session old new ended left'))
    → IfErr result (λ fault. HasCarried left left' taken taken' (IsLeftBy Answers Refuses session old new fault))
    → HasServed Answers Refuses session old new
has_served Answers Refuses session old new left left' taken taken' ended (Ok x) served faulty =
    record { bytes = served.bytes; text = served.text; how = inl (ended, left', served.holds) }
has_served Answers Refuses session old new left left' taken taken' ended (Err fault) served faulty =
    record { bytes = faulty.bytes; text = faulty.text; how = inr (fault, faulty.holds) }
