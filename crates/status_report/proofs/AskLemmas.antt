-- The answer to an ask is what a site that knows the same answers.
use Rattle.std.proofs.Common.{◌≡◌, ℕ, Result, Ok, Err, IfOk, sym, ap, inl, inr}
use Rattle.operations.specs.Rows.{rows_of as rows_read}
use Rattle.operations.specs.Totals.{sum_of}
use Rattle.member_orset.specs.Members.{view_of}
use Rattle.delta.proofs.Sameness.{says_the_same}
use Rattle.replica.specs.declared.refusal.Refusal.{Refusal}
use Rattle.replica.specs.Changes.{Meaning}
use Rattle.replica.specs.Site.{IsSameSite, SiteState, sums_of}
use Rattle.replica.specs.Standing.{StandsFor, IsMeant, result_of}
use Rattle.replica.specs.Steps.{SiteKnowledge, after_meaning}
use Rattle.replica.proofs.ShownSites.{rows_shown, completed_shown, abandoned_shown}
use Rattle.status_report.specs.declared.request.StatusRequest.{StatusRequest}
use Rattle.status_report.specs.Answers.{answer_of}
use Rattle.status_report.specs.Knowing.{status_in, totals_in, IsAnswered}
use Rattle.status_report.specs.Status.{status_text, report_of}

-- a result that is meant is the answer of its meaning
pub by_meaning : (old new : SiteState) (r : Result (Unit {0}) Refusal) (s : SiteKnowledge) → (m : Meaning) → IsMeant old new r (after_meaning s m)
    → IsAnswered old new (answer_of r) ((after_meaning s m).0, answer_of (result_of (after_meaning s m).1))
by_meaning old new r s m (inl h) = inl (h.0, ap answer_of h.1)
by_meaning old new r s m (inr h) = inr (h.0, ap answer_of h.1)

-- the totals of a state are those of the knowledge that it stands for
totals_are : (state : SiteState) (s : SiteKnowledge) → StandsFor state s → (queue : ℕ) → sums_of state queue ≡ totals_in s.known queue
totals_are state s stands queue i = record { completed = completed_shown state s stands queue i; abandoned = abandoned_shown state s stands queue i }

-- the report of a state is the text of the knowledge that it stands for
pub report_is : (state : SiteState) (s : SiteKnowledge) → StandsFor state s → (request : StatusRequest) → report_of state request ≡ status_in s.known state.names request
report_is state s stands request i = status_text state.names (λ queue. totals_are state s stands queue i) (λ queue. rows_shown state s stands queue i) request

-- sites that say the same have the same report
pub report_same : (s t : SiteState) → IsSameSite s t → (request : StatusRequest) → report_of s request ≡ report_of t request
report_same s t same request =
    let live = sym (says_the_same s.state.members t.state.members same.state.conditions same.state.known).live in
    λ i. status_text (sym same.names i) (λ queue. sum_of (same.state.totals i) queue) (λ queue. rows_read (view_of (live i)) queue) request

-- what holds of an Ok, and what follows from it
pub of_ok : {A E : Type 0} (P Q : A → Type 0) (r : Result A E) → IfOk r P → ((x : A) → P x → Q x) → IfOk r Q
of_ok P Q (Ok x) h more = more x h
of_ok P Q (Err e) h more = h
