-- What is known of a step once the lock is free.
use Rattle.std.proofs.Common.{◌≡◌, ◌∙◌, ◌≤◌, ℕ, List, Result, Ok, Err, IfOk, IfErr, subst, sym, inr}
use Rattle.replica.specs.Site.{SiteState}
use Rattle.site_journal.specs.Journals.{HasAdded, IsAnswerTo, IsRefusedFor, IsRefusedFrame, JournalState}
use Rattle.site_journal.specs.declared.desk_fault.DeskFault.{DeskFault}
use Rattle.site_journal.specs.declared.desk_fault.DeskFault.TheVariants.{Unsaved}
use Rattle.site_journal.specs.declared.receipt.Receipt.{Receipt}
use Rattle.replica.specs.declared.take_fault.TakeFault.{TakeFault}
use Rattle.site_desk.specs.Deeds.{IsLegalReceipt, IsReached, IsRefusedFrom}
use Rattle.site_desk.specs.Passes.{HasDone, PassState, step_of}
use Rattle.status_report.specs.declared.asks.Ask.{Ask}
use Rattle.stored_desk.specs.Failing.{FailsUnsaved, IsAnsweredAt}

-- a step was added to a journal whose site had come there
pub legal_receipt : (base : SiteState) (old new : JournalState) (receipt : Receipt) → IsReached base old.count old.replica → receipt.position ≡ old.count → HasAdded old (step_of receipt) new
    → IsLegalReceipt base receipt
legal_receipt base old new receipt reached at added =
    record { before = old.replica; after = new.replica; reached = subst (λ n. IsReached base n old.replica) (sym at) reached; leads = added.done }

-- so was the answer to an ask
pub answered_at : (base : SiteState) (asked : Ask) (old : JournalState) (after : SiteState) (receipt : Receipt) → IsReached base old.count old.replica → receipt.position ≡ old.count
    → IsAnswerTo old.replica asked after receipt.deed → IsAnsweredAt base asked receipt
answered_at base asked old after receipt reached at answers =
    record { before = old.replica; after = after; reached = subst (λ n. IsReached base n old.replica) (sym at) reached; answers = answers }

-- what holds of a receipt holds of what a call answers for it
pub if_ok : {T E : Type 0} (P : T → Type 0) (t : T) (result : Result T E) → IfOk result (λ x. x ≡ t) → P t → IfOk result P
if_ok P t (Ok x) same holds = subst P (sym same) holds
if_ok P t (Err e) same holds = same

pub if_err : {T E : Type 0} (P : E → Type 0) (e : E) (result : Result T E) → IfErr result (λ x. x ≡ e) → P e → IfErr result P
if_err P e (Ok x) same holds = same
if_err P e (Err x) same holds = subst P (sym same) holds

-- a step that was done, for which there is no receipt
pub unanswered : (base : SiteState) (old new : PassState) (fault : DeskFault) (receipt : Receipt) → fault ≡ Unsaved → HasDone old receipt new → IsLegalReceipt base receipt → FailsUnsaved base old fault new
unanswered base old new fault receipt cause done legal = inr (cause, record { receipt = receipt; done = done; legal = legal })

-- the same of a take
pub unanswered_take : {T B : Type 0} (base : SiteState) (old new : PassState) (receipt : Receipt) (result : Result T (DeskFault × B)) → IfErr result (λ refused. refused.0 ≡ Unsaved) → HasDone old receipt new → IsLegalReceipt base receipt
    → IfErr result (λ refused. FailsUnsaved base old refused.0 new)
unanswered_take base old new receipt (Ok x) same done legal = same
unanswered_take base old new receipt (Err refused) same done legal = unanswered base old new refused.0 receipt same done legal

-- a take whose step is lost is refused for that alone
pub lost_alone : {T B : Type 0} (result : Result T (DeskFault × B)) (fault : DeskFault) → IfErr result (λ refused. refused.0 ≡ Unsaved) → IsRefusedFor result fault → fault ≡ Unsaved
lost_alone (Ok x) fault same is = absurd is
lost_alone (Err refused) fault same is = sym is ∙ same

-- what holds of that cause holds of its cause
pub lost_fault : {T B : Type 0} (P : DeskFault → Type 0) (result : Result T (DeskFault × B)) → IfErr result (λ refused. refused.0 ≡ Unsaved) → P Unsaved → IfErr result (λ refused. P refused.0)
lost_fault P (Ok x) same holds = same
lost_fault P (Err refused) same holds = subst P (sym same) holds

-- a frame was refused by a site that had come there
pub refused_from : (base : SiteState) (seen : ℕ) (old : JournalState) (bytes : List ℕ) (fault : TakeFault) → seen ≤ old.count → IsReached base old.count old.replica → IsRefusedFrame old.replica bytes fault
    → IsRefusedFrom base seen bytes fault
refused_from base seen old bytes fault later reached refuses = record { position = old.count; state = old.replica; later = later; reached = reached; refuses = refuses }
