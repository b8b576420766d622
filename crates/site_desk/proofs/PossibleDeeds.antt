-- Receipts and faults of a step under the lock, whose states a caller doesn't see.
use Rattle.std.specs.Prelude.{ℕ, ◌≡◌, ◌+◌, ◌-◌, List, Result, Ok, Err, IfOk, OnOk}
use Rattle.std.proofs.Common.{arith, refl, subst, sym}
use Rattle.replica.proofs.SameSites.{site_itself}
use Rattle.replica.specs.Site.{SiteState}
use Rattle.replica.specs.declared.take_fault.TakeFault.{TakeFault}
use Rattle.site_journal.specs.Journals.{HasAdded, IsAnswerTo, IsOfSite, IsRefusedFrame, JournalState}
use Rattle.site_journal.specs.Legal.{IsAsked}
use Rattle.site_journal.specs.declared.receipt.Receipt.{Receipt}
use Rattle.site_journal.specs.declared.step.StepDeed.{StepDeed}
use Rattle.site_journal.specs.declared.step.StepDeed.TheVariants.{Asked, Took, Cut, Whole}
use Rattle.site_desk.specs.Deeds.{IsAnsweredSomewhere, IsPossibleSomewhere, IsLegalReceipt, IsRefusedSomewhere, IsReached}
use Rattle.site_desk.specs.Passes.{PassState, last_receipt, step_of}
use Rattle.status_report.specs.declared.asks.Answer.{Answer}
use Rattle.status_report.specs.declared.asks.Ask.{Ask}

-- a step that was added to the journal of this site is possible at some state
pub possible_deed : {F : Type 0} (site : ℕ) (names : List (List ℕ)) (old new : JournalState) (result : Result Receipt F) → IsOfSite site names old
    → IfOk result (λ (receipt : Receipt). HasAdded old (step_of receipt) new) → IfOk result (λ (receipt : Receipt). IsPossibleSomewhere site names receipt.deed)
possible_deed site names old new (Ok receipt) is added = record { old = old.replica; new = new.replica; site_is = is.site_is; names_are = is.names_are; leads = added.done }
possible_deed site names old new (Err fault) is added = added

-- an ask that was answered at this site is answered at some state
pub answered_somewhere : {F : Type 0} (site : ℕ) (names : List (List ℕ)) (asked : Ask) (old : JournalState) (new : SiteState) (result : Result Receipt F) → IsOfSite site names old
    → IfOk result (λ (receipt : Receipt). IsAnswerTo old.replica asked new receipt.deed) → IfOk result (λ (receipt : Receipt). IsAnsweredSomewhere site names asked receipt.deed)
answered_somewhere site names asked old new (Ok receipt) is answers = record { old = old.replica; new = new; site_is = is.site_is; names_are = is.names_are; answers = answers }
answered_somewhere site names asked old new (Err fault) is answers = answers

-- an ask whose answer alone is known is answered so at some state
pub given_somewhere : {F : Type 0} (site : ℕ) (names : List (List ℕ)) (asked : Ask) (old : JournalState) (new : SiteState) (result : Result Answer F) → IsOfSite site names old
    → IfOk result (λ (answer : Answer). IsAsked old.replica asked answer new) → IfOk result (λ (answer : Answer). IsAnsweredSomewhere site names asked (Asked asked answer))
given_somewhere site names asked old new (Ok answer) is given = record { old = old.replica; new = new; site_is = is.site_is; names_are = is.names_are; answers = (refl, given) }
given_somewhere site names asked old new (Err fault) is given = given

-- a frame that was refused at this site is refused at some state
pub refused_somewhere : (site : ℕ) (names : List (List ℕ)) (old : JournalState) (bytes : List ℕ) (fault : TakeFault) → IsOfSite site names old → IsRefusedFrame old.replica bytes fault → IsRefusedSomewhere site names bytes fault
refused_somewhere site names old bytes fault is refuses = record { old = old.replica; site_is = is.site_is; names_are = is.names_are; refuses = refuses }

-- a step that was added to a journal is legal at its position, where the journal's site had come there
pub legal_receipt : {F : Type 0} (base : SiteState) (old new : JournalState) (result : Result Receipt F) → IsReached base old.count old.replica
    → IfOk result (λ (receipt : Receipt). receipt.position ≡ old.count) → IfOk result (λ (receipt : Receipt). HasAdded old (step_of receipt) new)
    → IfOk result (λ (receipt : Receipt). IsLegalReceipt base receipt)
legal_receipt base old new (Ok receipt) reached at added =
    record { before = old.replica; after = new.replica; reached = subst (λ n. IsReached base n old.replica) (sym at) reached; leads = added.done }
legal_receipt base old new (Err fault) reached at added = added

-- an answer is that of a legal step at its position, by a pass that has seen one step more
pub answered_receipt : {F : Type 0} (base : SiteState) (asked : Ask) (ordinal : ℕ) (pass : PassState) (old new : JournalState) (result : Result Answer F) → IsReached base old.count old.replica
    → OnOk result (pass.seen ≡ old.count + 1) → IfOk result (λ (answer : Answer). HasAdded old (record { pass = ordinal; deed = Asked asked answer }) new)
    → IfOk result (λ (answer : Answer). IsLegalReceipt base (last_receipt pass (Asked asked answer)))
answered_receipt base asked ordinal pass old new (Ok answer) reached seen added =
    let at : old.count ≡ pass.seen - 1 = omega (arith, seen) in
    record { before = old.replica; after = new.replica; reached = subst (λ n. IsReached base n old.replica) at reached; leads = added.done }
answered_receipt base asked ordinal pass old new (Err fault) reached seen added = added

-- an ask that is answered at some state is a deed of that state
pub deed_of_answer : (site : ℕ) (names : List (List ℕ)) (asked : Ask) (deed : StepDeed) → IsAnsweredSomewhere site names asked deed → IsPossibleSomewhere site names deed
deed_of_answer site names asked (Asked reported answer) is = record {
  old = is.old;
  new = is.new;
  site_is = is.site_is;
  names_are = is.names_are;
  leads = record {
    old = is.old;
    new = is.new;
    before = site_itself is.old;
    done = subst (λ ask. IsAsked is.old ask answer is.new) (sym is.answers.0) is.answers.1;
    after = site_itself is.new;
  };
}
deed_of_answer site names asked (Took bytes) is = absurd is.answers
deed_of_answer site names asked (Cut bytes) is = absurd is.answers
deed_of_answer site names asked (Whole bytes) is = absurd is.answers
