-- A step that can come next comes when it is done again.
use Rattle.std.proofs.Common.{◌≡◌, ◌≢◌, ◌⊎◌, inl, inr, ℕ, List, Option, Some, None, Result, Err, refl, sym, ap, ap₂, subst, ◌∙◌, arith}
use Rattle.delta.specs.DeltaStates.{DeltaState}
use Rattle.delta_codec.specs.declared.decode_fault.DecodeFault.{DecodeFault}
use Rattle.delta_codec.specs.declared.limits.TheConstants.{VERSION}
use Rattle.delta_codec.proofs.FrameLaws.{one_frame, one_spelling}
use Rattle.replica.specs.declared.refusal.Refusal.{Refusal}
use Rattle.replica.specs.declared.refusal.Refusal.TheVariants.{Memory}
use Rattle.replica.specs.Changes.{Meaning, change_of}
use Rattle.replica.specs.Commands.{Follows, IsDone}
use Rattle.replica.specs.Site.{IsSameSite, SiteState, meaning_at}
use Rattle.replica.proofs.SameDeeds.{cut_same, follows_same, may_same, pending_same, whole_same}
use Rattle.replica.proofs.SameSites.{site_through, site_turned}
use Rattle.replica.proofs.TakenCopies.{may_take_same}
use Rattle.replica.specs.Taking.{IsRefusedTake, MayTake}
use Rattle.replica.specs.declared.take_fault.TakeFault.{TakeFault}
use Rattle.replica.specs.declared.take_fault.TakeFault.TheVariants as take_fault
use Rattle.member_orset.proofs.Agreeing.{sets_apart}
use Rattle.site_journal.specs.declared.desk_fault.DeskFault.{DeskFault}
use Rattle.site_journal.specs.declared.desk_fault.DeskFault.TheVariants as desk_fault
use Rattle.site_journal.specs.Journals.{IsRefusedFrame, RefusesTake, SpellNoFrame}
use Rattle.status_report.specs.Answers.{answer_of}
use Rattle.status_report.specs.declared.asks.Answer.{Answer}
use Rattle.status_report.specs.declared.asks.Answer.TheVariants.{Report}
use Rattle.status_report.specs.declared.asks.Ask.{Ask}
use Rattle.status_report.specs.declared.asks.Ask.TheVariants.{Command as asked_command, Status}
use Rattle.status_report.proofs.AskLemmas.{report_same}
use Rattle.site_journal.specs.declared.step.StepDeed.{StepDeed}
use Rattle.site_journal.specs.declared.step.StepDeed.TheVariants.{Asked, Took, Cut, Whole}
use Rattle.site_journal.specs.Legal.{IsAsked, IsCut, IsDeed, IsWhole, Leads}
use Rattle.site_journal.specs.Replaying.{IsAgain}

-- ---- one deed does what another did

-- a command that doesn't run out of memory follows its meaning
follows : (old : SiteState) (meant : Meaning) (new : SiteState) (result : Result (Unit {0}) Refusal) → result ≢ Err Memory → IsDone old meant new result → Follows old meant new result
follows old meant new result some (inl f) = f
follows old meant new result some (inr no_memory) = absurd (some no_memory.1)

-- sites that say the same answer an ask the same
one_answer : (s t new after : SiteState) (asked : Ask) (a b : Answer) → IsSameSite s t → IsAsked s asked a new → IsAsked t asked b after → a ≡ b
one_answer s t new after (asked_command command) a b same p q =
    p.1
    ∙ ap answer_of (follows_same s t same new after (change_of command) p.0 q.0 (follows s (meaning_at s (change_of command)) new p.0 p.2 p.3) (follows t (meaning_at t (change_of command)) after q.0 q.2 q.3)).0
    ∙ sym q.1
one_answer s t new after (Status request) a b same p q = p.0 ∙ ap Report (report_same s t same request) ∙ sym q.0

one_cut : (s t new after : SiteState) (a b : List ℕ) → IsSameSite s t → IsCut s a new → IsCut t b after → a ≡ b
one_cut s t new after a b same p q = one_spelling VERSION p.frame q.frame a b (cut_same s t same new after p.frame q.frame p.done q.done).0 p.spelled q.spelled

one_whole : (s t new after : SiteState) (a b : List ℕ) → IsSameSite s t → IsWhole s a new → IsWhole t b after → a ≡ b
one_whole s t new after a b same p q = one_spelling VERSION p.frame q.frame a b (whole_same s t same new after p.frame q.frame p.done q.done).0 p.spelled q.spelled

one_buffer : (s t new after : SiteState) (a b : Option (List ℕ)) → IsSameSite s t → IsDeed s (Cut a) new → IsDeed t (Cut b) after → a ≡ b
one_buffer s t new after None None same p q = refl
one_buffer s t new after (Some a) (Some b) same p q = ap Some (one_cut s t new after a b same p q)
one_buffer s t new after None (Some b) same p q = absurd (q.done.some (pending_same s t same p.0))
one_buffer s t new after (Some a) None same p q = absurd (p.done.some (pending_same t s (site_turned s t same) q.0))

-- what leads on from one state, and does the same, is the same deed
same_deed : (s t new after : SiteState) (d e : StepDeed) → IsSameSite s t → IsAgain d e → IsDeed s d new → IsDeed t e after → d ≡ e
same_deed s t new after (Asked asked a) (Asked other b) same again p q = ap₂ Asked (sym again) (one_answer s t new after asked a b same p (subst (λ (x : Ask). IsAsked t x b after) again q))
same_deed s t new after (Took a) (Took b) same again p q = ap Took (sym again)
same_deed s t new after (Cut a) (Cut b) same again p q = ap Cut (one_buffer s t new after a b same p q)
same_deed s t new after (Whole a) (Whole b) same again p q = ap Whole (one_whole s t new after a b same p q)
same_deed s t new after d e same again p q = absurd again

pub one_deed : (from a b : SiteState) (d e : StepDeed) → IsAgain d e → Leads from d a → Leads from e b → d ≡ e
one_deed from a b d e again p q = same_deed p.old q.old p.new q.new d e (site_through p.old from q.old (site_turned from p.old p.before) q.before) again p.done q.done

-- ---- a take that is done again is not refused

-- a site that may take a delta doesn't refuse it
not_refused : (s : SiteState) (d : DeltaState) (fault : TakeFault) → fault ≢ take_fault.Memory → MayTake s d → IsRefusedTake s d (λ cause. fault ≡ cause) → ⊥
not_refused s d take_fault.NoSuchQueue some may refused = may.joins.hears.queues (refused.no_such_queue.0 refl)
not_refused s d take_fault.NotMine some may refused = may.joins.hears.own (refused.not_mine.0 refl).1
not_refused s d take_fault.Conflict some may refused = sets_apart s.state.members d.members may.joins.agree (refused.conflict.0 refl).1
not_refused s d take_fault.CellsFull some may refused = let many = (refused.cells_full.0 refl).1 in let few = may.cells in omega arith
not_refused s d take_fault.RunsFull some may refused = let many = (refused.runs_full.0 refl).2 in let few = may.runs in omega arith
not_refused s d take_fault.Memory some may refused = some refl

abbrev FullOrMemory : DeskFault → Type 0
FullOrMemory fault = (fault ≡ desk_fault.JournalFull) ⊎ (fault ≡ desk_fault.Memory)

-- a take that can come next is refused only for a full journal, or when out of memory
pub take_comes : (s to : SiteState) (bytes : List ℕ) (fault : DeskFault) → Leads s (Took bytes) to → ((f : DecodeFault) → fault ≡ desk_fault.Decode f → SpellNoFrame bytes)
    → ((f : TakeFault) → fault ≡ desk_fault.Take f → IsRefusedFrame s bytes f) → RefusesTake fault → FullOrMemory fault
take_comes s to bytes desk_fault.JournalFull leads decode refused only = inl refl
take_comes s to bytes desk_fault.Memory leads decode refused only = inr refl
take_comes s to bytes (desk_fault.Decode f) leads decode refused only = absurd (decode f refl leads.done.frame leads.done.spelled)
take_comes s to bytes (desk_fault.Take f) leads decode refused only =
    let reported = refused f refl in
    let same = (one_frame leads.done.frame reported.frame bytes leads.done.spelled reported.spelled).delta in
    let may = may_same leads.old s (site_turned s leads.old leads.before) leads.done.frame.delta leads.done.done.may in
    absurd (not_refused s reported.frame.delta f only (may_take_same leads.done.frame.delta reported.frame.delta same s may) reported.refused)
take_comes s to bytes desk_fault.Exhausted leads decode refused only = absurd only
take_comes s to bytes (desk_fault.Rewound len) leads decode refused only = absurd only
take_comes s to bytes desk_fault.Unsaved leads decode refused only = absurd only
