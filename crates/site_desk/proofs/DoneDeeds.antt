-- Which deed a step has that a call has done, and the receipt of a pass's last step.
use Rattle.std.proofs.Common.{◌≡◌, ◌≤◌, ◌+◌, ◌-◌, ℕ, List, Option, refl, ap, subst, sym, arith}
use Rattle.replica.specs.Site.{SiteState}
use Rattle.site_journal.specs.Journals.{IsAnswerTo, IsStepOfCut, IsStepOfWhole}
use Rattle.site_journal.specs.declared.step.StepDeed.{StepDeed}
use Rattle.site_journal.specs.declared.step.StepDeed.TheVariants.{Asked, Took, Cut, Whole}
use Rattle.site_desk.specs.Passes.{HasDone, PassState, last_receipt, one_more}
use Rattle.status_report.specs.declared.asks.Answer.{Answer}
use Rattle.status_report.specs.declared.asks.Ask.{Ask}

pub asked_of : (old : SiteState) (asked : Ask) (new : SiteState) (deed : StepDeed) → IsAnswerTo old asked new deed → (answer : Answer) × (deed ≡ Asked asked answer)
asked_of old asked new (Asked reported answer) is = (answer, ap (λ x. Asked x answer) is.0)
asked_of old asked new (Took bytes) is = absurd is
asked_of old asked new (Cut bytes) is = absurd is
asked_of old asked new (Whole bytes) is = absurd is

pub cut_of : (deed : StepDeed) → IsStepOfCut deed → (frame : Option (List ℕ)) × (deed ≡ Cut frame)
cut_of (Cut bytes) is = (bytes, refl)
cut_of (Asked reported answer) is = absurd is
cut_of (Took bytes) is = absurd is
cut_of (Whole bytes) is = absurd is

pub whole_of : (deed : StepDeed) → IsStepOfWhole deed → (frame : List ℕ) × (deed ≡ Whole frame)
whole_of (Whole bytes) is = (bytes, refl)
whole_of (Asked reported answer) is = absurd is
whole_of (Took bytes) is = absurd is
whole_of (Cut bytes) is = absurd is

-- a pass that has counted a step has done the last of its steps
pub done_last : (old new : PassState) (position : ℕ) (deed : StepDeed) → new ≡ one_more old position → old.seen ≤ position → HasDone old (last_receipt new deed) new
done_last old new position deed counted later =
    let back : position ≡ position + 1 - 1 = omega arith in
    subst (λ (n : PassState). HasDone old (last_receipt n deed) n) (sym counted) (record { pass = refl; position = omega (arith, later); counted = ap (one_more old) back })
