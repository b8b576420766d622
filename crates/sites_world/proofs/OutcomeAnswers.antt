-- Outcomes of asks and takes at one site are those of the world of operations, or `NoMemory`.
use Rattle.delta.specs.Frames.{IsInRanges}
use Rattle.std.proofs.Common.{◌≡◌, ◌⊎◌, inl, inr, ℕ, List, [], ◌∷◌, ◌++◌, length, Some, Ok, refl, sym, ap, subst, ◌∙◌}
use Rattle.delta.specs.DeltaStates.{DeltaState}
use Rattle.delta.specs.Joining.{DeltasInConflict}
use Rattle.delta.specs.Standing.{IsDeltaOf}
use Rattle.delta.specs.declared.frame.Frame.{Frame}
use Rattle.replica.specs.declared.refusal.Refusal.{Refusal}
use Rattle.replica.specs.declared.refusal.Refusal.TheVariants as refusal
use Rattle.replica.specs.declared.take_fault.TakeFault.{TakeFault}
use Rattle.replica.specs.declared.take_fault.TakeFault.TheVariants as take_fault
use Rattle.replica.specs.Changes.{Makes, Meaning, Refused as refused_meaning, change_of, meaning}
use Rattle.replica.specs.Framing.{IsFramed}
use Rattle.replica.specs.Site.{IsUnchanged, SiteState}
use Rattle.replica.specs.SiteViews.{site_view}
use Rattle.replica.specs.Standing.{StandsFor, result_of}
use Rattle.replica.specs.Steps as steps
use Rattle.replica.specs.Steps.{SiteKnowledge, Take, after_meaning, step}
use Rattle.replica.specs.Taking.{IsMeantFault, IsNotMine, SpeaksOfStrangeQueue}
use Rattle.replica.proofs.StandingSites.{unchanged_stands}
use Rattle.replica.proofs.StepLaws.{refusals_change_nothing}
use Rattle.operations.specs.Knowledge.{Knowledge}
use Rattle.status_report.specs.declared.asks.Answer.{Answer}
use Rattle.status_report.specs.declared.asks.Answer.TheVariants.{Done, Refused, Report}
use Rattle.status_report.specs.declared.asks.Ask.{Ask}
use Rattle.status_report.specs.declared.asks.Ask.TheVariants.{Command as asked_command, Status}
use Rattle.status_report.specs.Answers.{answer_of}
use Rattle.status_report.specs.Knowing.{IsAnswered, answer_in}
use Rattle.sites_world.specs.declared.outcome.Outcome.TheVariants.{Answered, Cut, NoMemory, Took}
use Rattle.sites_world.specs.SiteOutcomes.{HasAddedFrame, IsAnsweredSo, IsFramedSo, IsTakenSo, MayBeTaken, answer_outcome, take_fault_outcome}
use Rattle.sites_world.specs.Worlds.{take_result, frame_result}

-- ---- answers

-- what is refused changes nothing
refused_stays : (site : ℕ) (names : List (List ℕ)) (s : SiteKnowledge) (asked : Ask) (r : Refusal) → (answer_in site names s asked).1 ≡ Refused r → (answer_in site names s asked).0 ≡ s
refused_stays site names s (Status request) r e = refl
refused_stays site names s (asked_command command) r e = by (meaning site names (site_view site s.known) (site_view site s.buffer) (change_of command)) e
  where
    by : (m : Meaning) → answer_of (result_of (after_meaning s m).1) ≡ Refused r → (after_meaning s m).0 ≡ s
    by (Makes o) e = absurd (done_refused e)
      where
        done_refused : Done ≡ Refused r → ⊥
        done_refused e = (cc)
    by (refused_meaning x) e = refl

-- the outcome of an answer is that answer, or `NoMemory`
pub reported_cases : (answer : Answer) → (answer_outcome answer ≡ Answered answer) ⊎ ((answer_outcome answer ≡ NoMemory) × (answer ≡ Refused refusal.Memory))
reported_cases Done = inl refl
reported_cases (Report bytes) = inl refl
reported_cases (Refused refusal.NoSuchQueue) = inl refl
reported_cases (Refused refusal.AlreadyThere) = inl refl
reported_cases (Refused refusal.NotThere) = inl refl
reported_cases (Refused refusal.MembersFull) = inl refl
reported_cases (Refused refusal.Exhausted) = inl refl
reported_cases (Refused refusal.TotalFull) = inl refl
reported_cases (Refused refusal.Memory) = inr (refl, refl)

pub reported_answer : (old new : SiteState) (s : SiteKnowledge) (asked : Ask) (answer : Answer) → StandsFor old s → IsAnswered old new answer (answer_in old.site old.names s asked)
    → IsAnsweredSo new s (answer_in old.site old.names s asked) (answer_outcome answer)
reported_answer old new s asked answer stands (inl (after, e)) = elim (reported_cases answer) [
  | inl reported ↦ inl (reported ∙ ap Answered e, after)
  | inr reported ↦ inr (reported.0, subst (StandsFor new) (refused_stays old.site old.names s asked refusal.Memory (sym e ∙ reported.1)) after)
]
reported_answer old new s asked answer stands (inr (same, refused)) = inr (ap answer_outcome refused, unchanged_stands old new s stands same)

-- ---- frames that were made

pub reported_frame : (new : SiteState) (s : SiteKnowledge) (old pool : List Frame) (after : SiteKnowledge × steps.Outcome) (frame : Frame) → StandsFor new after.0 → IsFramed frame after.1
    → frame.maker ≡ new.site → IsInRanges frame → pool ≡ old ++ frame ∷ [] → IsFramedSo new s old pool after (Cut (Ok (Some (length old))))
reported_frame new s old pool after frame stands framed maker ranges grown = inl (
  ap (λ x. Cut (frame_result (length old) x)) (sym framed.outcome_is),
  stands,
  subst (HasAddedFrame new.site old pool) (sym framed.outcome_is) (frame, grown, record { maker = maker; number = refl; delta = framed.stands; ranges = ranges }),
)

-- ---- frames that were taken

pub reported_fault : (old new : SiteState) (s : SiteKnowledge) (k : Knowledge) (d : DeltaState) (fault : TakeFault) → MayBeTaken old k → IsDeltaOf d k → StandsFor old s → IsUnchanged old new
    → (fault ≡ take_fault.NoSuchQueue → SpeaksOfStrangeQueue (length old.names) d) → (fault ≡ take_fault.NotMine → IsNotMine old d) → (fault ≡ take_fault.Conflict → DeltasInConflict old.state d)
    → IsMeantFault fault (step old.site old.names s (Take k)).1 → IsTakenSo new s (step old.site old.names s (Take k)) (take_fault_outcome fault)
reported_fault old new s k d take_fault.NoSuchQueue may is stands same strange mine conflict meant = absurd (may.queues d is (strange refl))
reported_fault old new s k d take_fault.NotMine may is stands same strange mine conflict meant = absurd (may.own d is (mine refl))
reported_fault old new s k d take_fault.Conflict may is stands same strange mine conflict meant = absurd (may.agrees d is (conflict refl))
reported_fault old new s k d take_fault.CellsFull may is stands same strange mine conflict meant = inl (
  ap (λ x. Took (take_result x)) (sym meant),
  subst (StandsFor new) (sym ((refusals_change_nothing old.site old.names s (Take k)).cells_full meant)) (unchanged_stands old new s stands same),
)
reported_fault old new s k d take_fault.RunsFull may is stands same strange mine conflict meant = inl (
  ap (λ x. Took (take_result x)) (sym meant),
  subst (StandsFor new) (sym ((refusals_change_nothing old.site old.names s (Take k)).runs_full meant)) (unchanged_stands old new s stands same),
)
reported_fault old new s k d take_fault.Memory may is stands same strange mine conflict meant = inr (refl, unchanged_stands old new s stands same)
