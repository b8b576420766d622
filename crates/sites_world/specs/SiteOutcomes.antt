-- The outcome of an event at one site: the one of the world of operations, or `NoMemory`, which changes nothing.
use Rattle.sites_world.specs.declared.event.Event.{Event}
use Rattle.sites_world.specs.declared.event.Event.TheVariants as event
use Rattle.std.specs.Prelude.{ℕ, ◌≡◌, ◌⊎◌, true, List, [], ◌∷◌, ◌++◌, length, Err, ⊤, ◌<◌}
use Rattle.operations.specs.Knowledge.{Knowledge}
use Rattle.delta.specs.DeltaStates.{DeltaState}
use Rattle.delta.specs.Joining.{DeltasInConflict}
use Rattle.delta.specs.Standing.{IsDeltaOf}
use Rattle.delta.specs.declared.frame.Frame.{Frame}
use Rattle.replica.specs.declared.refusal.Refusal.TheVariants as refusal
use Rattle.replica.specs.declared.take_fault.TakeFault.{TakeFault}
use Rattle.replica.specs.declared.take_fault.TakeFault.TheVariants as take_fault
use Rattle.replica.specs.Site.{SiteState}
use Rattle.replica.specs.Standing.{StandsFor}
use Rattle.replica.specs.Steps as steps
use Rattle.replica.specs.Steps.{Framed, SiteKnowledge}
use Rattle.replica.specs.Taking.{HasNoneLater, IsNotMine, SpeaksOfStrangeQueue}
use Rattle.status_report.specs.declared.asks.Answer.{Answer}
use Rattle.status_report.specs.declared.asks.Answer.TheVariants.{Refused}
use Rattle.sites_world.specs.declared.outcome.Outcome.{Outcome}
use Rattle.sites_world.specs.declared.outcome.Outcome.TheVariants.{Answered, Cut, NoMemory, Took}
use Rattle.sites_world.specs.Worlds.{Entry, Happening, frame_result, is_done, take_result}
use Rattle.sites_world.specs.WorldStates.{Correspond, IsFrameOf}

-- the outcome of an answer: the answer, or `NoMemory` for a command that was refused as out of memory
abbrev pub answer_outcome : Answer → Outcome
answer_outcome (Refused refusal.Memory) = NoMemory
answer_outcome answer = Answered answer

-- the outcome of a take that fails: the fault, or `NoMemory` when out of memory
abbrev pub take_fault_outcome : TakeFault → Outcome
take_fault_outcome take_fault.Memory = NoMemory
take_fault_outcome fault = Took (Err fault)

-- outcome `o` of an ask is the answer of `after`, and state `new` stands for what the site knows then; or it is `NoMemory`, and
-- `new` stands for `s`, what the site knew before
abbrev pub IsAnsweredSo : SiteState → SiteKnowledge → SiteKnowledge × Answer → Outcome → Type 0
IsAnsweredSo new s after o = ((o ≡ Answered after.1) × StandsFor new after.0) ⊎ ((o ≡ NoMemory) × StandsFor new s)

-- pool `new` is `old` with one frame more where a step of site `maker` made one, the frame of the step's entry; else it is `old`
abbrev pub HasAddedFrame : ℕ → List Frame → List Frame → steps.Outcome → Type 0
HasAddedFrame maker old new (Framed number carried) =
    (frame : Frame) × (new ≡ old ++ frame ∷ []) × IsFrameOf (length old) frame (record { maker = maker; number = number; carried = carried })
HasAddedFrame maker old new other = new ≡ old

-- outcome `o` of a cut or a whole is the one of `after`, the site's step, and `new` and `pool` stand for what is known and made
-- then; or it is `NoMemory`, `new` stands for `s`, what the site knew, and the pool is `old`
abbrev pub IsFramedSo : SiteState → SiteKnowledge → List Frame → List Frame → SiteKnowledge × steps.Outcome → Outcome → Type 0
IsFramedSo new s old pool after o =
    ((o ≡ Cut (frame_result (length old) after.1)) × StandsFor new after.0 × HasAddedFrame new.site old pool after.1)
    ⊎ ((o ≡ NoMemory) × StandsFor new s × (pool ≡ old))

-- outcome `o` of a take is the one of `after`, the site's step, and state `new` stands for what the site knows then; or it is
-- `NoMemory`, and `new` stands for `s`, what the site knew before
abbrev pub IsTakenSo : SiteState → SiteKnowledge → SiteKnowledge × steps.Outcome → Outcome → Type 0
IsTakenSo new s after o = ((o ≡ Took (take_result after.1)) × StandsFor new after.0) ⊎ ((o ≡ NoMemory) × StandsFor new s)

-- a site in this state may join each delta that stands for knowledge `k`: it has only the site's queues, has nothing of the site
-- that the site hasn't made, and agrees with the site's state
pub record MayBeTaken (state : SiteState) (k : Knowledge) : Type 0 where
  pub queues : (d : DeltaState) → IsDeltaOf d k → SpeaksOfStrangeQueue (length state.names) d → ⊥
  pub own : (d : DeltaState) → IsDeltaOf d k → IsNotMine state d → ⊥
  pub agrees : (d : DeltaState) → IsDeltaOf d k → DeltasInConflict state.state d → ⊥
  pub none_later : HasNoneLater state k

-- an event at a site that knew `s` has happened as `h`, its effect in the world of operations: `o` is its outcome, `new` and `pool`
-- stand for what is known and made then; or it ran out of memory, and nothing is changed
abbrev pub HasHappenedAt : SiteState → SiteKnowledge → List Frame → List Frame → List Entry → Happening → Outcome → Type 0
HasHappenedAt new s old pool entries h o =
    ((is_done o ≡ true) × (h.outcome ≡ o) × StandsFor new h.site × Correspond IsFrameOf pool (entries ++ h.added))
    ⊎ ((o ≡ NoMemory) × StandsFor new s × (pool ≡ old))

-- the entry that an event takes, if it takes one, is in the pool `pool`
abbrev pub HasEntry : List Frame → Event → Type 0
HasEntry pool (event.Take site entry) = entry < length pool
HasEntry pool other = ⊤

-- an event is an ask
abbrev pub IsAsk : Event → Type 0
IsAsk (event.Ask site asked) = ⊤
IsAsk other = ⊥
