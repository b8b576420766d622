-- The effect of a command on a site, and its refusals.
use Rattle.std.specs.Prelude.{⊤, ℕ, ◌≡◌, ◌⊎◌, max, Bool, true, Option, Result, Ok, Err, List, [], ◌∷◌, map as each}
use Rattle.dots.specs.declared.label.Label.{Label}
use Rattle.dots.specs.declared.member.Member.{Member}
use Rattle.dots.specs.Values.{Dot}
use Rattle.operations.specs.Operations.{Operation, Setting}
use Rattle.member_orset.specs.Members.{KeepsIds}
use Rattle.delta.specs.DeltaStates.{DeltaState}
use Rattle.delta.specs.Joining.{DeltasAgree, IsJoinOf}
use Rattle.delta.specs.Standing.{IsDeltaOf}
use Rattle.replica.specs.declared.refusal.Refusal.{Refusal}
use Rattle.replica.specs.declared.refusal.Refusal.TheVariants.{AlreadyThere, Memory, NoSuchQueue, NotThere, TotalFull}
use Rattle.replica.specs.Changes.{Meaning, Refused, Makes, add_at, is_exhausted, within_limits, write_at}
use Rattle.replica.specs.SiteViews.{count_used, dots_seen, time_used}
use Rattle.replica.specs.Site.{SiteState, IsUnchanged, view_of}

-- a delta is joined with that of one operation alone, with which it agrees, and each dot keeps its id
pub record HasJoined (old : DeltaState) (o : Operation) (new : DeltaState) : Type 0 where
  pub change : DeltaState
  pub stands : IsDeltaOf change (o ∷ [])
  pub agrees : DeltasAgree old change
  pub joined : IsJoinOf old change new
  pub ids : KeepsIds old.members new.members

-- a site has made an operation: its state and its buffer are joined with it, and the last count and time are those of it where it has used one
pub record HasMade (old : SiteState) (o : Operation) (new : SiteState) : Type 0 where
  pub site : new.site ≡ old.site
  pub names : new.names ≡ old.names
  pub state : HasJoined old.state o new.state
  pub pending : HasJoined old.pending o new.pending
  pub last_count : new.last_count ≡ max (count_used old.site o) old.last_count
  pub last_time : new.last_time ≡ max (time_used old.site o) old.last_time
  pub frames : new.frames ≡ old.frames

-- a result, and the site after it, follow the meaning: an operation was made, or the command was refused and changed nothing
abbrev pub Follows : SiteState → Meaning → SiteState → Result (Unit {0}) Refusal → Type 0
Follows old (Makes o) new result = (result ≡ Ok tt) × HasMade old o new
Follows old (Refused refusal) new result = (result ≡ Err refusal) × IsUnchanged old new

-- a meaning may run out of memory: all but the refusals that take none
abbrev pub MayWantMemory : Meaning → Type 0
MayWantMemory (Refused NoSuchQueue) = ⊥
MayWantMemory (Refused AlreadyThere) = ⊥
MayWantMemory (Refused NotThere) = ⊥
MayWantMemory (Refused TotalFull) = ⊥
MayWantMemory meant = ⊤

-- a command follows its meaning; or it runs out of memory, where its meaning may, and nothing is changed
abbrev pub IsDone : SiteState → Meaning → SiteState → Result (Unit {0}) Refusal → Type 0
IsDone old meant new result = Follows old meant new result ⊎ (IsUnchanged old new × (result ≡ Err Memory) × MayWantMemory meant)

-- the refusal of an operation for which no number is left: the one of its meaning, or out of memory
abbrev pub IsRefusalOf : SiteState → Operation → Refusal → Type 0
IsRefusalOf s o refusal = (refusal ≡ Memory) ⊎ (within_limits (view_of s s.state) (view_of s s.pending) o ≡ Refused refusal)

-- each add that needs a number past the greatest has this refusal
abbrev pub IsRefusalOfAdds : SiteState → Refusal → Type 0
IsRefusalOfAdds s refusal = (member : Member) (penalty : ℕ) (paused : Bool) (label : Label) → let o = add_at s.site (view_of s s.state) member penalty paused label in
    is_exhausted o ≡ true → IsRefusalOf s o refusal

-- each write on these dots that needs a number past the greatest has this refusal
abbrev pub IsRefusalOfWrites : SiteState → List Dot → Refusal → Type 0
IsRefusalOfWrites s dots refusal = (queue : Option ℕ) (interface : List ℕ) (setting : Setting) → let seen = dots_seen (view_of s s.state).dots queue interface in
    dots ≡ each (λ p. p.0) seen → let o = write_at s.site (view_of s s.state) setting seen in is_exhausted o ≡ true → IsRefusalOf s o refusal
