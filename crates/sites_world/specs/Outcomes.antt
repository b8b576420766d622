-- Which outcomes each event may have, and which outcomes change nothing.
use Rattle.std.specs.Prelude.{⊤, ◌≡◌, ◌⊎◌, Bool, true, false, Some, Ok, Err}
use Rattle.replica.specs.declared.cut_fault.CutFault.TheVariants.{Exhausted}
use Rattle.replica.specs.declared.refusal.Refusal.{Refusal}
use Rattle.replica.specs.declared.refusal.Refusal.TheVariants as refusal
use Rattle.replica.specs.declared.take_fault.TakeFault.TheVariants as take_fault
use Rattle.status_report.specs.declared.asks.Answer.{Answer}
use Rattle.status_report.specs.declared.asks.Answer.TheVariants.{Done, Refused, Report}
use Rattle.status_report.specs.declared.asks.Ask.{Ask}
use Rattle.status_report.specs.declared.asks.Ask.TheVariants.{Command as asked_command, Status}
use Rattle.sites_world.specs.declared.event.Event.{Event}
use Rattle.sites_world.specs.declared.event.Event.TheVariants as event
use Rattle.sites_world.specs.declared.outcome.Outcome.{Outcome}
use Rattle.sites_world.specs.declared.outcome.Outcome.TheVariants as outcome

-- a refusal is one that the meaning of a command may have: any but out of memory
abbrev pub IsRefusalOfMeaning : Refusal → Type 0
IsRefusalOfMeaning refusal.Memory = ⊥
IsRefusalOfMeaning other = ⊤

-- an answer is one that an ask may have: for a command, done or a refusal other than out of memory; for a status, a report
abbrev pub MayAnswer : Ask → Answer → Type 0
MayAnswer (asked_command command) Done = ⊤
MayAnswer (asked_command command) (Refused r) = IsRefusalOfMeaning r
MayAnswer (asked_command command) (Report bytes) = ⊥
MayAnswer (Status request) (Report bytes) = ⊤
MayAnswer (Status request) Done = ⊥
MayAnswer (Status request) (Refused r) = ⊥

-- event `e` may have an outcome where memory is ample: `NoSite`; for an ask, an answer; for a cut or a whole, a frame or
-- `Exhausted`, or no frame of a cut; for a take, `NoEntry`, joined or too large
abbrev pub IsOutcomeOf : Event → Outcome → Type 0
IsOutcomeOf e outcome.NoSite = ⊤
IsOutcomeOf (event.Ask site asked) (outcome.Answered answer) = MayAnswer asked answer
IsOutcomeOf (event.Cut site) (outcome.Cut (Ok entry)) = ⊤
IsOutcomeOf (event.Cut site) (outcome.Cut (Err fault)) = fault ≡ Exhausted
IsOutcomeOf (event.Whole site) (outcome.Cut (Ok (Some entry))) = ⊤
IsOutcomeOf (event.Whole site) (outcome.Cut (Err fault)) = fault ≡ Exhausted
IsOutcomeOf (event.Take site entry) outcome.NoEntry = ⊤
IsOutcomeOf (event.Take site entry) (outcome.Took (Ok done)) = ⊤
IsOutcomeOf (event.Take site entry) (outcome.Took (Err fault)) = (fault ≡ take_fault.CellsFull) ⊎ (fault ≡ take_fault.RunsFull)
IsOutcomeOf e o = ⊥

-- whether an outcome means that nothing changed: all do but a command that is done, a frame that was made, and a frame that
-- was taken
abbrev pub changes_nothing : Outcome → Bool
changes_nothing (outcome.Answered Done) = false
changes_nothing (outcome.Cut (Ok (Some entry))) = false
changes_nothing (outcome.Took (Ok done)) = false
changes_nothing other = true
