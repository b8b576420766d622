-- The changes, meanings and steps of the definitions that plain values stand for.
use Rattle.std.specs.Prelude.{ℕ, ◌≡◌, List, map as each}
use Rattle.std.specs.FinSet as set
use Rattle.dots.specs.Values.{Dot}
use Rattle.operations.specs.Operations.{Operation, asserted_by, named_by}
use Rattle.replica.specs.Changes as changes
use Rattle.replica.specs.SiteViews.{SiteView, site_view}
use Rattle.replica.specs.Steps as steps
use Rattle.reference_model.specs.declared.change.Change.{Change}
use Rattle.reference_model.specs.declared.change.Change.TheVariants.{AddMember, RemoveMember, SetField, CountCall}
use Rattle.reference_model.specs.declared.meaning.Meaning.{Meaning}
use Rattle.reference_model.specs.declared.meaning.Meaning.TheVariants.{Refused, Makes}
use Rattle.reference_model.specs.declared.site_knowledge.SiteKnowledge.{SiteKnowledge}
use Rattle.reference_model.specs.declared.step.Step.{Step}
use Rattle.reference_model.specs.declared.step.Step.TheVariants.{Do, Cut, Whole, Take}
use Rattle.reference_model.specs.declared.outcome.Outcome.{Outcome}
use Rattle.reference_model.specs.declared.outcome.Outcome.TheVariants.{Done, Denied, Framed, Nothing, NoNumber, Taken, CellsFull, RunsFull}
use Rattle.reference_model.specs.Plain.{setting_of, operation_of, knowledge_of}

-- the change of the definitions that a plain change stands for
abbrev pub change_meant : Change → changes.Change
change_meant (AddMember queue interface penalty paused label) = changes.AddMember queue interface penalty paused label
change_meant (RemoveMember queue interface) = changes.RemoveMember queue interface
change_meant (SetField queue interface setting) = changes.SetField queue interface (setting_of setting)
change_meant (CountCall queue calls) = changes.CountCall queue calls

-- the meaning of the definitions that a plain meaning stands for
abbrev pub meaning_of : Meaning → changes.Meaning
meaning_of (Refused refusal) = changes.Refused refusal
meaning_of (Makes operation) = changes.Makes (operation_of operation)

-- what a site knows, in the definitions, where `s` says it by plain values
abbrev pub site_of : SiteKnowledge → steps.SiteKnowledge
site_of s = record { known = knowledge_of s.known.items; buffer = knowledge_of s.buffer.items; frames = s.frames }

-- what the site of the number `site` reads of all that it knows
abbrev pub known_view : ℕ → SiteKnowledge → SiteView
known_view site s = site_view site (knowledge_of s.known.items)

-- what the site of the number `site` reads of its buffer
abbrev pub buffer_view : ℕ → SiteKnowledge → SiteView
buffer_view site s = site_view site (knowledge_of s.buffer.items)

-- the step of the definitions that a plain step stands for
abbrev pub step_of : Step → steps.Step
step_of (Do change) = steps.Do (change_meant change)
step_of Cut = steps.Cut
step_of Whole = steps.Whole
step_of (Take frame) = steps.Take (knowledge_of frame.items)

-- the outcome of the definitions that a plain outcome stands for
abbrev pub outcome_of : Outcome → steps.Outcome
outcome_of Done = steps.Done
outcome_of (Denied refusal) = steps.Denied refusal
outcome_of (Framed number frame) = steps.Framed number (knowledge_of frame.items)
outcome_of Nothing = steps.Nothing
outcome_of NoNumber = steps.NoNumber
outcome_of Taken = steps.Taken
outcome_of CellsFull = steps.CellsFull
outcome_of RunsFull = steps.RunsFull

-- operation `o` asserts the dots `made`, one by one, and names the dots `dead`
pub record Touches (o : Operation) (made : List Dot) (dead : List Dot) : Type 0 where
  pub asserted_are : each (λ p. p.0) (asserted_by o) ≡ made
  pub named_are : named_by o ≡ set.from_list dead
