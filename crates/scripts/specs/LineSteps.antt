-- The effects of single steps of a script on sites that stand for a world of operations.
use Rattle.std.specs.Prelude.{ℕ, ◌≡◌, Bool, false, List, length, Option}
use Rattle.std.specs.Io.KnownBytes.{Appends}
use Rattle.ami_text.specs.Devices.{HasTaken}
use Rattle.sites_world.specs.declared.event.Event.{Event}
use Rattle.sites_world.specs.declared.outcome.Outcome.{Outcome}
use Rattle.sites_world.specs.Worlds.{IsReached, World, happens}
use Rattle.sites_world.specs.WorldStates.{StandsForWorld, WorldState}
use Rattle.scripts.specs.declared.script.Output.{Output}
use Rattle.scripts.specs.declared.script.Script.{Script}
use Rattle.script_lines.specs.ScriptLines.{Sense}
use Rattle.scripts.specs.Answers.{unknown_text}
use Rattle.scripts.specs.Script.{ScriptSites, Given, SenseGives, LineGives}

-- the sites 0 to `sites` less 1, each with the queues of these names
abbrev pub listed_place : ℕ → List (List ℕ) → ScriptSites
listed_place sites names = record { sites = sites; names = names }

-- the sites of a script
abbrev pub place_of : Script → ScriptSites
place_of script = listed_place script.sites script.world.names

-- sites stand for a world that events lead to
pub record StandsAt (state : WorldState) (w : World) : Type 0 where
  pub reached : IsReached state.names (length state.sites) w
  pub stands : StandsForWorld state w

-- an event leads to the world that the sites then stand for, and has this outcome
pub record IsHappening (place : ScriptSites) (w : World) (e : Event) (new : WorldState) (o : Outcome) : Type 0 where
  pub stands : StandsAt new (happens place.names w e).0
  pub is : o ≡ (happens place.names w e).1

-- sites stand for the world after an output, and this is its text
pub record StandsForGiven (given : Given) (new : WorldState) (text : List ℕ) : Type 0 where
  pub stands : StandsAt new given.after
  pub is : text ≡ given.text

-- the output of a line of this number that asks this
pub record IsOutput (place : ScriptSites) (w : World) (number : ℕ) (sense : Sense) (new : WorldState) (output : Output) : Type 0 where
  pub given : Given
  pub gives : SenseGives place w number sense given
  pub holds : StandsForGiven given new output.text.items
  pub understood : output.understood ≡ given.understood

-- the output of a line of this number that isn't understood
pub record IsUnknown (number : ℕ) (output : Output) : Type 0 where
  pub is : output.text.items ≡ unknown_text number
  pub understood : output.understood ≡ false

-- a line was run, and its output was written
pub record GaveLine (place : ScriptSites) (w : World) (number : ℕ) (line : List ℕ) (new : WorldState) (before after : Option (List ℕ)) (understood : Bool) : Type 0 where
  pub given : Given
  pub gives : LineGives place w number line given
  pub stands : StandsAt new given.after
  pub taken : Appends before after given.text
  pub is : understood ≡ given.understood

-- a line was run, and a prefix of its output was written
pub record BeganLine (place : ScriptSites) (w : World) (number : ℕ) (line : List ℕ) (before after : Option (List ℕ)) : Type 0 where
  pub given : Given
  pub gives : LineGives place w number line given
  pub taken : HasTaken before after given.text
