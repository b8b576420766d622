-- What single lines give.
use Rattle.std.specs.Io.KnownBytes.{Appends}
use Rattle.std.proofs.Common.{◌≡◌, ◌∙◌, ℕ, true, inl, inr, List, Option, Some, None, Vec, Global, refl, sym, subst}
use Rattle.dots.specs.declared.calls.Calls.{Calls}
use Rattle.ami_text.specs.Devices.{HasTaken}
use Rattle.ami_session.specs.Checks.{Reaction, Replies, Asks, Ends, reaction}
use Rattle.ami_session.specs.FieldValues.{Fields}
use Rattle.sites_world.specs.Worlds.{World}
use Rattle.sites_world.specs.WorldStates.{WorldState}
use Rattle.scripts.specs.declared.script.Output.{Output}
use Rattle.scripts.specs.declared.script.Script.{Script}
use Rattle.script_lines.specs.ScriptLines.{IsMessage, Message, Sense, sense_of}
use Rattle.scripts.specs.Script.{Given, SenseGives, ScriptSites, given_by_count, given_by_message, given_by_reaction, not_understood, trusted_session}
use Rattle.scripts.specs.LineSteps.{BeganLine, GaveLine, StandsForGiven, IsOutput, IsUnknown, StandsAt}

-- the output of a line that is understood
pub output_holds : (place : ScriptSites) (w : World) (number : ℕ) (sense : Sense) (new : WorldState) (output : Output) (given : Given)
    → SenseGives place w number sense given → StandsForGiven given new output.text.items → output.understood ≡ given.understood → IsOutput place w number sense new output
output_holds place w number sense new output given gives holds understood = record {
  given = given;
  gives = gives;
  holds = holds;
  understood = understood;
}

-- of one that isn't understood
pub output_unknown : (place : ScriptSites) (w : World) (number : ℕ) (sense : Sense) (state : WorldState) (output : Output)
    → SenseGives place w number sense (not_understood w number) → StandsAt state w → IsUnknown number output → IsOutput place w number sense state output
output_unknown place w number sense state output gives stands is =
    output_holds place w number sense state output (not_understood w number) gives (record { stands = stands; is = is.is }) is.understood

-- of fields that are no message
pub output_none : (place : ScriptSites) (w : World) (number site : ℕ) (fields : List ℕ) (state : WorldState) (output : Output)
    → ((message : Fields) → IsMessage fields message → ⊥) → StandsAt state w → IsUnknown number output → IsOutput place w number (Message site fields) state output
output_none place w number site fields state output none stands is =
    output_unknown place w number (Message site fields) state output (inr (none, refl)) stands is

-- what a session does is understood
is_understood : (place : ScriptSites) (w : World) (site : ℕ) (r : Reaction) → true ≡ (given_by_reaction place w site r).understood
is_understood place w site (Replies bytes) = refl
is_understood place w site (Ends bytes) = refl
is_understood place w site (Asks ask waiting) = refl

-- of fields that are one
pub output_message : (place : ScriptSites) (w : World) (number site : ℕ) (fields : List ℕ) (message : Fields) (new : WorldState) (output : Output)
    → IsMessage fields message → StandsForGiven (given_by_message place w site message) new output.text.items → output.understood ≡ true
    → IsOutput place w number (Message site fields) new output
output_message place w number site fields message new output is holds understood =
    output_holds place w number (Message site fields) new output (given_by_message place w site message) (inl (message, is, refl)) holds
    (understood ∙ is_understood place w site (reaction trusted_session message))

-- a line that counts a call is understood
pub count_understood : (place : ScriptSites) (w : World) (site : ℕ) (calls : Calls) (queue : Option (List ℕ)) → true ≡ (given_by_count place w site calls queue).understood
count_understood place w site calls None = refl
count_understood place w site calls (Some queue) = refl

-- the output of a line whose text was found, at the sites as they are then
pub line_holds : (place : ScriptSites) (w : World) (number : ℕ) (whole asked : Sense) (script new : Script) (text found : Vec ℕ Global) (given : Given)
    → asked ≡ whole → script ≡ new → text ≡ found → SenseGives place w number asked given → true ≡ given.understood → StandsForGiven given new.world found.items
    → IsOutput place w number whole script.world (record { text = text; understood = true })
line_holds place w number whole asked script new text found given asks now is gives understood holds =
    subst (λ (x : Sense). IsOutput place w number x script.world (record { text = text; understood = true })) asks
    (subst (λ (s : Script). IsOutput place w number asked s.world (record { text = text; understood = true })) (sym now)
    (subst (λ (t : Vec ℕ Global). IsOutput place w number asked new.world (record { text = t; understood = true })) (sym is)
    (output_holds place w number asked new.world (record { text = found; understood = true }) given gives holds understood)))

-- the output of a line was written
pub gave_line : (place : ScriptSites) (w : World) (number : ℕ) (line : List ℕ) (new : WorldState) (output : Output) (before after : Option (List ℕ))
    → IsOutput place w number (sense_of place.sites line) new output → Appends before after output.text.items
    → GaveLine place w number line new before after output.understood
gave_line place w number line new output before after is written = record {
  given = is.given;
  gives = is.gives;
  stands = is.holds.stands;
  taken = subst (Appends before after) is.holds.is written;
  is = is.understood;
}

-- a prefix of the output of a line was written
pub began_line : (place : ScriptSites) (w : World) (number : ℕ) (line : List ℕ) (new : WorldState) (output : Output) (before after : Option (List ℕ))
    → IsOutput place w number (sense_of place.sites line) new output → HasTaken before after output.text.items → BeganLine place w number line before after
began_line place w number line new output before after is begun = record {
  given = is.given;
  gives = is.gives;
  taken = subst (HasTaken before after) is.holds.is begun;
}
