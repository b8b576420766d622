-- How a script goes on, line by line.
use Rattle.std.proofs.Common.{◌≡◌, ℕ, ◌+◌, inl, inr, Bool, cond, List, [], ◌∷◌, ◌++◌, refl, sym, ap, subst, arith, append_assoc, append-nil, Option, length}
use Rattle.std.specs.Io.KnownBytes.{Appends}
use Rattle.sites_world.specs.Worlds.{World}
use Rattle.sites_world.specs.WorldStates.{WorldState}
use Rattle.script_lines.specs.ScriptLines.{lines_of}
use Rattle.scripts.specs.Script.{AreBegun, AreDone, Given, LineGives, LinesGive, HasBegunText, HasDoneLines, HasWritten, ScriptSites, unknown_in}
use Rattle.scripts.specs.LineSteps.{BeganLine, GaveLine, StandsAt}
use Rattle.ami_text.proofs.Taking.{taken_grows, taken_none}

-- nothing is done of any lines
done_nothing : (place : ScriptSites) (w : World) (number : ℕ) (lines : List (List ℕ)) → AreDone place w number lines []
done_nothing place w number lines = record { first = []; left = lines; is = refl; unknown = 0; gives = (refl, refl) }

-- a line is done, and then what was done of the others
done_line : (place : ScriptSites) (w : World) (number : ℕ) (line : List ℕ) (lines : List (List ℕ)) (given : Given) (more : List ℕ) → LineGives place w number line given
    → AreDone place given.after (number + 1) lines more → AreDone place w number (line ∷ lines) (given.text ++ more)
done_line place w number line lines given more gives others = record {
  first = line ∷ others.first;
  left = others.left;
  is = ap (λ (all : List (List ℕ)). line ∷ all) others.is;
  unknown = unknown_in given + others.unknown;
  gives = (given, more, others.unknown, gives, others.gives, refl, refl);
}

-- a script that has come so far: the sites stand for a world, a text was written, and with what the rest gives it is the script's, with
-- what is begun of the rest it is begun, and with what is done of the rest it is done
pub record Going (place : ScriptSites) (start : World) (script : List ℕ) (before : Option (List ℕ)) (state : WorldState) (rest : List ℕ) (number unknown : ℕ) (now : Option (List ℕ)) : Type 0 where
  pub w : World
  pub stands : StandsAt state w
  pub text : List ℕ
  pub taken : Appends before now text
  pub goes_on : (more : List ℕ) (others : ℕ) → LinesGive place w (number + 1) (lines_of rest) more others → LinesGive place start 1 (lines_of script) (text ++ more) (unknown + others)
  pub is_begun : (more : List ℕ) → AreBegun place w (number + 1) (lines_of rest) more → AreBegun place start 1 (lines_of script) (text ++ more)
  pub is_done : (more : List ℕ) → AreDone place w (number + 1) (lines_of rest) more → AreDone place start 1 (lines_of script) (text ++ more)

-- how many lines aren't understood, of one that is or isn't
abbrev pub unknown_of : Bool → ℕ
unknown_of understood = cond understood 0 1

-- a script begins
pub going_start : (place : ScriptSites) (start : World) (script : List ℕ) (before : Option (List ℕ)) (state : WorldState) → StandsAt state start
    → Going place start script before state script 0 0 before
going_start place start script before state stands = record {
  w = start;
  stands = stands;
  text = [];
  taken = taken_none before;
  goes_on = λ more others is. subst (λ (n : ℕ). LinesGive place start 1 (lines_of script) more n) (omega arith) is;
  is_begun = λ more is. is;
  is_done = λ more is. is;
}

-- a script goes on by a line
pub going_on : (place : ScriptSites) (start : World) (script : List ℕ) (before : Option (List ℕ)) (state new : WorldState) (rest line others : List ℕ)
    (number unknown later : ℕ) (now after : Option (List ℕ)) (understood : Bool) (here : ScriptSites) → Going place start script before state rest number unknown now
    → lines_of rest ≡ line ∷ lines_of others
    → here ≡ place → ((w : World) → StandsAt state w → GaveLine here w (number + 1) line new now after understood)
    → later ≡ unknown + unknown_of understood → Going place start script before new others (number + 1) later after
going_on place start script before state new rest line others number unknown later now after understood here was cut same_place gave is_later =
    let by = subst (λ (p : ScriptSites). GaveLine p was.w (number + 1) line new now after understood) same_place (gave was.w was.stands) in record {
      w = by.given.after;
      stands = by.stands;
      text = was.text ++ by.given.text;
      taken = taken_grows before now after was.text by.given.text was.taken by.taken;
      goes_on = λ more several is.
          let whole : LinesGive place was.w (number + 1) (line ∷ lines_of others) (by.given.text ++ more) (unknown_in by.given + several) = (by.given, more, several, by.gives, is, refl, refl) in
          let at = subst (λ (lines : List (List ℕ)). LinesGive place was.w (number + 1) lines (by.given.text ++ more) (unknown_in by.given + several)) (sym cut) whole in
          let all = was.goes_on (by.given.text ++ more) (unknown_in by.given + several) at in
          let same : unknown_of understood ≡ unknown_in by.given = ap unknown_of by.is in
          let count : unknown + (unknown_in by.given + several) ≡ later + several = omega (arith, same, is_later) in
          subst (λ (n : ℕ). LinesGive place start 1 (lines_of script) ((was.text ++ by.given.text) ++ more) n) count
          (subst (λ (t : List ℕ). LinesGive place start 1 (lines_of script) t (unknown + (unknown_in by.given + several))) (sym (append_assoc was.text by.given.text more)) all);
      is_begun = λ more is.
          let whole : AreBegun place was.w (number + 1) (line ∷ lines_of others) (by.given.text ++ more) = inr (by.given, by.gives, inr (more, is, refl)) in
          let at = subst (λ (lines : List (List ℕ)). AreBegun place was.w (number + 1) lines (by.given.text ++ more)) (sym cut) whole in
          subst (AreBegun place start 1 (lines_of script)) (sym (append_assoc was.text by.given.text more)) (was.is_begun (by.given.text ++ more) at);
      is_done = λ more is.
          let whole = done_line place was.w (number + 1) line (lines_of others) by.given more by.gives is in
          let at = subst (λ (lines : List (List ℕ)). AreDone place was.w (number + 1) lines (by.given.text ++ more)) (sym cut) whole in
          subst (AreDone place start 1 (lines_of script)) (sym (append_assoc was.text by.given.text more)) (was.is_done (by.given.text ++ more) at);
    }

-- a script that has come to its end
pub going_end : (place : ScriptSites) (start : World) (script : List ℕ) (before : Option (List ℕ)) (state : WorldState) (rest : List ℕ) (number unknown : ℕ)
    (now : Option (List ℕ)) → Going place start script before state rest number unknown now → length rest ≡ 0 → HasWritten place start script before now unknown
going_end place start script before state (b ∷ rest) number unknown now was empty = absurd (omega (arith, empty))
going_end place start script before state [] number unknown now was empty =
    let all = was.goes_on [] 0 (refl, refl) in
    record {
      text = was.text ++ [];
      is_text = subst (λ (n : ℕ). LinesGive place start 1 (lines_of script) (was.text ++ []) n) (omega arith) all;
      taken = subst (Appends before now) (sym (append-nil was.text)) was.taken;
    }

-- a script that stops before a line
pub going_stops : (place : ScriptSites) (start : World) (script : List ℕ) (before : Option (List ℕ)) (state : WorldState) (rest : List ℕ) (number unknown : ℕ)
    (now after : Option (List ℕ)) → Going place start script before state rest number unknown now → after ≡ now → HasDoneLines place start script before after
going_stops place start script before state rest number unknown now after was same = record {
  text = was.text ++ [];
  is_done = was.is_done [] (done_nothing place was.w (number + 1) (lines_of rest));
  taken = subst (λ t. Appends before t (was.text ++ [])) (sym same) (subst (Appends before now) (sym (append-nil was.text)) was.taken);
}

-- a script that stops in a line
pub going_breaks : (place : ScriptSites) (start : World) (script : List ℕ) (before : Option (List ℕ)) (state : WorldState) (rest line others : List ℕ) (number unknown : ℕ)
    (now after : Option (List ℕ)) (here : ScriptSites) → Going place start script before state rest number unknown now → lines_of rest ≡ line ∷ lines_of others
    → here ≡ place → ((w : World) → StandsAt state w → BeganLine here w (number + 1) line now after) → HasBegunText place start script before after
going_breaks place start script before state rest line others number unknown now after here was cut same_place began =
    let by = subst (λ (p : ScriptSites). BeganLine p was.w (number + 1) line now after) same_place (began was.w was.stands) in
    let front = by.taken.front in
    let first : AreBegun place was.w (number + 1) (line ∷ lines_of others) front = inr (by.given, by.gives, inl (by.taken.rest, by.taken.is)) in
    record {
      text = was.text ++ front;
      is_begun = was.is_begun front (subst (λ (lines : List (List ℕ)). AreBegun place was.w (number + 1) lines front) (sym cut) first);
      taken = taken_grows before now after was.text front was.taken by.taken.taken;
    }
