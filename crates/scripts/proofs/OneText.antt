-- The lines of a script have one text.
use Rattle.std.proofs.Common.{◌≡◌, ℕ, ◌+◌, List, [], ◌∷◌, ◌++◌, append_assoc, append-nil, refl, sym, ◌∙◌, ap, subst, inl, inr, slice_get, Option, Some, None}
use mathlib.Core.List.{head-eq_of_cons-eq}
use Rattle.ami_text.specs.MessageFields.{NameAndValue}
use Rattle.ami_text.specs.Stream.{Ending, Rest, Reads}
use Rattle.operations.specs.Knowledge.{Knowledge}
use Rattle.delta.specs.DeltaStates.{DeltaState, IsSame}
use Rattle.delta.specs.Standing.{IsDeltaOf}
use Rattle.delta.specs.declared.frame.Frame.{Frame}
use Rattle.delta.specs.Frames.{IsSameFrame}
use Rattle.delta_codec.specs.Frames.{SpellsIn}
use Rattle.delta_codec.specs.declared.limits.TheConstants.{VERSION}
use Rattle.sites_world.specs.Worlds.{Entry, World}
use Rattle.scripts.specs.Answers.{frame_text}
use Rattle.script_lines.specs.ScriptLines.{Sense, Nothing, Message, Count, Offer, Cut, Whole, Take, Show, Unknown, sense_of, stream_of}
use Rattle.scripts.specs.Script.{AreBegun, AreDone, LinesGive, Given, SenseGives, HaveOneText, IsFront, IsEntryShown, ScriptSites, given_by_message, unknown_in, written_alone}

-- the messages of a stream
abbrev Messages : Type 0
Messages = List (List NameAndValue)

-- each stream has one list of messages
abbrev pub OneList : Type 0
OneList = (bytes : List ℕ) (messages others : Messages) (ending other : Ending) → Reads bytes messages ending → Reads bytes others other → messages ≡ others

-- a knowledge has one delta
abbrev pub HasOneDelta : Type 0
HasOneDelta = (x y : DeltaState) (k : Knowledge) → IsDeltaOf x k → IsDeltaOf y k → IsSame x y

-- a frame has one encoding in the version that sites write
abbrev pub HasOneSpelling : Type 0
HasOneSpelling = (x y : Frame) (a b : List ℕ) → IsSameFrame x y → SpellsIn VERSION x a → SpellsIn VERSION y b → a ≡ b

-- nothing is begun of any lines
begun_nothing : (place : ScriptSites) (w : World) (number : ℕ) (lines : List (List ℕ)) → AreBegun place w number lines []
begun_nothing place w number [] = refl
begun_nothing place w number (line ∷ lines) = inl refl

-- what the first of lines give was begun of them
first_begun : (place : ScriptSites) (w : World) (number : ℕ) (first left : List (List ℕ)) (text : List ℕ) (unknown : ℕ)
    → LinesGive place w number first text unknown → AreBegun place w number (first ++ left) text
first_begun place w number [] left text unknown gives = subst (AreBegun place w number left) (sym gives.0) (begun_nothing place w number left)
first_begun place w number (line ∷ first) left text unknown gives =
    inr (gives.0, gives.3, inr (gives.1, first_begun place gives.0.after (number + 1) first left gives.1 gives.2 gives.4, gives.5))

-- what was done of lines was begun of them
done_begun : (place : ScriptSites) (w : World) (number : ℕ) (lines : List (List ℕ)) (text : List ℕ) → AreDone place w number lines text → AreBegun place w number lines text
done_begun place w number lines text done =
    subst (λ (all : List (List ℕ)). AreBegun place w number all text) (sym done.is) (first_begun place w number done.first done.left text done.unknown done.gives)

-- an entry is shown in one way
one_shown : HasOneDelta → HasOneSpelling → (place : ℕ) (entry : Option Entry) (text other : List ℕ) → IsEntryShown place entry text → IsEntryShown place entry other → other ≡ text
one_shown delta spelling place None text other a b = b ∙ sym a
one_shown delta spelling place (Some entry) text other a b =
    let x = a.1.frame in
    let y = b.1.frame in
    let same : IsSameFrame y x = record {
      maker = b.1.is.maker ∙ sym a.1.is.maker;
      number = b.1.is.number ∙ sym a.1.is.number;
      delta = delta y.delta x.delta entry.carried b.1.is.delta a.1.is.delta;
    } in
    b.2 ∙ ap frame_text (spelling y x b.0 a.0 same b.1.spells a.1.spells) ∙ sym a.2

-- each line gives one thing
one_given : OneList → HasOneDelta → HasOneSpelling → (place : ScriptSites) (w : World) (number : ℕ) (sense : Sense) (given other : Given)
    → SenseGives place w number sense given → SenseGives place w number sense other → other ≡ given
one_given one delta spelling place w number Nothing given other a b = b ∙ sym a
one_given one delta spelling place w number Unknown given other a b = b ∙ sym a
one_given one delta spelling place w number (Count site calls queue) given other a b = b ∙ sym a
one_given one delta spelling place w number (Offer site parts) given other a b = b ∙ sym a
one_given one delta spelling place w number (Cut site) given other a b = b ∙ sym a
one_given one delta spelling place w number (Whole site) given other a b = b ∙ sym a
one_given one delta spelling place w number (Take site entry) given other a b = b ∙ sym a
one_given one delta spelling place w number (Show entry) given other a b =
    b.2 ∙ ap (written_alone w) (one_shown delta spelling entry (slice_get w.pool entry) a.0 b.0 a.1 b.1) ∙ sym a.2
one_given one delta spelling place w number (Message site fields) given other (inl a) (inl b) =
    b.2 ∙ ap (given_by_message place w site) (head-eq_of_cons-eq (one (stream_of fields) (b.0 ∷ []) (a.0 ∷ []) (Rest b.1.0) (Rest a.1.0) b.1.1 a.1.1)) ∙ sym a.2
one_given one delta spelling place w number (Message site fields) given other (inl a) (inr b) = absurd (b.0 a.0 a.1)
one_given one delta spelling place w number (Message site fields) given other (inr a) (inl b) = absurd (a.0 b.0 b.1)
one_given one delta spelling place w number (Message site fields) given other (inr a) (inr b) = b.1 ∙ sym a.1

-- the output of lines is one text
module _ (one : OneList) (delta : HasOneDelta) (spelling : HasOneSpelling) where
  pub text_one : (place : ScriptSites) (w : World) (number : ℕ) (lines : List (List ℕ)) (text other : List ℕ) (unknown others : ℕ)
      → LinesGive place w number lines text unknown → LinesGive place w number lines other others → (other ≡ text) × (others ≡ unknown)
  text_one place w number [] text other unknown others a b = (b.0 ∙ sym a.0, b.1 ∙ sym a.1)
  text_one place w number (line ∷ lines) text other unknown others a b =
      let same = one_given one delta spelling place w number (sense_of place.sites line) a.0 b.0 a.3 b.3 in
      let moved = subst (λ (g : Given). LinesGive place g.after (number + 1) lines b.1 b.2) same b.4 in
      let rest = text_one place a.0.after (number + 1) lines a.1 b.1 a.2 b.2 a.4 moved in (
        b.5 ∙ (λ i. (same i).text ++ rest.0 i) ∙ sym a.5,
        b.6 ∙ (λ i. unknown_in (same i) + rest.1 i) ∙ sym a.6,
      )

  -- what was begun of lines is a prefix of their text
  pub begun_front : (place : ScriptSites) (w : World) (number : ℕ) (lines : List (List ℕ)) (text front : List ℕ) (unknown : ℕ)
      → LinesGive place w number lines text unknown → AreBegun place w number lines front → IsFront front text
  begun_front place w number [] text front unknown a b = ([], a.0 ∙ sym b ∙ sym (append-nil front))
  begun_front place w number (line ∷ lines) text front unknown a (inl nothing) = (text, ap (λ f. f ++ text) (sym nothing))
  begun_front place w number (line ∷ lines) text front unknown a (inr (given, gives, inl part)) =
      let same : given ≡ a.0 = one_given one delta spelling place w number (sense_of place.sites line) a.0 given a.3 gives in
      (part.0 ++ a.1, a.5 ∙ ap (λ (g : Given). g.text ++ a.1) (sym same) ∙ ap (λ t. t ++ a.1) part.1 ∙ append_assoc front part.0 a.1)
  begun_front place w number (line ∷ lines) text front unknown a (inr (given, gives, inr (more, begun, is))) =
      let same : given ≡ a.0 = one_given one delta spelling place w number (sense_of place.sites line) a.0 given a.3 gives in
      let moved = subst (λ (g : Given). AreBegun place g.after (number + 1) lines more) same begun in
      let rest = begun_front place a.0.after (number + 1) lines a.1 more a.2 a.4 moved in
      (rest.0, a.5 ∙ (λ i. (sym same i).text ++ rest.1 i) ∙ sym (append_assoc given.text more rest.0) ∙ ap (λ t. t ++ rest.0) (sym is))

  -- the output of lines that were done is a prefix of the text
  pub done_front : (place : ScriptSites) (w : World) (number : ℕ) (lines : List (List ℕ)) (text front : List ℕ) (unknown : ℕ)
      → LinesGive place w number lines text unknown → AreDone place w number lines front → IsFront front text
  done_front place w number lines text front unknown is done = begun_front place w number lines text front unknown is (done_begun place w number lines front done)

  pub one_text : (place : ScriptSites) (w : World) (number : ℕ) (lines : List (List ℕ)) → HaveOneText place w number lines
  one_text place w number lines = record {
    text = λ text other unknown others a b. (text_one place w number lines text other unknown others a b).0;
    unknown = λ text other unknown others a b. (text_one place w number lines text other unknown others a b).1;
    begun = begun_front place w number lines;
    done = done_front place w number lines;
  }
