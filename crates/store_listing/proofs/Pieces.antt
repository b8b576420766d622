-- The pieces of a line, put together.
use Rattle.std.proofs.Common.{◌≡◌, ◌∙◌, ◌<◌, ◌+◌, ℕ, Bool, List, [], ◌∷◌, ◌++◌, length, get_or, take, codes, decimal, Result, Ok, Err, IfOk, IfErr, sym, ap, subst, append_assoc, append-nil}
use Rattle.std.proofs.lemmas.Grind.{flat_map-append}
use Rattle.std.proofs.lemmas.List.{take_more}
use Rattle.replica.specs.declared.command.Command.{Command}
use Rattle.store_listing.specs.declared.frames.FrameSummary.{FrameSummary}
use Rattle.store_listing.specs.Lines.{ask_line, bytes_line, command_words, frame_words, line_of, step_front, step_line}
use Rattle.store_listing.specs.Rows.{IsFrameText, IsSummary}
use Rattle.store_listing.specs.Texts.{shown, shown_byte}

-- one byte more of a text is shown
pub shown_more : (text start out new : List ℕ) (i byte : ℕ) → i < length text → byte ≡ get_or text i byte → out ≡ start ++ shown (take i text) → new ≡ out ++ shown_byte byte
    → new ≡ start ++ shown (take (i + 1) text)
shown_more text start out new i byte within is before wrote =
    wrote ∙ ap (λ l. l ++ shown_byte byte) before ∙ append_assoc start (shown (take i text)) (shown_byte byte)
    ∙ ap (λ l. start ++ (shown (take i text) ++ l)) (sym (append-nil (shown_byte byte))) ∙ ap (λ l. start ++ l) (sym (flat_map-append shown_byte (take i text) (byte ∷ [])))
    ∙ ap (λ b. start ++ shown (take i text ++ b ∷ [])) is ∙ ap (λ l. start ++ shown l) (sym (take_more text i byte within))

-- a line of words behind the position of its row
pub line_ended : (position : ℕ) (words a b c : List ℕ) → a ≡ decimal position ++ codes " " → b ≡ a ++ words → c ≡ b ++ codes "\n" → c ≡ line_of position words
line_ended position words a b c first second third =
    third ∙ ap (λ l. l ++ codes "\n") (second ∙ ap (λ l. l ++ words) first) ∙ append_assoc (decimal position ++ codes " ") words (codes "\n")
    ∙ append_assoc (decimal position) (codes " ") (words ++ codes "\n")

-- the line of a command that is done
pub ask_ended : (position pass : ℕ) (command : Command) (a b c : List ℕ) → a ≡ step_front position pass → b ≡ a ++ command_words command → c ≡ b ++ codes ": done\n"
    → c ≡ ask_line position pass command
ask_ended position pass command a b c first second third =
    third ∙ ap (λ l. l ++ codes ": done\n") (second ∙ ap (λ l. l ++ command_words command) first) ∙ append_assoc (step_front position pass) (command_words command) (codes ": done\n")
    ∙ ap (λ l. step_front position pass ++ l) (sym (append_assoc (command_words command) (codes ": done") (codes "\n")))

-- the line of a frame, and the line of its bytes
pub frame_ended : (position pass : ℕ) (moved words bytes a b c : List ℕ) → a ≡ step_front position pass → b ≡ a ++ (moved ++ (codes ": " ++ (words ++ codes "\n"))) → c ≡ b ++ bytes
    → c ≡ step_line position pass (moved ++ (codes ": " ++ words)) ++ bytes
frame_ended position pass moved words bytes a b c first second third =
    third ∙ ap (λ l. l ++ bytes) (second ∙ ap (λ l. l ++ (moved ++ (codes ": " ++ (words ++ codes "\n")))) first)
    ∙ ap (λ l. (step_front position pass ++ l) ++ bytes) (ap (λ l. moved ++ l) (sym (append_assoc (codes ": ") words (codes "\n"))) ∙ sym (append_assoc moved (codes ": " ++ words) (codes "\n")))

-- the text of a frame, by its summary
pub frame_text : (f : Bool) (position pass : ℕ) (moved bytes held : List ℕ) (summary : FrameSummary) (a b c : List ℕ) → held ≡ bytes → IsSummary held summary → a ≡ step_front position pass
    → b ≡ a ++ (moved ++ (codes ": " ++ (frame_words summary (length held) ++ codes "\n"))) → c ≡ b ++ bytes_line f held → IsFrameText f position pass moved bytes c
frame_text f position pass moved bytes held summary a b c same is first second third = subst (λ h. IsFrameText f position pass moved h c) same (record {
  frame = is.frame;
  spelled = is.spelled;
  is = frame_ended position pass moved (frame_words summary (length held)) (bytes_line f held) a b c first second third
      ∙ ap (λ s. step_line position pass (moved ++ (codes ": " ++ frame_words s (length held))) ++ bytes_line f held) is.is;
})

-- what holds at Ok, by what else does
pub if_ok : {A E : Type 0} (P Q : A → Type 0) (r : Result A E) → ((x : A) → P x → Q x) → IfOk r P → IfOk r Q
if_ok P Q (Ok x) more p = more x p
if_ok P Q (Err e) more p = tt

-- what holds at Err, by what else does
pub if_err : {A E : Type 0} (P Q : E → Type 0) (r : Result A E) → ((e : E) → P e → Q e) → IfErr r P → IfErr r Q
if_err P Q (Ok x) more p = tt
if_err P Q (Err e) more p = more e p
