-- Comments before a script.
use Rattle.std.proofs.Common.{◌≡◌, ◌∙◌, ℕ, ◌+◌, ◌++◌, List, [], ◌∷◌, length, refl, sym, ap, subst, arith, append_assoc}
use Rattle.std.specs.List.{AllByRecursion}
use Rattle.ami_text.specs.Lines.{lines_text}
use Rattle.script_lines.specs.ScriptLines.{Nothing, lines_of, sense_of}
use Rattle.scripts.specs.Script.{LinesGive, ScriptSites, SenseGives, written_alone}
use Rattle.sites_world.specs.Worlds.{World}
use Rattle.event_script.specs.Comments.{IsComment}
use Rattle.event_script.proofs.Marks.{content_clean, first_line}

-- the lines of comments and of a script behind them
pub lines_behind : (comments : List (List ℕ)) (script : List ℕ) → AllByRecursion IsComment comments → lines_of (lines_text comments ++ script) ≡ comments ++ lines_of script
lines_behind [] script are = refl
lines_behind (line ∷ comments) script are =
    let rest = lines_text comments ++ script in
    ap lines_of (append_assoc (line ++ 10 ∷ []) (lines_text comments) script ∙ append_assoc line (10 ∷ []) rest)
    ∙ first_line [] line rest are.0.clean
    ∙ ap (λ l. l ∷ lines_of rest) (content_clean line are.0.clean)
    ∙ ap (λ ls. line ∷ ls) (lines_behind comments script are.1)

-- a comment asks nothing
asks_nothing : (sites : ℕ) (line : List ℕ) → IsComment line → sense_of sites line ≡ Nothing
asks_nothing sites line is = ap (sense_of sites) is.mark

-- lines give the same behind comments
pub comments_give : (place : ScriptSites) (w : World) (number : ℕ) (comments lines : List (List ℕ)) (text : List ℕ) → AllByRecursion IsComment comments
    → LinesGive place w (number + length comments) lines text 0 → LinesGive place w number (comments ++ lines) text 0
comments_give place w number [] lines text are gives = subst (λ n. LinesGive place w n lines text 0) (omega arith) gives
comments_give place w number (line ∷ comments) lines text are gives = (
  written_alone w [],
  text,
  0,
  subst (λ s. SenseGives place w number s (written_alone w [])) (sym (asks_nothing place.sites line are.0)) refl,
  comments_give place w (number + 1) comments lines text are.1 (subst (λ n. LinesGive place w n lines text 0) (omega arith) gives),
  refl,
  refl,
)
