-- How many bytes good values have at most.
use Rattle.std.proofs.Common.{◌≤◌, ◌+◌, ℕ, [], ◌∷◌, length, Option, Some, None, IfSome, arith}
use Rattle.std.proofs.lemmas.List.{length-append}
use Rattle.replica.specs.declared.command.Command.{Command}
use Rattle.replica.specs.declared.command.Command.TheVariants as command
use Rattle.ask_code.specs.declared.answered.AnsweredCommand.{AnsweredCommand}
use Rattle.ask_code.specs.declared.limits.TheConstants.{MOST_ASK_BYTES}
use Rattle.ask_code.specs.Codes.{Code, bit_code, both, optional}
use Rattle.ask_code.specs.Values.{answer_number, label_code, name_code, pause_code, penalty_code, reason_of, text_code}
use Rattle.ask_code.specs.Asks.{IsAsk, IsCommand, add_code, ask_bytes, command_code, content_bytes, remove_code, setting_code}
use Rattle.ask_code.proofs.ValueLaws.{pause_good}

-- each good value of a code has at most `most` bytes
record IsShort {A : Type 0} (code : Code A) (most : ℕ) : Type 0 where
  pub short : (x : A) → code.IsGood x → length (code.spell x) ≤ most

both_short : {A B : Type 0} (a : Code A) (b : Code B) (m n : ℕ) → IsShort a m → IsShort b n → IsShort (both a b) (m + n)
both_short a b m n f g = record { short = λ x good. omega (arith, length-append (a.spell x.0) (b.spell x.1), f.short x.0 good.0, g.short x.1 good.1) }

optional_at : {A : Type 0} (code : Code A) (most : ℕ) → IsShort code most → (x : Option A) → IfSome x code.IsGood → length ((optional code).spell x) ≤ 1 + most
optional_at code most f None good = omega arith
optional_at code most f (Some x) good = omega (arith, f.short x good)

optional_short : {A : Type 0} (code : Code A) (most : ℕ) → IsShort code most → IsShort (optional code) (1 + most)
optional_short code most f = record { short = λ x good. optional_at code most f x good }

text_short : IsShort text_code 81
text_short = record { short = λ text good. omega (arith, good.short) }

name_short : IsShort name_code 81
name_short = record { short = λ name good. omega (arith, good.text.short) }

penalty_short : IsShort penalty_code 4
penalty_short = record { short = λ penalty good. omega arith }

bit_short : IsShort bit_code 1
bit_short = record { short = λ bit good. omega arith }

label_short : IsShort label_code 162
label_short = record { short = λ label good. (both_short text_code text_code 81 81 text_short text_short).short (label.name, label.state) (good.name, good.state) }

pause_short : IsShort pause_code 82
pause_short = record { short = λ pause good. (optional_short text_code 81 text_short).short (reason_of pause) (pause_good pause good) }

add_short : IsShort add_code 329
add_short = both_short name_code (both name_code (both penalty_code (both bit_code label_code))) 81 248 name_short
    (both_short name_code (both penalty_code (both bit_code label_code)) 81 167 name_short
    (both_short penalty_code (both bit_code label_code) 4 163 penalty_short (both_short bit_code label_code 1 162 bit_short label_short)))

remove_short : IsShort remove_code 162
remove_short = both_short name_code name_code 81 81 name_short name_short

setting_short : {A : Type 0} (code : Code A) (most : ℕ) → IsShort code most → IsShort (setting_code code) (82 + (81 + most))
setting_short code most f = both_short (optional name_code) (both name_code code) 82 (81 + most) (optional_short name_code 81 name_short) (both_short name_code code 81 most name_short f)

content_short : (x : Command) → IsCommand x → length (content_bytes x) ≤ 329
content_short (command.Add q i p b l) good = add_short.short (q, (i, (p, (b, l)))) good
content_short (command.Remove q i) good = omega (arith, remove_short.short (q, i) good)
content_short (command.Pause q i v) good = omega (arith, (setting_short pause_code 82 pause_short).short (q, (i, v)) good)
content_short (command.Penalty q i v) good = omega (arith, (setting_short penalty_code 4 penalty_short).short (q, (i, v)) good)
content_short (command.RingInUse q i v) good = omega (arith, (setting_short bit_code 1 bit_short).short (q, (i, v)) good)
content_short (command.Completed q) good = omega (arith, name_short.short q good)
content_short (command.Abandoned q) good = omega (arith, name_short.short q good)

pub ask_short : (ask : AnsweredCommand) → IsAsk ask → length (ask_bytes ask) ≤ MOST_ASK_BYTES
ask_short ask good = omega (arith, length-append (command_code.spell ask.command) (answer_number ask.answer ∷ []), content_short ask.command good.0)
