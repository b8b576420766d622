-- Bytes are the encoding of a command with its answer, or have a fault.
use Rattle.std.proofs.Common.{◌≡◌, ◌≢◌, ◌⊎◌, inl, inr, ℕ, zero, suc, ◌<◌, true, false, true≢false, List, [], ◌∷◌, ◌++◌, length, Option, Some, None, IfSome, Result, Ok, Err, refl, sym, subst, ◌∙◌, arith}
use Rattle.std.specs.List.{list_any}
use Rattle.std.proofs.lemmas.Bool.{cases_lt, cases_Bool}
use Rattle.std.proofs.lemmas.List.{append-nil, get_or_past}
use Rattle.dots.specs.declared.label.Label.{Label}
use Rattle.dots.specs.declared.limits.TheConstants.{MOST_PENALTY, TEXT_BYTES}
use Rattle.dots.specs.Values.{IsName, IsPenalty, IsText, is_bad_byte}
use Rattle.dots.specs.WithinLimits.{IsLabel, IsPause}
use Rattle.replica.specs.declared.command.Command.{Command}
use Rattle.replica.specs.declared.command.Command.TheVariants as command
use Rattle.replica.specs.declared.refusal.Refusal.{Refusal}
use Rattle.replica.specs.declared.refusal.Refusal.TheVariants.{NoSuchQueue, AlreadyThere, NotThere, MembersFull, Exhausted, TotalFull, Memory}
use Rattle.ask_code.specs.declared.ask_fault.AskFault.TheVariants.{BadAnswer, BadKind, BadNumber, BadText, Trailing}
use Rattle.ask_code.specs.declared.kind.Kind.{Kind}
use Rattle.ask_code.specs.declared.kind.Kind.TheVariants as kind
use Rattle.ask_code.specs.Codes.{Code, bit_code, both, byte_code, counted_code, number_code, optional}
use Rattle.ask_code.specs.Values.{IsKeptAnswer, answer_code, answer_number, kind_code, kind_number, label_code, name_code, pause_code, penalty_code, reason_of, text_code}
use Rattle.ask_code.specs.Asks.{AreBytes, ContentFails, IsFaulty, IsCommand, IsEncodedAsk, add_code, ask_code, command_code, content_bytes, kind_of, remove_code, setting_code}
use Rattle.ask_code.proofs.TotalCodes.{HasSome, HasView, IsBytes, IsComplete, Rest, bit_total, both_total, byte_total, coded_total, counted_total, led_total, number_total, optional_total, viewed_total}

-- ---- values

itself : {A : Type 0} (P : A → Type 0) (r : A) → P r ⊎ (P r → ⊥) → HasView (λ x. x) P r ⊎ ((x : A) → P x → x ≢ r)
itself P r decided =
    elim decided [
      | inl good ↦ inl (record { value = r; good = good; is = refl })
      | inr not ↦ inr (λ x good e. not (subst P e good))
    ]

is_text : (bytes : List ℕ) → IsText bytes ⊎ (IsText bytes → ⊥)
is_text bytes =
    elim (cases_lt TEXT_BYTES (length bytes)) [
      | inl long ↦ inr (λ text. omega (arith, long, text.short))
      | inr short ↦ elim (cases_Bool (list_any is_bad_byte bytes)) [
        | inl bad ↦ inr (λ text. true≢false (sym bad ∙ text.clean))
        | inr clean ↦ inl (record { short = short; clean = clean })
      ]
    ]

is_name : (bytes : List ℕ) → IsName bytes ⊎ (IsName bytes → ⊥)
is_name bytes =
    elim (is_text bytes) [
      | inl text ↦ elim (cases_lt 0 (length bytes)) [
        | inl present ↦ inl (record { text = text; present = present })
        | inr empty ↦ inr (λ name. omega (arith, empty, name.present))
      ]
      | inr not ↦ inr (λ name. not name.text)
    ]

is_penalty : (n : ℕ) → IsPenalty n ⊎ (IsPenalty n → ⊥)
is_penalty n =
    elim (cases_lt MOST_PENALTY n) [
      | inl above ↦ inr (λ within. omega (arith, above, within))
      | inr within ↦ inl within
    ]

text_total : IsComplete text_code
text_total = coded_total counted_code (λ text. text) IsText BadText counted_total (λ bytes. itself IsText bytes (is_text bytes))

name_total : IsComplete name_code
name_total = coded_total counted_code (λ name. name) IsName BadText counted_total (λ bytes. itself IsName bytes (is_name bytes))

penalty_total : IsComplete penalty_code
penalty_total = coded_total number_code (λ penalty. penalty) IsPenalty BadNumber number_total (λ n. itself IsPenalty n (is_penalty n))

abbrev Texts : Type 0
Texts = List ℕ × List ℕ

label_back : (texts : Texts) → IsText texts.0 × IsText texts.1 → HasView (λ (label : Label). let it : Texts = (label.name, label.state) in it) IsLabel texts
label_back texts good = record { value = record { name = texts.0; state = texts.1 }; good = record { name = good.0; state = good.1 }; is = refl }

label_total : IsComplete label_code
label_total = viewed_total (both text_code text_code) (λ label. (label.name, label.state)) IsLabel (both_total text_code text_code text_total text_total) label_back

pause_back : (reason : Option (List ℕ)) → IfSome reason IsText → HasView reason_of IsPause reason
pause_back None good = record { value = record { paused = false; reason = [] }; good = record { reason = record { short = omega arith; clean = refl }; none = λ e. refl }; is = refl }
pause_back (Some reason) good = record { value = record { paused = true; reason = reason }; good = record { reason = good; none = λ e. absurd (true≢false e) }; is = refl }

pause_total : IsComplete pause_code
pause_total = viewed_total (optional text_code) reason_of IsPause (optional_total text_code text_total) pause_back

kind_least : (kind : Kind) → 0 < kind_number kind
kind_least kind.Add = omega arith
kind_least kind.Remove = omega arith
kind_least kind.Pause = omega arith
kind_least kind.Penalty = omega arith
kind_least kind.RingInUse = omega arith
kind_least kind.Completed = omega arith
kind_least kind.Abandoned = omega arith

kind_most : (kind : Kind) → kind_number kind < 8
kind_most kind.Add = omega arith
kind_most kind.Remove = omega arith
kind_most kind.Pause = omega arith
kind_most kind.Penalty = omega arith
kind_most kind.RingInUse = omega arith
kind_most kind.Completed = omega arith
kind_most kind.Abandoned = omega arith

kind_decide : (n : ℕ) → HasView kind_number (λ _. Unit {0}) n ⊎ ((kind : Kind) → Unit {0} → kind_number kind ≢ n)
kind_decide zero = inr (λ kind good e. omega (arith, e, kind_least kind))
kind_decide (suc zero) = inl (record { value = kind.Add; good = tt; is = refl })
kind_decide (suc (suc zero)) = inl (record { value = kind.Remove; good = tt; is = refl })
kind_decide (suc (suc (suc zero))) = inl (record { value = kind.Pause; good = tt; is = refl })
kind_decide (suc (suc (suc (suc zero)))) = inl (record { value = kind.Penalty; good = tt; is = refl })
kind_decide (suc (suc (suc (suc (suc zero))))) = inl (record { value = kind.RingInUse; good = tt; is = refl })
kind_decide (suc (suc (suc (suc (suc (suc zero)))))) = inl (record { value = kind.Completed; good = tt; is = refl })
kind_decide (suc (suc (suc (suc (suc (suc (suc zero))))))) = inl (record { value = kind.Abandoned; good = tt; is = refl })
kind_decide (suc (suc (suc (suc (suc (suc (suc (suc n)))))))) = inr (λ kind good e. omega (arith, e, kind_most kind))

kind_total : IsComplete kind_code
kind_total = coded_total byte_code kind_number (λ _. Unit {0}) BadKind byte_total kind_decide

answer_most : (answer : Result (Unit {0}) Refusal) → IsKeptAnswer answer → answer_number answer < 7
answer_most (Ok done) kept = omega arith
answer_most (Err NoSuchQueue) kept = omega arith
answer_most (Err AlreadyThere) kept = omega arith
answer_most (Err NotThere) kept = omega arith
answer_most (Err MembersFull) kept = omega arith
answer_most (Err Exhausted) kept = omega arith
answer_most (Err TotalFull) kept = omega arith
answer_most (Err Memory) kept = absurd (kept refl)

answer_decide : (n : ℕ) → HasView answer_number IsKeptAnswer n ⊎ ((answer : Result (Unit {0}) Refusal) → IsKeptAnswer answer → answer_number answer ≢ n)
answer_decide zero = inl (record { value = Ok tt; good = λ e. cc; is = refl })
answer_decide (suc zero) = inl (record { value = Err NoSuchQueue; good = λ e. cc; is = refl })
answer_decide (suc (suc zero)) = inl (record { value = Err AlreadyThere; good = λ e. cc; is = refl })
answer_decide (suc (suc (suc zero))) = inl (record { value = Err NotThere; good = λ e. cc; is = refl })
answer_decide (suc (suc (suc (suc zero)))) = inl (record { value = Err MembersFull; good = λ e. cc; is = refl })
answer_decide (suc (suc (suc (suc (suc zero))))) = inl (record { value = Err Exhausted; good = λ e. cc; is = refl })
answer_decide (suc (suc (suc (suc (suc (suc zero)))))) = inl (record { value = Err TotalFull; good = λ e. cc; is = refl })
answer_decide (suc (suc (suc (suc (suc (suc (suc n))))))) = inr (λ answer kept e. omega (arith, e, answer_most answer kept))

answer_total : IsComplete answer_code
answer_total = coded_total byte_code answer_number IsKeptAnswer BadAnswer byte_total answer_decide

-- ---- commands

add_total : IsComplete add_code
add_total = both_total name_code (both name_code (both penalty_code (both bit_code label_code))) name_total
    (both_total name_code (both penalty_code (both bit_code label_code)) name_total
    (both_total penalty_code (both bit_code label_code) penalty_total (both_total bit_code label_code bit_total label_total)))

remove_total : IsComplete remove_code
remove_total = both_total name_code name_code name_total name_total

setting_total : {A : Type 0} (code : Code A) → IsComplete code → IsComplete (setting_code code)
setting_total code total = both_total (optional name_code) (both name_code code) (optional_total name_code name_total) (both_total name_code code name_total total)

-- bytes begin with the content of a command of this kind, or have a fault
abbrev IsMet : Kind → List ℕ → Type 0
IsMet kind bytes = Rest kind_of content_bytes IsCommand kind bytes ⊎ HasSome (ContentFails kind) bytes

content_met : (kind : Kind) (bytes : List ℕ) → IsBytes bytes → IsMet kind bytes
content_met kind.Add bytes fits =
    elim (add_total.either bytes fits) [
      | inl a ↦ inl (record { value = command.Add a.value.0 a.value.1.0 a.value.1.1.0 a.value.1.1.1.0 a.value.1.1.1.1; rest = a.rest; good = a.good; leads = refl; spelled = a.spelled; fits = a.next })
      | inr has ↦ inr (record { fault = has.fault; fails = has.fails })
    ]
content_met kind.Remove bytes fits =
    elim (remove_total.either bytes fits) [
      | inl a ↦ inl (record { value = command.Remove a.value.0 a.value.1; rest = a.rest; good = a.good; leads = refl; spelled = a.spelled; fits = a.next })
      | inr has ↦ inr (record { fault = has.fault; fails = has.fails })
    ]
content_met kind.Pause bytes fits =
    elim ((setting_total pause_code pause_total).either bytes fits) [
      | inl a ↦ inl (record { value = command.Pause a.value.0 a.value.1.0 a.value.1.1; rest = a.rest; good = a.good; leads = refl; spelled = a.spelled; fits = a.next })
      | inr has ↦ inr (record { fault = has.fault; fails = has.fails })
    ]
content_met kind.Penalty bytes fits =
    elim ((setting_total penalty_code penalty_total).either bytes fits) [
      | inl a ↦ inl (record { value = command.Penalty a.value.0 a.value.1.0 a.value.1.1; rest = a.rest; good = a.good; leads = refl; spelled = a.spelled; fits = a.next })
      | inr has ↦ inr (record { fault = has.fault; fails = has.fails })
    ]
content_met kind.RingInUse bytes fits =
    elim ((setting_total bit_code bit_total).either bytes fits) [
      | inl a ↦ inl (record { value = command.RingInUse a.value.0 a.value.1.0 a.value.1.1; rest = a.rest; good = a.good; leads = refl; spelled = a.spelled; fits = a.next })
      | inr has ↦ inr (record { fault = has.fault; fails = has.fails })
    ]
content_met kind.Completed bytes fits =
    elim (name_total.either bytes fits) [
      | inl a ↦ inl (record { value = command.Completed a.value; rest = a.rest; good = a.good; leads = refl; spelled = a.spelled; fits = a.next })
      | inr has ↦ inr (record { fault = has.fault; fails = has.fails })
    ]
content_met kind.Abandoned bytes fits =
    elim (name_total.either bytes fits) [
      | inl a ↦ inl (record { value = command.Abandoned a.value; rest = a.rest; good = a.good; leads = refl; spelled = a.spelled; fits = a.next })
      | inr has ↦ inr (record { fault = has.fault; fails = has.fails })
    ]

command_total : IsComplete command_code
command_total = led_total kind_code kind_of content_bytes IsCommand ContentFails kind_total (λ kind good. content_met kind)

ask_total : IsComplete ask_code
ask_total = both_total command_code answer_code command_total answer_total

-- ---- all bytes

all_bytes : (bytes : List ℕ) → AreBytes bytes → IsBytes bytes
all_bytes bytes all i =
    elim (cases_lt i (length bytes)) [
      | inl lt ↦ all i 0 lt
      | inr past ↦ rw (get_or_past bytes i 0 past) (omega arith)
    ]

abbrev Answered : Type 0
Answered = Command × Result (Unit {0}) Refusal

whole_or_more : (bytes : List ℕ) (ask : Answered) (rest : List ℕ) → ask_code.IsGood ask → bytes ≡ ask_code.spell ask ++ rest → IsEncodedAsk bytes ⊎ IsFaulty bytes
whole_or_more bytes ask [] good e = inl (record { ask = record { command = ask.0; answer = ask.1 }; good = good; is = e ∙ append-nil (ask_code.spell ask) })
whole_or_more bytes ask (b ∷ more) good e = inr (record { fault = Trailing; has = inr (record { value = ask; rest = b ∷ more; good = good; spelled = e; next = (λ none. cc, refl) }) })

pub either : (bytes : List ℕ) → AreBytes bytes → IsEncodedAsk bytes ⊎ IsFaulty bytes
either bytes all =
    elim (ask_total.either bytes (all_bytes bytes all)) [
      | inl after ↦ whole_or_more bytes after.value after.rest after.good after.spelled
      | inr has ↦ inr (record { fault = has.fault; has = inl has.fails })
    ]
