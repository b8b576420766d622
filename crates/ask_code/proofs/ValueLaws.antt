-- The codes of values are exact.
use Rattle.std.proofs.Common.{◌≡◌, ◌<◌, ℕ, zero, suc, Bool, true, false, List, [], length, Some, None, IfSome, if◌then◌else◌, Result, Ok, Err, refl, sym, ap, ap₂, ◌∙◌, arith}
use Rattle.dots.specs.declared.label.Label.{Label}
use Rattle.dots.specs.Values.{IsName, IsPenalty, IsText, PauseState}
use Rattle.dots.specs.WithinLimits.{IsLabel, IsPause}
use Rattle.replica.specs.declared.refusal.Refusal.{Refusal}
use Rattle.replica.specs.declared.refusal.Refusal.TheVariants.{NoSuchQueue, AlreadyThere, NotThere, MembersFull, Exhausted, TotalFull, Memory}
use Rattle.ask_code.specs.declared.ask_fault.AskFault.TheVariants.{BadAnswer, BadKind, BadNumber, BadText}
use Rattle.ask_code.specs.declared.kind.Kind.{Kind}
use Rattle.ask_code.specs.declared.kind.Kind.TheVariants.{Add, Remove, Pause, Penalty, RingInUse, Completed, Abandoned}
use Rattle.ask_code.specs.Codes.{both, byte_code, counted_code, number_code, optional}
use Rattle.ask_code.specs.Values.{IsKeptAnswer, answer_code, answer_number, kind_code, kind_number, label_code, name_code, pause_code, penalty_code, reason_of, text_code}
use Rattle.ask_code.proofs.CodeLaws.{IsExact, both_exact, byte_exact, coded_exact, counted_exact, number_exact, optional_exact, viewed_exact}

text_short : (text : List ℕ) → IsText text → length text < 256
text_short text g = omega (arith, g.short)

pub text_exact : IsExact text_code
text_exact = coded_exact counted_code (λ text. text) IsText BadText counted_exact (λ x g. text_short x g) (λ x y g h e. e)

pub name_exact : IsExact name_code
name_exact = coded_exact counted_code (λ name. name) IsName BadText counted_exact (λ x g. text_short x g.text) (λ x y g h e. e)

pub penalty_exact : IsExact penalty_code
penalty_exact = coded_exact number_code (λ penalty. penalty) IsPenalty BadNumber number_exact (λ x g. omega (arith, g)) (λ x y g h e. e)

abbrev Texts : Type 0
Texts = List ℕ × List ℕ

label_injective : (x y : Label) → ◌≡◌ {A = Texts} (x.name, x.state) (y.name, y.state) → x ≡ y
label_injective x y e = ap (λ (p : Texts). let it : Label = record { name = p.0; state = p.1 } in it) e

pub label_exact : IsExact label_code
label_exact = viewed_exact (both text_code text_code) (λ label. (label.name, label.state)) IsLabel (both_exact text_code text_code text_exact text_exact) (λ x g. (g.name, g.state)) (λ x y g h e. label_injective x y e)

pub pause_good : (pause : PauseState) → IsPause pause → IfSome (reason_of pause) IsText
pause_good pause g = reason_good pause.paused pause.reason g.reason
  where
    reason_good : (paused : Bool) (reason : List ℕ) → IsText reason → IfSome (if paused then Some reason else None) IsText
    reason_good true reason g = g
    reason_good false reason g = tt

pause_injective : (x y : PauseState) → IsPause x → IsPause y → reason_of x ≡ reason_of y → x ≡ y
pause_injective x y g h e = ap₂ (λ p q. let it : PauseState = record { paused = p; reason = q } in it) (same x.paused y.paused x.reason y.reason e) (reasons x.paused y.paused x.reason y.reason g.none h.none e)
  where
    same : (p q : Bool) (a b : List ℕ) → (if p then Some a else None) ≡ (if q then Some b else None) → p ≡ q
    same true true a b e = refl
    same false false a b e = refl
    same true false a b e = absurd cc
    same false true a b e = absurd cc

    reasons : (p q : Bool) (a b : List ℕ) → (p ≡ false → a ≡ []) → (q ≡ false → b ≡ []) → (if p then Some a else None) ≡ (if q then Some b else None) → a ≡ b
    reasons true true a b g h e = cc
    reasons false false a b g h e = g refl ∙ sym (h refl)
    reasons true false a b g h e = absurd cc
    reasons false true a b g h e = absurd cc

pub pause_exact : IsExact pause_code
pause_exact = viewed_exact (optional text_code) reason_of IsPause (optional_exact text_code text_exact) pause_good pause_injective

-- the kind of a number
kind_at : ℕ → Kind
kind_at zero = Abandoned
kind_at (suc zero) = Add
kind_at (suc (suc zero)) = Remove
kind_at (suc (suc (suc zero))) = Pause
kind_at (suc (suc (suc (suc zero)))) = Penalty
kind_at (suc (suc (suc (suc (suc zero))))) = RingInUse
kind_at (suc (suc (suc (suc (suc (suc zero)))))) = Completed
kind_at (suc (suc (suc (suc (suc (suc (suc n))))))) = Abandoned

kind_back : (kind : Kind) → kind_at (kind_number kind) ≡ kind
unfolding kind_at
kind_back Add = refl
kind_back Remove = refl
kind_back Pause = refl
kind_back Penalty = refl
kind_back RingInUse = refl
kind_back Completed = refl
kind_back Abandoned = refl

kind_good : (kind : Kind) → kind_number kind < 256
kind_good Add = omega arith
kind_good Remove = omega arith
kind_good Pause = omega arith
kind_good Penalty = omega arith
kind_good RingInUse = omega arith
kind_good Completed = omega arith
kind_good Abandoned = omega arith

pub kind_exact : IsExact kind_code
kind_exact = coded_exact byte_code kind_number (λ kind. Unit {0}) BadKind byte_exact (λ x g. kind_good x) (λ x y g h e. sym (kind_back x) ∙ ap kind_at e ∙ kind_back y)

-- the answer of a number
answer_at : ℕ → Result (Unit {0}) Refusal
answer_at zero = Ok tt
answer_at (suc zero) = Err NoSuchQueue
answer_at (suc (suc zero)) = Err AlreadyThere
answer_at (suc (suc (suc zero))) = Err NotThere
answer_at (suc (suc (suc (suc zero)))) = Err MembersFull
answer_at (suc (suc (suc (suc (suc zero))))) = Err Exhausted
answer_at (suc (suc (suc (suc (suc (suc zero)))))) = Err TotalFull
answer_at (suc (suc (suc (suc (suc (suc (suc n))))))) = Err Memory

answer_back : (answer : Result (Unit {0}) Refusal) → answer_at (answer_number answer) ≡ answer
unfolding answer_at
answer_back (Ok done) = refl
answer_back (Err NoSuchQueue) = refl
answer_back (Err AlreadyThere) = refl
answer_back (Err NotThere) = refl
answer_back (Err MembersFull) = refl
answer_back (Err Exhausted) = refl
answer_back (Err TotalFull) = refl
answer_back (Err Memory) = refl

answer_good : (answer : Result (Unit {0}) Refusal) → answer_number answer < 256
answer_good (Ok done) = omega arith
answer_good (Err NoSuchQueue) = omega arith
answer_good (Err AlreadyThere) = omega arith
answer_good (Err NotThere) = omega arith
answer_good (Err MembersFull) = omega arith
answer_good (Err Exhausted) = omega arith
answer_good (Err TotalFull) = omega arith
answer_good (Err Memory) = omega arith

pub answer_exact : IsExact answer_code
answer_exact = coded_exact byte_code answer_number IsKeptAnswer BadAnswer byte_exact (λ x g. answer_good x) (λ x y g h e. sym (answer_back x) ∙ ap answer_at e ∙ answer_back y)
