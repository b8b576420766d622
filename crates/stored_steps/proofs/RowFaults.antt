-- Rows stand for a step or have a fault, and never both.
use Rattle.std.proofs.Common.{◌≡◌, ◌≢◌, ◌⊎◌, inl, inr, ℕ, zero, suc, List, [], Option, Some, None, Result, Ok, Err, refl, sym, ap, subst, ◌∙◌, arith}
use Rattle.replica.specs.declared.command.Command.{Command}
use Rattle.replica.specs.declared.refusal.Refusal.{Refusal}
use Rattle.status_report.specs.declared.asks.Answer.TheVariants as answer
use Rattle.status_report.specs.declared.asks.Ask.TheVariants as ask
use Rattle.ask_code.specs.declared.answered.AnsweredCommand.{AnsweredCommand}
use Rattle.ask_code.specs.declared.ask_fault.AskFault.{AskFault}
use Rattle.ask_code.specs.Asks.{AreBytes, HasFault, IsAsk, IsCommand, IsEncodedAsk, IsFaulty, ask_bytes}
use Rattle.ask_code.proofs.AskLaws.{not_both, one_fault, same_bytes}
use Rattle.ask_code.proofs.TotalAsks.{either}
use Rattle.site_journal.specs.declared.step.Step.{Step}
use Rattle.site_journal.specs.declared.step.StepDeed.TheVariants as deed
use Rattle.stored_steps.specs.declared.row_fault.RowFault.{RowFault}
use Rattle.stored_steps.specs.declared.row_fault.RowFault.TheVariants as row_fault
use Rattle.stored_steps.specs.declared.row_kind.RowKind.{RowKind}
use Rattle.stored_steps.specs.declared.row_kind.RowKind.TheVariants as kind
use Rattle.stored_steps.specs.Kinds.{IsOfSteps, kind_number}
use Rattle.stored_steps.specs.StepRows.{HasRowFault, IsFaultyRow, IsOfNoStep, IsRowOfStep, IsWithinLimits, done, row_of}
use Rattle.stored_steps.specs.Stored.{Stored}
use Rattle.stored_steps.proofs.RowLaws.{HasForm, IsOfCommand, IsOfFrame, done_is_ask, form_of}

-- the kinds of steps by their numbers
pub no_step_kind : (stored : Stored) → stored.kind ≢ 2 → stored.kind ≢ 3 → stored.kind ≢ 4 → stored.kind ≢ 5 → IsOfNoStep stored
no_step_kind stored a b c d kind.Base h = absurd h
no_step_kind stored a b c d kind.Asked h = a
no_step_kind stored a b c d kind.Took h = b
no_step_kind stored a b c d kind.Cut h = c
no_step_kind stored a b c d kind.Whole h = d
no_step_kind stored a b c d kind.Started h = absurd h

pub frame_step : (stored : Stored) (k : ℕ) → stored.kind ≡ k → (s : Step) → row_of s ≡ Some (record { pass = stored.pass; kind = k; bytes = stored.bytes }) → IsWithinLimits s → IsRowOfStep stored
frame_step stored k e s is good = record { step = s; row_is = is ∙ ap (λ (n : ℕ). Some (record { pass = stored.pass; kind = n; bytes = stored.bytes })) (sym e); within = good }

ask_step : (stored : Stored) (a : AnsweredCommand) → IsAsk a → stored.bytes ≡ ask_bytes a → stored.kind ≡ 2 → IsRowOfStep stored ⊎ IsFaultyRow stored
ask_step stored a good is e = by a.answer refl
  where
    by : (r : Result (Unit {0}) Refusal) → a.answer ≡ r → IsRowOfStep stored ⊎ IsFaultyRow stored
    by (Ok unit) ok =
        let same : stored.bytes ≡ ask_bytes (done a.command) = is ∙ ap (λ (r : Result (Unit {0}) Refusal). ask_bytes (record { command = a.command; answer = r })) ok in
        inl (record {
          step = record { pass = stored.pass; deed = deed.Asked (ask.Command a.command) answer.Done };
          row_is = λ i. Some (record { pass = stored.pass; kind = sym e i; bytes = sym same i });
          within = good.0;
        })
    by (Err refusal) refused = inr (record { fault = row_fault.NotDone; has = (e, record { ask = a; good = good; refused = λ ok. (let both = sym refused ∙ ok in cc); is = is }) })

asked_row : (stored : Stored) → AreBytes stored.bytes → stored.kind ≡ 2 → IsRowOfStep stored ⊎ IsFaultyRow stored
asked_row stored all e =
    elim (either stored.bytes all) [
      | inl is ↦ ask_step stored is.ask is.good is.is e
      | inr faulty ↦ inr (record { fault = row_fault.Ask faulty.fault; has = (e, faulty.has) })
    ]

by_kind : (stored : Stored) (n : ℕ) → stored.kind ≡ n → AreBytes stored.bytes → IsRowOfStep stored ⊎ IsFaultyRow stored
by_kind stored zero e all = inr (record { fault = row_fault.BadKind; has = no_step_kind stored (omega arith) (omega arith) (omega arith) (omega arith) })
by_kind stored (suc zero) e all = inr (record { fault = row_fault.BadKind; has = no_step_kind stored (omega arith) (omega arith) (omega arith) (omega arith) })
by_kind stored (suc (suc zero)) e all = asked_row stored all e
by_kind stored (suc (suc (suc zero))) e all = inl (frame_step stored 3 e (record { pass = stored.pass; deed = deed.Took stored.bytes }) refl tt)
by_kind stored (suc (suc (suc (suc zero)))) e all = inl (frame_step stored 4 e (record { pass = stored.pass; deed = deed.Cut (Some stored.bytes) }) refl tt)
by_kind stored (suc (suc (suc (suc (suc zero))))) e all = inl (frame_step stored 5 e (record { pass = stored.pass; deed = deed.Whole stored.bytes }) refl tt)
by_kind stored (suc (suc (suc (suc (suc (suc n)))))) e all = inr (record { fault = row_fault.BadKind; has = no_step_kind stored (omega arith) (omega arith) (omega arith) (omega arith) })

pub either_row : (stored : Stored) → AreBytes stored.bytes → IsRowOfStep stored ⊎ IsFaultyRow stored
either_row stored all = by_kind stored stored.kind refl all

-- ---- never both

faults_apart : (stored : Stored) (f : RowFault) (a : AnsweredCommand) → IsAsk a → a.answer ≡ Ok tt → stored.bytes ≡ ask_bytes a → HasRowFault f stored → stored.kind ≡ 2 → ⊥
faults_apart stored row_fault.BadKind a good ok is has e = has kind.Asked tt e
faults_apart stored (row_fault.Ask f) a good ok is has e = not_both a stored.bytes f good is has.1
faults_apart stored row_fault.NotDone a good ok is has e =
    let other = has.1 in
    let same = same_bytes a other.ask good other.good (sym is ∙ other.is) in
    other.refused (ap (λ (x : AnsweredCommand). x.answer) (sym same) ∙ ok)
faults_apart stored row_fault.Memory a good ok is has e = has

frame_apart : (stored : Stored) (f : RowFault) (k : RowKind) → IsOfSteps k → kind_number k ≢ 2 → stored.kind ≡ kind_number k → HasRowFault f stored → ⊥
frame_apart stored row_fault.BadKind k of other e has = has k of e
frame_apart stored (row_fault.Ask f) k of other e has = other (sym e ∙ has.0)
frame_apart stored row_fault.NotDone k of other e has = other (sym e ∙ has.0)
frame_apart stored row_fault.Memory k of other e has = has

pub not_both_rows : (stored : Stored) (s : Step) (f : RowFault) → row_of s ≡ Some stored → IsWithinLimits s → HasRowFault f stored → ⊥
not_both_rows stored s f is good has = by (form_of s.pass s.deed stored is good)
  where
    by : HasForm s.deed stored → ⊥
    by (inl a) = faults_apart stored f (done a.command) (done_is_ask a.command a.within) refl a.bytes has a.kind
    by (inr (inl a)) = frame_apart stored f kind.Took tt (λ e. cc) a.kind_is has
    by (inr (inr (inl a))) = frame_apart stored f kind.Cut tt (λ e. cc) a.kind_is has
    by (inr (inr (inr a))) = frame_apart stored f kind.Whole tt (λ e. cc) a.kind_is has

-- ---- one fault alone

pub one_row_fault : (stored : Stored) (f g : RowFault) → HasRowFault f stored → HasRowFault g stored → f ≡ g
one_row_fault stored row_fault.BadKind row_fault.BadKind a b = refl
one_row_fault stored row_fault.BadKind (row_fault.Ask g) a b = absurd (a kind.Asked tt b.0)
one_row_fault stored row_fault.BadKind row_fault.NotDone a b = absurd (a kind.Asked tt b.0)
one_row_fault stored (row_fault.Ask f) row_fault.BadKind a b = absurd (b kind.Asked tt a.0)
one_row_fault stored (row_fault.Ask f) (row_fault.Ask g) a b = ap row_fault.Ask (one_fault stored.bytes f g a.1 b.1)
one_row_fault stored (row_fault.Ask f) row_fault.NotDone a b = absurd (let is = b.1 in not_both is.ask stored.bytes f is.good is.is a.1)
one_row_fault stored row_fault.NotDone row_fault.BadKind a b = absurd (b kind.Asked tt a.0)
one_row_fault stored row_fault.NotDone (row_fault.Ask g) a b = absurd (let is = a.1 in not_both is.ask stored.bytes g is.good is.is b.1)
one_row_fault stored row_fault.NotDone row_fault.NotDone a b = refl
one_row_fault stored row_fault.Memory g a b = absurd a
one_row_fault stored f row_fault.Memory a b = absurd b
