-- One row is that of one step, and never that of a start.
use Rattle.std.proofs.Common.{◌≡◌, ◌⊎◌, inl, inr, ℕ, Bool, true, false, ◌&&◌, List, [], ◌∷◌, length, Option, Some, None, refl, sym, ap, subst, ◌∙◌, arith}
use Rattle.std.specs.Prelude.{nat_eq}
use Rattle.std.proofs.lemmas.Bool.Decides.{nat_tests}
use Rattle.replica.specs.declared.command.Command.{Command}
use Rattle.status_report.specs.declared.asks.Answer.TheVariants as answer
use Rattle.status_report.specs.declared.asks.Ask.TheVariants as ask
use Rattle.ask_code.specs.declared.answered.AnsweredCommand.{AnsweredCommand}
use Rattle.ask_code.specs.Asks.{IsAsk, IsCommand, ask_bytes}
use Rattle.ask_code.proofs.AskLaws.{same_bytes}
use Rattle.site_journal.specs.declared.step.Step.{Step}
use Rattle.site_journal.specs.declared.step.StepDeed.{StepDeed}
use Rattle.site_journal.specs.declared.step.StepDeed.TheVariants as deed
use Rattle.stored_steps.specs.StepRows.{IsDeedWithinLimits, IsWithinLimits, done, row_of, row_of_deed}
use Rattle.stored_steps.specs.Stored.{Stored}
use Rattle.stored_steps.specs.StartRows.{is_start, start_row}

-- a command that is done is an ask that a store keeps
pub done_is_ask : (command : Command) → IsCommand command → IsAsk (done command)
done_is_ask command good = (good, λ e. cc)

-- two commands that are done have different bytes
pub one_command : (c d : Command) → IsCommand c → IsCommand d → ask_bytes (done c) ≡ ask_bytes (done d) → c ≡ d
one_command c d good fine e =
    let same : done c ≡ done d = same_bytes (done c) (done d) (done_is_ask c good) (done_is_ask d fine) e in
    ap (λ (a : AnsweredCommand). a.command) same

-- ---- which deeds have a row

-- a row is that of a command that is done
pub record IsOfCommand (d : StepDeed) (row : Stored) : Type 0 where
  pub command : Command
  pub deed_is : d ≡ deed.Asked (ask.Command command) answer.Done
  pub kind : row.kind ≡ 2
  pub bytes : row.bytes ≡ ask_bytes (done command)
  pub within : IsCommand command

-- a row of a kind is that of a deed with a frame
pub record IsOfFrame (kind : ℕ) (made : List ℕ → StepDeed) (d : StepDeed) (row : Stored) : Type 0 where
  pub bytes : List ℕ
  pub deed_is : d ≡ made bytes
  pub kind_is : row.kind ≡ kind
  pub bytes_are : row.bytes ≡ bytes

-- a cut of a frame
abbrev pub cut_of : List ℕ → StepDeed
cut_of bytes = deed.Cut (Some bytes)

-- a row is that of a deed, of one of four forms
abbrev pub HasForm : StepDeed → Stored → Type 0
HasForm d row = IsOfCommand d row ⊎ (IsOfFrame 3 deed.Took d row ⊎ (IsOfFrame 4 cut_of d row ⊎ IsOfFrame 5 deed.Whole d row))

kind_in : (a b : Stored) → ◌≡◌ {A = Option Stored} (Some a) (Some b) → b.kind ≡ a.kind
kind_in a b e = let same : a ≡ b = cc in ap (λ (r : Stored). r.kind) (sym same)

bytes_in : (a b : Stored) → ◌≡◌ {A = Option Stored} (Some a) (Some b) → b.bytes ≡ a.bytes
bytes_in a b e = let same : a ≡ b = cc in ap (λ (r : Stored). r.bytes) (sym same)

pass_in : (a b : Stored) → ◌≡◌ {A = Option Stored} (Some a) (Some b) → a.pass ≡ b.pass
pass_in a b e = let same : a ≡ b = cc in ap (λ (r : Stored). r.pass) same

pub form_of : (pass : ℕ) (d : StepDeed) (row : Stored) → row_of_deed pass d ≡ Some row → IsDeedWithinLimits d → HasForm d row
form_of pass (deed.Asked (ask.Command c) answer.Done) row e good = inl (record { command = c; deed_is = refl; kind = kind_in _ row e; bytes = bytes_in _ row e; within = good })
form_of pass (deed.Asked (ask.Command c) (answer.Refused r)) row e good = absurd (cc)
form_of pass (deed.Asked (ask.Command c) (answer.Report b)) row e good = absurd (cc)
form_of pass (deed.Asked (ask.Status q) a) row e good = absurd (cc)
form_of pass (deed.Took b) row e good = inr (inl (record { bytes = b; deed_is = refl; kind_is = kind_in _ row e; bytes_are = bytes_in _ row e }))
form_of pass (deed.Cut None) row e good = absurd (cc)
form_of pass (deed.Cut (Some b)) row e good = inr (inr (inl (record { bytes = b; deed_is = refl; kind_is = kind_in _ row e; bytes_are = bytes_in _ row e })))
form_of pass (deed.Whole b) row e good = inr (inr (inr (record { bytes = b; deed_is = refl; kind_is = kind_in _ row e; bytes_are = bytes_in _ row e })))

-- ---- one row is of one deed

one_frame : (kind : ℕ) (made : List ℕ → StepDeed) (d e : StepDeed) (row : Stored) → IsOfFrame kind made d row → IsOfFrame kind made e row → d ≡ e
one_frame kind made d e row a b = a.deed_is ∙ ap made (sym a.bytes_are ∙ b.bytes_are) ∙ sym b.deed_is

one_ask : (d e : StepDeed) (row : Stored) → IsOfCommand d row → IsOfCommand e row → d ≡ e
one_ask d e row a b =
    a.deed_is ∙ ap (λ (c : Command). deed.Asked (ask.Command c) answer.Done) (one_command a.command b.command a.within b.within (sym a.bytes ∙ b.bytes)) ∙ sym b.deed_is

one_form : (d e : StepDeed) (row : Stored) → HasForm d row → HasForm e row → d ≡ e
one_form d e row (inl a) (inl b) = one_ask d e row a b
one_form d e row (inr (inl a)) (inr (inl b)) = one_frame 3 deed.Took d e row a b
one_form d e row (inr (inr (inl a))) (inr (inr (inl b))) = one_frame 4 cut_of d e row a b
one_form d e row (inr (inr (inr a))) (inr (inr (inr b))) = one_frame 5 deed.Whole d e row a b
one_form d e row (inl a) (inr (inl b)) = absurd (omega arith)
one_form d e row (inl a) (inr (inr (inl b))) = absurd (omega arith)
one_form d e row (inl a) (inr (inr (inr b))) = absurd (omega arith)
one_form d e row (inr (inl a)) (inl b) = absurd (omega arith)
one_form d e row (inr (inl a)) (inr (inr (inl b))) = absurd (omega arith)
one_form d e row (inr (inl a)) (inr (inr (inr b))) = absurd (omega arith)
one_form d e row (inr (inr (inl a))) (inl b) = absurd (omega arith)
one_form d e row (inr (inr (inl a))) (inr (inl b)) = absurd (omega arith)
one_form d e row (inr (inr (inl a))) (inr (inr (inr b))) = absurd (omega arith)
one_form d e row (inr (inr (inr a))) (inl b) = absurd (omega arith)
one_form d e row (inr (inr (inr a))) (inr (inl b)) = absurd (omega arith)
one_form d e row (inr (inr (inr a))) (inr (inr (inl b))) = absurd (omega arith)

pub one_deed : (p q : ℕ) (d e : StepDeed) (row : Stored) → row_of_deed p d ≡ Some row → row_of_deed q e ≡ Some row → IsDeedWithinLimits d → IsDeedWithinLimits e → d ≡ e
one_deed p q d e row a b good fine = one_form d e row (form_of p d row a good) (form_of q e row b fine)

-- and of one pass
pass_is : (pass : ℕ) (d : StepDeed) (row : Stored) → row_of_deed pass d ≡ Some row → pass ≡ row.pass
pass_is pass (deed.Asked (ask.Command c) answer.Done) row e = pass_in _ row e
pass_is pass (deed.Asked (ask.Command c) (answer.Refused r)) row e = absurd (cc)
pass_is pass (deed.Asked (ask.Command c) (answer.Report b)) row e = absurd (cc)
pass_is pass (deed.Asked (ask.Status q) a) row e = absurd (cc)
pass_is pass (deed.Took b) row e = pass_in _ row e
pass_is pass (deed.Cut None) row e = absurd (cc)
pass_is pass (deed.Cut (Some b)) row e = pass_in _ row e
pass_is pass (deed.Whole b) row e = pass_in _ row e

-- so it is of one step
pub one_step : (s t : Step) (row : Stored) → row_of s ≡ Some row → row_of t ≡ Some row → IsWithinLimits s → IsWithinLimits t → s ≡ t
one_step s t row a b good fine =
    let deeds : s.deed ≡ t.deed = one_deed s.pass t.pass s.deed t.deed row a b good fine in
    let passes : s.pass ≡ t.pass = pass_is s.pass s.deed row a ∙ sym (pass_is t.pass t.deed row b) in
    same s t passes deeds
  where
    same : (s t : Step) → s.pass ≡ t.pass → s.deed ≡ t.deed → s ≡ t
    same s t p d = λ i. record { pass = p i; deed = d i }

-- the row of a start is that of no step
pub no_start : (pass : ℕ) (d : StepDeed) → IsDeedWithinLimits d → row_of_deed pass d ≡ Some start_row → ⊥
no_start pass d good e = by (form_of pass d start_row e good)
  where
    by : HasForm d start_row → ⊥
    by (inl a) = let k = a.kind in cc
    by (inr (inl a)) = let k = a.kind_is in cc
    by (inr (inr (inl a))) = let k = a.kind_is in cc
    by (inr (inr (inr a))) = let k = a.kind_is in cc

-- a row that passes the test is that of a start
pub started_row : (row : Stored) → is_start row ≡ true → row ≡ start_row
started_row row e =
    let kinds = and_parts (nat_eq row.kind 6) (nat_eq row.pass 0 && nat_eq (length row.bytes) 0) e in
    let others = and_parts (nat_eq row.pass 0) (nat_eq (length row.bytes) 0) kinds.1 in
    together row (is_equal row.kind 6 kinds.0) (is_equal row.pass 0 others.0) (is_empty row.bytes (is_equal (length row.bytes) 0 others.1))
  where
    and_parts : (a b : Bool) → (a && b) ≡ true → (a ≡ true) × (b ≡ true)
    and_parts true b h = (refl, h)
    and_parts false b h = absurd (cc)

    is_equal : (m n : ℕ) → nat_eq m n ≡ true → m ≡ n
    is_equal m n h = grind (arith, nat_tests)

    is_empty : (bytes : List ℕ) → length bytes ≡ 0 → bytes ≡ []
    is_empty [] h = refl
    is_empty (b ∷ bytes) h = absurd (omega arith)

    together : (row : Stored) → row.kind ≡ 6 → row.pass ≡ 0 → row.bytes ≡ [] → row ≡ start_row
    together row k p b = λ i. record { pass = p i; kind = k i; bytes = b i }
