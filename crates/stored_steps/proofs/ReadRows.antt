-- What is read of a row.
use Rattle.std.proofs.Common.{◌≡◌, ◌≢◌, ◌⊎◌, ◌↔◌, inl, inr, ℕ, List, Option, Some, None, Result, Ok, Err, IfErr, IfOk, refl, sym, ap, subst, ◌∙◌, arith}
use Rattle.site_journal.specs.declared.step.Step.{Step}
use Rattle.site_journal.specs.declared.step.StepDeed.TheVariants as deed
use Rattle.stored_steps.specs.declared.row_fault.RowFault.{RowFault}
use Rattle.stored_steps.specs.declared.row_fault.RowFault.TheVariants as row_fault
use Rattle.stored_steps.specs.declared.row_kind.RowKind.{RowKind}
use Rattle.stored_steps.specs.declared.row_kind.RowKind.TheVariants as kind
use Rattle.stored_steps.specs.Kinds.{IsOfSteps, kind_number}
use Rattle.stored_steps.specs.RowReading.{IsDeedFault, IsStepFault}
use Rattle.stored_steps.specs.StepRows.{HasAskFault, HasRowFault, IsOfNoStep, IsRowOfStep, IsWithinLimits, row_of}
use Rattle.stored_steps.specs.Stored.{Stored}
use Rattle.stored_steps.proofs.RowFaults.{frame_step, no_step_kind, not_both_rows, one_row_fault}
use Rattle.stored_steps.proofs.RowLaws.{one_step}

-- a number of no kind is that of no step
pub no_kind : (stored : Stored) → ((k : RowKind) → stored.kind ≢ kind_number k) → IsStepFault row_fault.BadKind stored
no_kind stored none = inl (λ k of. none k)

ask_fault : (stored : Stored) (fault : RowFault) → stored.kind ≡ 2 → HasAskFault fault stored.bytes → IsStepFault fault stored
ask_fault stored row_fault.BadKind e has = absurd has
ask_fault stored (row_fault.Ask f) e has = inl (e, has)
ask_fault stored row_fault.NotDone e has = inl (e, has)
ask_fault stored row_fault.Memory e has = absurd has

bad_kind : (stored : Stored) (fault : RowFault) → fault ≡ row_fault.BadKind → IsOfNoStep stored → IsStepFault fault stored
bad_kind stored fault is none = subst (λ (f : RowFault). IsStepFault f stored) (sym is) (inl none)

-- why no deed is read is why no step is
pub deed_fault : (stored : Stored) (k : RowKind) (fault : RowFault) → stored.kind ≡ kind_number k → IsDeedFault k stored.bytes fault → IsStepFault fault stored
deed_fault stored kind.Base fault e is = bad_kind stored fault is (no_step_kind stored (omega arith) (omega arith) (omega arith) (omega arith))
deed_fault stored kind.Asked fault e is = ask_fault stored fault e is
deed_fault stored kind.Took fault e is = inr (is, frame_step stored 3 e (record { pass = stored.pass; deed = deed.Took stored.bytes }) refl tt)
deed_fault stored kind.Cut fault e is = inr (is, frame_step stored 4 e (record { pass = stored.pass; deed = deed.Cut (Some stored.bytes) }) refl tt)
deed_fault stored kind.Whole fault e is = inr (is, frame_step stored 5 e (record { pass = stored.pass; deed = deed.Whole stored.bytes }) refl tt)
deed_fault stored kind.Started fault e is = bad_kind stored fault is (no_step_kind stored (omega arith) (omega arith) (omega arith) (omega arith))

-- a result is the step of a row, or why there is none
pub record IsRead (stored : Stored) (r : Result Step RowFault) : Type 0 where
  pub row_is : IfOk r (λ step. row_of step ≡ Some stored)
  pub within : IfOk r (λ step. IsWithinLimits step)
  pub fault : IfErr r (λ fault. IsStepFault fault stored)

-- the step of a row is read, or memory is refused
pub found : (stored : Stored) (r : Result Step RowFault) → IsRead stored r → (step : Step) → row_of step ≡ Some stored → IsWithinLimits step → (r ≡ Ok step) ⊎ (r ≡ Err row_fault.Memory)
found stored (Ok s) is step e good = inl (ap (λ (x : Step). Ok x) (one_step s step stored is.row_is e is.within good))
found stored (Err f) is step e good = by is.fault
  where
    by : IsStepFault f stored → ◌⊎◌ (◌≡◌ {A = Result Step RowFault} (Err f) (Ok step)) (◌≡◌ {A = Result Step RowFault} (Err f) (Err row_fault.Memory))
    by (inl has) = absurd (not_both_rows stored step f e good has)
    by (inr memory) = inr (ap (λ (x : RowFault). Err x) memory.0)

-- a fault is read that the row has
pub fault_read : (stored : Stored) (r : Result Step RowFault) → IsRead stored r → (fault : RowFault) → fault ≢ row_fault.Memory → r ≡ Err fault → HasRowFault fault stored
fault_read stored (Ok s) is fault some e = absurd (cc)
fault_read stored (Err f) is fault some e = by is.fault
  where
    same : f ≡ fault
    same = cc

    by : IsStepFault f stored → HasRowFault fault stored
    by (inl has) = subst (λ (x : RowFault). HasRowFault x stored) same has
    by (inr memory) = absurd (some (sym same ∙ memory.0))

-- and each that it has
pub fault_found : (stored : Stored) (r : Result Step RowFault) → IsRead stored r → (fault : RowFault) → HasRowFault fault stored → r ≡ Err fault
fault_found stored (Ok s) is fault has = absurd (not_both_rows stored s fault is.row_is is.within has)
fault_found stored (Err f) is fault has = by is.fault
  where
    by : IsStepFault f stored → ◌≡◌ {A = Result Step RowFault} (Err f) (Err fault)
    by (inl too) = ap (λ (x : RowFault). Err x) (one_row_fault stored f fault too has)
    by (inr memory) = let of = memory.1 in absurd (not_both_rows stored of.step fault of.row_is of.within has)
