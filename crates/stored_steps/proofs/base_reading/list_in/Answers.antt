use Rattle.std.proofs.Common.{◌≡◌, ◌⊎◌, List, ℕ, Err, IfErr, rules, subst, sym}
use Rattle.replica.specs.Queues.{AreQueues}
use Rattle.stored_steps.specs.declared.base_fault.BaseFault.TheVariants.{Memory, WrongList}
use Rattle.stored_steps.specs.BaseFaults.{IsListCause}
use Rattle.stored_steps.proofs.Headings.{not_queues}
use Rattle.stored_steps.proofs.base_reading.list_in.Goals as goal

-- the names are no list of queues
pub returns-in_err-list-clause-fault : goal.returns-in_err-list-clause-fault
returns-in_err-list-clause-fault c =
    let fault = c.in_err-list.field-0.0 in
    let same : c.from_residual-in_err-list.result ≡ Err fault = search rules in
    let there = c.in_ok-names.ensures.spelled in
    subst (λ r. IfErr r (λ f. (f ≡ Memory) ⊎ IsListCause c.args.bytes.now f)) (sym same)
    (not_queues c.args.bytes.now there.0 c.in_ok-names.names.items fault there.1 c.in_ok-names.ensures.few
    (subst (λ (names : List (List ℕ)). (fault ≡ Memory) ⊎ ((fault ≡ WrongList) × (AreQueues names → ⊥))) c.as_slice.ensures.value c.in_err-list.ensures.fault))
