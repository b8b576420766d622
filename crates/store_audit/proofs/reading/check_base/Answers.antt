use Rattle.std.proofs.Common.{◌≡◌, ◌⊎◌, ◌∙◌, ℕ, List, IsTrue, true≢false, rules, refl, sym, subst, subst₂}
use Rattle.stored_steps.specs.declared.base_fault.BaseFault.TheVariants.{Memory}
use Rattle.stored_steps.specs.BaseFaults.{HasNoBase}
use Rattle.store_audit.proofs.Walking.{other_said, unread_cause}
use Rattle.store_audit.proofs.reading.check_base.Goals as goal

-- the base that was read says what the site is
pub returns-then-is_said-clause-said : goal.returns-then-is_said-clause-said
returns-then-is_said-clause-said c = record {
  read = c.in-Ok.base;
  is_read = c.in-Ok.ensures.read;
  says = c.is_said-is_said.ensures.0 (subst IsTrue (sym c.if-is_said.true) refl);
}

-- the base that was read says other
pub returns-else-is_said-clause-fault : goal.returns-else-is_said-clause-fault
returns-else-is_said-clause-fault c =
    (refl, other_said c.args.walk.now c.args.row.now c.in-Ok.base c.in-Ok.ensures.read (λ says. true≢false (sym (c.is_said-is_said.ensures.1 says) ∙ c.if-is_said.false)))

-- no base of the site is read
pub returns-in-Err-clause-fault : goal.returns-in-Err-clause-fault
returns-in-Err-clause-fault c =
    let replica = c.args.walk.now.journal.replica in
    let site : c.site.result ≡ replica.site = search rules in
    let names : c.list.result.now ≡ replica.names = search rules in
    unread_cause c.args.walk.now c.args.position c.args.row.now c.in-Err.fault c.kept_fault.result
    (subst₂ (λ (n : ℕ) (l : List (List ℕ)). (c.in-Err.fault ≡ Memory) ⊎ HasNoBase n l c.args.row.now) site names c.in-Err.ensures.none) c.kept_fault.ensures
