use Rattle.std.proofs.Common.{◌≡◌, ◌≢◌, ◌⊎◌, inr, ℕ, List, Err, IfErr, rules, sym, subst, ◌∙◌, arith}
use Rattle.replica.specs.Restoring.{IsRestoreCause, IsRestored, parts_of}
use Rattle.replica.specs.Site.{IsSameSite}
use Rattle.replica.specs.declared.restore_fault.RestoreFault.{RestoreFault}
use Rattle.replica.specs.declared.restore_fault.RestoreFault.TheVariants as restore
use Rattle.stored_steps.specs.declared.base_fault.BaseFault.TheVariants.{Memory}
use Rattle.stored_steps.specs.BaseFaults.{IsSiteCause, LacksBase}
use Rattle.stored_steps.proofs.BaseCauses.{lacks_frames, lacks_head, lacks_list, lacks_parts, lacks_site, of_other_kind}
use Rattle.stored_steps.proofs.Reading.{accepted, base_read, head_there, list_there, site_there}
use Rattle.stored_steps.proofs.base_reading.read_base.Goals as goal

-- the row is of another kind
pub returns-then-kind-number-clause-fault : goal.returns-then-kind-number-clause-fault
returns-then-kind-number-clause-fault c =
    inr (of_other_kind c.args.site c.args.list.now c.args.row.now (λ kind. c.if-kind-number.true (c.kind.ensures ∙ kind ∙ sym c.number.ensures)))

-- version and site aren't there
pub returns-in_err-rest-clause-fault : goal.returns-in_err-rest-clause-fault
returns-in_err-rest-clause-fault c =
    let kind : c.args.row.now.kind ≡ 1 = omega (arith, c.kind.ensures, c.number.ensures, c.if-kind-number.false) in
    let same : c.from_residual.result ≡ Err c.in_err-rest.field-0.0 = search rules in
    subst (λ r. IfErr r (λ fault. (fault ≡ Memory) ⊎ LacksBase c.args.site c.args.list.now c.args.row.now fault)) (sym same)
    (inr (lacks_site c.args.site c.args.list.now c.args.row.now c.in_err-rest.field-0.0 kind (subst (λ (l : List ℕ). IsSiteCause c.args.site l c.in_err-rest.field-0.0) c.body.ensures c.in_err-rest.ensures.fault)))

-- the list of queues isn't there
pub returns-in_err-rest-2-clause-fault : goal.returns-in_err-rest-2-clause-fault
returns-in_err-rest-2-clause-fault c =
    let kind : c.args.row.now.kind ≡ 1 = omega (arith, c.kind.ensures, c.number.ensures, c.if-kind-number.false) in
    let same : c.from_residual-in_err-rest-2.result ≡ Err c.in_err-rest-2.field-0.0 = search rules in
    subst (λ r. IfErr r (λ fault. (fault ≡ Memory) ⊎ LacksBase c.args.site c.args.list.now c.args.row.now fault)) (sym same)
    (lacks_list c.args.site c.args.list.now c.args.row.now c.in_ok-rest.rest.now c.in_err-rest-2.field-0.0
    (site_there c.args.row.now c.args.site c.in_ok-rest.rest.now kind (sym c.body.ensures ∙ c.in_ok-rest.ensures.front)) c.in_err-rest-2.ensures.fault)

-- the bytes end in the head
pub returns-in_default-clause-fault : goal.returns-in_default-clause-fault
returns-in_default-clause-fault c =
    let kind : c.args.row.now.kind ≡ 1 = omega (arith, c.kind.ensures, c.number.ensures, c.if-kind-number.false) in
    inr (lacks_head c.args.site c.args.list.now c.args.row.now c.in_ok-rest-2.rest.now
    (list_there c.args.row.now c.args.site c.args.list.now c.in_ok-rest.rest.now c.in_ok-rest-2.rest.now kind (sym c.body.ensures ∙ c.in_ok-rest.ensures.front) c.in_ok-rest-2.ensures.found) c.in_default.ensures.short)

-- the frames are no state and buffer
pub returns-in-Err-clause-fault : goal.returns-in-Err-clause-fault
returns-in-Err-clause-fault c =
    let kind : c.args.row.now.kind ≡ 1 = omega (arith, c.kind.ensures, c.number.ensures, c.if-kind-number.false) in
    let front = list_there c.args.row.now c.args.site c.args.list.now c.in_ok-rest.rest.now c.in_ok-rest-2.rest.now kind (sym c.body.ensures ∙ c.in_ok-rest.ensures.front) c.in_ok-rest-2.ensures.found in
    lacks_frames c.args.site c.args.list.now c.args.row.now c.in-Some.head.last c.in-Some.head.frames.now c.in-Err.fault
    (head_there c.args.site c.args.list.now c.args.row.now c.in-Some.head.name c.in-Some.head.starts c.in-Some.head.last c.in-Some.head.frames.now c.in_ok-rest-2.rest.now front c.in-Some.ensures.head)
    c.in-Err.ensures.fault

-- the parts are refused
pub returns-in-Err-restored-clause-fault : goal.returns-in-Err-restored-clause-fault
returns-in-Err-restored-clause-fault c =
    let state = c.in-Ok.deltas.0 in
    let pending = c.in-Ok.deltas.1 in
    let last = c.in-Some.head.last in
    let kind : c.args.row.now.kind ≡ 1 = omega (arith, c.kind.ensures, c.number.ensures, c.if-kind-number.false) in
    let front = list_there c.args.row.now c.args.site c.args.list.now c.in_ok-rest.rest.now c.in_ok-rest-2.rest.now kind (sym c.body.ensures ∙ c.in_ok-rest.ensures.front) c.in_ok-rest-2.ensures.found in
    lacks_parts c.args.site c.args.list.now c.args.row.now last c.in-Some.head.frames.now state pending c.in-Err-restored.fault c.parts_fault.result
    (head_there c.args.site c.args.list.now c.args.row.now c.in-Some.head.name c.in-Some.head.starts last c.in-Some.head.frames.now c.in_ok-rest-2.rest.now front c.in-Some.ensures.head)
    c.in-Ok.ensures.parts
    (λ other. subst (λ (names : List (List ℕ)). IsRestoreCause (parts_of c.args.site names state pending last) c.in-Err-restored.fault) c.in_ok-names.ensures
    ((c.restored.ensures.refusals c.in-Err-restored.fault other).0 c.in-Err-restored.is))
    c.parts_fault.ensures

-- the base is read
pub returns-in-Ok-restored-clause-read : goal.returns-in-Ok-restored-clause-read
returns-in-Ok-restored-clause-read c =
    let state = c.in-Ok.deltas.0 in
    let pending = c.in-Ok.deltas.1 in
    let last = c.in-Some.head.last in
    let replica = c.in-Ok-restored.replica in
    let kind : c.args.row.now.kind ≡ 1 = omega (arith, c.kind.ensures, c.number.ensures, c.if-kind-number.false) in
    base_read c.args.row.now c.args.site c.args.list.now state pending c.in-Some.head.name c.in-Some.head.starts last c.in_ok-rest.rest.now c.in_ok-rest-2.rest.now c.in-Some.head.frames.now replica kind
    (sym c.body.ensures ∙ c.in_ok-rest.ensures.front)
    c.in_ok-rest-2.ensures.found
    c.in_ok-rest-2.ensures.queues
    c.in-Some.ensures.head
    c.in-Ok.ensures.parts
    (subst (λ (names : List (List ℕ)). IsRestored (parts_of c.args.site names state pending last) replica) c.in_ok-names.ensures c.in-Ok-restored.ensures.restored)
    (subst (λ (names : List (List ℕ)). (fault : RestoreFault) → fault ≢ restore.Memory → IsRestoreCause (parts_of c.args.site names state pending last) fault → ⊥) c.in_ok-names.ensures
    (accepted c.restored.result replica c.args.site _ state pending last c.in-Ok-restored.is (λ fault other. (c.restored.ensures.refusals fault other).1)))
    (λ below. subst (λ (names : List (List ℕ)). IsSameSite (parts_of c.args.site names state pending last) replica) c.in_ok-names.ensures (c.in-Ok-restored.ensures.same below))
