use Rattle.std.proofs.Common.{◌≡◌, inl, inr, List, Err, IfErr, rules, refl, subst, sym}
use Rattle.site_audit.specs.Runs.{IsRun, IsStuck}
use Rattle.site_journal.specs.Journals.{JournalState}
use Rattle.sites_world.specs.declared.event.Event.{Event}
use Rattle.store_audit.specs.declared.store_audit_fault.StoreAuditFault.TheVariants.{Memory}
use Rattle.store_audit.specs.Audits.{AreOfJournals, IsPartsCause}
use Rattle.store_audit.proofs.Ending.{all_begun, ends_as, of_journals, script_cause, stuck_step}
use Rattle.store_audit.proofs.auditing.write_parts.Goals as goal

-- where the events are stuck there is a step
pub end_of-requires-clause-step : goal.end_of-requires-clause-step
end_of-requires-clause-step g c = λ site place at.
    stuck_step c.args.parts.now site place c.in_ok-events.field-0.events.items
    (subst (λ (js : List JournalState). IsStuck js site place c.in_ok-events.field-0.events.items) c.deref.ensures.value (c.in_ok-events.ensures.stuck site place at))

-- out of memory before anything was written
pub returns-in_err-events-clause-fault : goal.returns-in_err-events-clause-fault
returns-in_err-events-clause-fault g c =
    let same : c.from_residual.result ≡ Err Memory = search rules in
    subst (λ r. IfErr r (λ fault. IsPartsCause c.args.parts.now c.args.heading.now (g.W.Sink.taken c.args.out.now) (g.W.Sink.taken c.args.out.now) fault)) (sym same) (inl refl)

-- the script wasn't written to its end
pub returns-in_err-written-clause-fault : goal.returns-in_err-written-clause-fault
returns-in_err-written-clause-fault g c =
    let parts = c.args.parts.now in
    let events = c.in_ok-events.field-0.events.items in
    let same : events ≡ c.deref-2.result.now = sym c.deref-2.ensures.value in
    let fault = c.in_err-written.field-0.0 in
    let is : c.from_residual-in_err-written.result ≡ Err fault = search rules in
    let of = of_journals parts.journals.items events c.in_ok-events.field-0.stuck
    (λ none. subst (λ (js : List JournalState). IsRun js events) c.deref.ensures.value (c.in_ok-events.ensures.run none))
    (λ site place at. subst (λ (js : List JournalState). IsStuck js site place events) c.deref.ensures.value (c.in_ok-events.ensures.stuck site place at)) in
    subst (λ r. IfErr r (λ fault. IsPartsCause parts c.args.heading.now (g.W.Sink.taken c.args.out.now) (g.W.Sink.taken c.write_script-written.new.out) fault)) (sym is)
    (script_cause parts c.args.heading.now c.deref-2.result.now (g.W.Sink.taken c.args.out.now) (g.W.Sink.taken c.write_script-written.new.out) fault
    (subst (λ (es : List Event). AreOfJournals parts.journals.items es) same of) c.in_err-written.ensures.begun c.in_err-written.ensures.causes)

-- out of memory behind the script
pub returns-in_err-end-clause-fault : goal.returns-in_err-end-clause-fault
returns-in_err-end-clause-fault g c =
    let parts = c.args.parts.now in
    let events = c.in_ok-events.field-0.events.items in
    let same : events ≡ c.deref-2.result.now = sym c.deref-2.ensures.value in
    let is : c.from_residual-in_err-end.result ≡ Err Memory = search rules in
    let of = of_journals parts.journals.items events c.in_ok-events.field-0.stuck
    (λ none. subst (λ (js : List JournalState). IsRun js events) c.deref.ensures.value (c.in_ok-events.ensures.run none))
    (λ site place at. subst (λ (js : List JournalState). IsStuck js site place events) c.deref.ensures.value (c.in_ok-events.ensures.stuck site place at)) in
    subst (λ r. IfErr r (λ fault. IsPartsCause parts c.args.heading.now (g.W.Sink.taken c.args.out.now) (g.W.Sink.taken c.write_script-written.new.out) fault)) (sym is)
    (script_cause parts c.args.heading.now c.deref-2.result.now (g.W.Sink.taken c.args.out.now) (g.W.Sink.taken c.write_script-written.new.out) Memory
    (subst (λ (es : List Event). AreOfJournals parts.journals.items es) same of) (all_begun _ _ _ c.in_ok-written.ensures.written) (inr refl))

-- the end is that of the search
pub returns-clause-ended : goal.returns-clause-ended
returns-clause-ended g c =
    let parts = c.args.parts.now in
    let events = c.in_ok-events.field-0.events.items in
    let same : events ≡ c.deref-2.result.now = sym c.deref-2.ensures.value in
    ends_as parts c.args.heading.now c.deref-2.result.now c.in_ok-events.field-0.stuck c.in_ok-written.field-0 (g.W.Sink.taken c.args.out.now) (g.W.Sink.taken c.write_script-written.new.out)
    c.in_ok-end.end
    (λ none. subst (λ (es : List Event). IsRun parts.journals.items es) same
    (subst (λ (js : List JournalState). IsRun js events) c.deref.ensures.value (c.in_ok-events.ensures.run none)))
    (λ site place at. subst (λ (es : List Event). IsStuck parts.journals.items site place es) same
    (subst (λ (js : List JournalState). IsStuck js site place events) c.deref.ensures.value (c.in_ok-events.ensures.stuck site place at)))
    c.in_ok-written.ensures.unsaid c.in_ok-written.ensures.limits c.in_ok-written.ensures.written c.in_ok-end.ensures.explained c.in_ok-end.ensures.stuck
