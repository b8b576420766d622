use Rattle.std.proofs.Common.{◌≡◌, ◌<◌, ◌+◌, ◌||◌, ℕ, suc, [], ◌∷◌, Err, arith, refl, sym, ap, subst, inl, inr, ◌∙◌, true≢false}
use Rattle.std.proofs.Math.Bool.{or-true}
use Rattle.std.proofs.lemmas.Option.{slice_get_within}
use Rattle.causal_context.specs.declared.context_fault.ContextFault.{ContextFault}
use Rattle.causal_context.specs.declared.context_fault.ContextFault.TheVariants.{RunsFull, Memory as NoMemory}
use Rattle.dots.specs.declared.limits.TheConstants.{MOST_RUNS}
use Rattle.dots.specs.DotSets.{run_count}
use Rattle.dots.specs.Values.{PauseState, IsCount}
use Rattle.member_orset.specs.Members.{IsPresent}
use Rattle.member_orset.specs.Reads.{dots_seen_below}
use Rattle.replica.specs.declared.refusal.Refusal.TheVariants.{AlreadyThere, MembersFull}
use Rattle.replica.specs.Changes.{AddMember, Refused, is_used_up}
use Rattle.replica.specs.Commands.{IsRefusalOfAdds, MayWantMemory}
use Rattle.replica.specs.Planning.{IsPlan, IsUnplanned}
use Rattle.replica.specs.SetFields.{fields_added}
use Rattle.replica.specs.Writing.{one_held}
use Rattle.replica.specs.Site.{meaning_at}
use Rattle.replica.proofs.PlannedAdds.{add_long, add_plan, add_there, add_reported, add_wants, used_up}
use Rattle.replica.proofs.replica.Replica.plan_add.Goals as goal

one : (n : ℕ) → n + 1 ≡ suc n
one n = omega arith

pub returns-then-contains : goal.returns-then-contains
returns-then-contains c = inr
    (subst (λ s. meaning_at s (AddMember c.args.queue.now c.args.interface c.args.penalty c.args.paused c.args.label) ≡ Refused AlreadyThere) c.self.view_is
    (add_there _ c.self.invariant.kept c.self.invariant.state_limits c.args.queue.now c.args.interface c.args.penalty c.args.paused c.args.label c.in-Some.number (sym c.position.ensures.number ∙ c.in-Some.is)
    (subst (λ m. IsPresent m (record { queue = c.in-Some.number; interface = c.args.interface })) c.members.ensures.value (c.contains.ensures.0 c.if-contains.true))))

pub returns-in_default-new : goal.returns-in_default-new
returns-in_default-new c =
    subst (λ s. IsUnplanned (meaning_at s (AddMember c.args.queue.now c.args.interface c.args.penalty c.args.paused c.args.label)) c.refuse_add.result) c.self.view_is
    (add_reported _ c.self.invariant.kept c.self.invariant.state_limits c.args.queue.now c.args.interface c.args.penalty c.args.paused c.args.label c.in-Some.number (sym c.position.ensures.number ∙ c.in-Some.is)
    (λ present. absurd (true≢false (sym (c.contains.ensures.1 (subst (λ m. IsPresent m (record { queue = c.in-Some.number; interface = c.args.interface })) (sym c.members.ensures.value) present)) ∙ c.if-contains.false)))
    c.refuse_add.result (subst (λ s. IsRefusalOfAdds s c.refuse_add.result) (sym c.self.view_is) c.refuse_add.ensures)
    (ap (λ b. b || is_used_up (suc c.self.inside.time)) (used_up c.self.inside.count (λ is. absurd (let some = c.in_default-new.ensures.within.1 (subst IsCount (sym (one c.self.inside.count)) is) in cc)))))

pub returns-in_default-new-2 : goal.returns-in_default-new-2
returns-in_default-new-2 c =
    subst (λ s. IsUnplanned (meaning_at s (AddMember c.args.queue.now c.args.interface c.args.penalty c.args.paused c.args.label)) c.refuse_add-in_default-new-2.result) c.self.view_is
    (add_reported _ c.self.invariant.kept c.self.invariant.state_limits c.args.queue.now c.args.interface c.args.penalty c.args.paused c.args.label c.in-Some.number (sym c.position.ensures.number ∙ c.in-Some.is)
    (λ present. absurd (true≢false (sym (c.contains.ensures.1 (subst (λ m. IsPresent m (record { queue = c.in-Some.number; interface = c.args.interface })) (sym c.members.ensures.value) present)) ∙ c.if-contains.false)))
    c.refuse_add-in_default-new-2.result (subst (λ s. IsRefusalOfAdds s c.refuse_add-in_default-new-2.result) (sym c.self.view_is) c.refuse_add-in_default-new-2.ensures)
    (ap (λ b. is_used_up (suc c.self.inside.count) || b) (used_up c.self.inside.time (λ is. absurd (let some = c.in_default-new-2.ensures.within.1 (subst IsCount (sym (one c.self.inside.time)) is) in cc)))
    ∙ or-true (is_used_up (suc c.self.inside.count))))

pub returns-in-Ok : goal.returns-in-Ok
returns-in-Ok c =
    let dot_is : c.in-Some-new.dot ≡ record { site = c.self.inside.site; count = suc c.self.inside.count } =
    λ i. record { site = c.in-Some-new.ensures.value.0 i; count = (c.in-Some-new.ensures.value.1 ∙ one c.self.inside.count) i } in
    let stamp_is : c.in-Some-new-2.stamp ≡ record { time = suc c.self.inside.time; site = c.self.inside.site } =
    λ i. record { time = (c.in-Some-new-2.ensures.value.0 ∙ one c.self.inside.time) i; site = c.in-Some-new-2.ensures.value.1 i } in
    let pause : PauseState = record { paused = c.args.paused; reason = [] } in
    subst (λ s. IsPlan s (meaning_at s (AddMember c.args.queue.now c.args.interface c.args.penalty c.args.paused c.args.label))
    (record { change = c.in-Ok.change; count = c.self.inside.count + 1; time = c.self.inside.time + 1 })) c.self.view_is
    (add_plan _ c.self.invariant.kept c.self.invariant.state_limits c.args.queue.now c.args.interface c.args.penalty c.args.paused c.args.label c.in-Some.number (sym c.position.ensures.number ∙ c.in-Some.is)
    (λ present. absurd (true≢false (sym (c.contains.ensures.1 (subst (λ m. IsPresent m (record { queue = c.in-Some.number; interface = c.args.interface })) (sym c.members.ensures.value) present)) ∙ c.if-contains.false)))
    (record { change = c.in-Ok.change; count = c.self.inside.count + 1; time = c.self.inside.time + 1 }) (slice_get_within c.self.inside.list c.in-Some.number _ c.in-Some.ensures.value)
    (subst IsCount (one c.self.inside.count) (c.in-Some-new.ensures.within.0 refl)) (subst IsCount (one c.self.inside.time) (c.in-Some-new-2.ensures.within.0 refl))
    (one c.self.inside.count) (one c.self.inside.time)
    (record {
      known = c.in-Ok.ensures.parts.known ∙ (λ i. dots_seen_below (c.members-2.ensures.value i) (dot_is i ∷ []));
      live = λ q. c.in-Ok.ensures.parts.live q
          ∙ (λ i. one_held (dot_is i) (record { queue = c.in-Some.number; interface = c.args.interface }, (c.fields_added-fields.ensures ∙ ap (λ s. fields_added s c.args.penalty pause c.args.label) stamp_is) i) q);
      totals = c.in-Ok.ensures.parts.totals;
      limits = c.in-Ok.ensures.parts.limits;
    }))

pub returns-in-Err : goal.returns-in-Err
returns-in-Err c = by c.in-Err.fault refl
  where
    dot_is : c.in-Some-new.dot ≡ record { site = c.self.inside.site; count = suc c.self.inside.count }
    dot_is i = record { site = c.in-Some-new.ensures.value.0 i; count = (c.in-Some-new.ensures.value.1 ∙ one c.self.inside.count) i }

    many : c.in-Err.fault ≡ RunsFull → MOST_RUNS < run_count (dots_seen_below c.self.inside.state.members (record { site = c.self.inside.site; count = suc c.self.inside.count } ∷ []))
    many is = subst (λ k. MOST_RUNS < run_count k) (λ i. dots_seen_below (c.members-2.ensures.value i) (dot_is i ∷ [])) (c.added.ensures.full.0 (c.in-Err.is ∙ ap Err is))

    by : (fault : ContextFault) → c.in-Err.fault ≡ fault → IsUnplanned (meaning_at c.args.self.now (AddMember c.args.queue.now c.args.interface c.args.penalty c.args.paused c.args.label)) c.refusal_of_runs.result
    by NoMemory is = inl (
      c.refusal_of_runs.ensures.memory is,
      subst (λ s. MayWantMemory (meaning_at s (AddMember c.args.queue.now c.args.interface c.args.penalty c.args.paused c.args.label))) c.self.view_is
          (add_wants _ c.self.invariant.kept c.self.invariant.state_limits c.args.queue.now c.args.interface c.args.penalty c.args.paused c.args.label c.in-Some.number (sym c.position.ensures.number ∙ c.in-Some.is)
          (λ present. absurd (true≢false (sym (c.contains.ensures.1 (subst (λ m. IsPresent m (record { queue = c.in-Some.number; interface = c.args.interface })) (sym c.members.ensures.value) present)) ∙ c.if-contains.false)))),
    )
    by RunsFull is = inr
        (subst (λ s. meaning_at s (AddMember c.args.queue.now c.args.interface c.args.penalty c.args.paused c.args.label) ≡ Refused MembersFull) c.self.view_is
        (add_long _ c.self.invariant.kept c.self.invariant.state_limits c.args.queue.now c.args.interface c.args.penalty c.args.paused c.args.label c.in-Some.number (sym c.position.ensures.number ∙ c.in-Some.is)
        (λ present. absurd (true≢false (sym (c.contains.ensures.1 (subst (λ m. IsPresent m (record { queue = c.in-Some.number; interface = c.args.interface })) (sym c.members.ensures.value) present)) ∙ c.if-contains.false)))
        (many is))
        ∙ ap Refused (sym (c.refusal_of_runs.ensures.full is)))
