use Rattle.std.proofs.Common.{arith, refl, subst, sym, ap, ◌∙◌, Err, ◌≡◌, ◌<◌}
use Rattle.replica.specs.declared.refusal.Refusal.TheVariants.{MembersFull, Exhausted}
use Rattle.causal_context.specs.declared.context_fault.ContextFault.{ContextFault}
use Rattle.causal_context.specs.declared.context_fault.ContextFault.TheVariants.{RunsFull, Memory as NoMemory}
use Rattle.dots.specs.declared.limits.TheConstants.{MOST_RUNS}
use Rattle.dots.specs.DotSets.{run_count}
use Rattle.member_orset.specs.LiveDots.{dead_dots_of}
use Rattle.replica.specs.Commands.{IsRefusalOfAdds}
use Rattle.replica.proofs.NoNumbers.{adds_exhausted, adds_full, adds_full_pending, adds_long, adds_memory, adds_too_long}
use Rattle.replica.proofs.replica.Replica.refuse_add.Goals as goal

-- src/exhausted.rt:29:27
pub returns-in-Err : goal.returns-in-Err
returns-in-Err c = by c.in-Err.fault refl
  where
    many : c.in-Err.fault ≡ RunsFull → MOST_RUNS < run_count (dead_dots_of c.self.inside.state.members c.self.inside.site)
    many is = subst (λ m. MOST_RUNS < run_count (dead_dots_of m c.self.inside.site)) c.members.ensures.value (c.dead_of.ensures.full.0 (c.in-Err.is ∙ ap Err is))

    by : (fault : ContextFault) → c.in-Err.fault ≡ fault → IsRefusalOfAdds c.args.self.now c.refusal_of_runs.result
    by NoMemory is = subst (IsRefusalOfAdds c.args.self.now) (sym (c.refusal_of_runs.ensures.memory is)) (adds_memory c.args.self.now)
    by RunsFull is = subst (IsRefusalOfAdds c.args.self.now) (sym (c.refusal_of_runs.ensures.full is))
        (subst (λ s. IsRefusalOfAdds s MembersFull) c.self.view_is (adds_long _ c.self.invariant.kept c.self.invariant.state_limits c.self.invariant.pending_limits (many is)))

-- src/exhausted.rt:32:13
pub returns-then-is_full_with : goal.returns-then-is_full_with
returns-then-is_full_with c = subst (λ s. IsRefusalOfAdds s MembersFull) c.self.view_is
    (adds_full _ c.self.invariant.kept c.self.invariant.state_limits c.self.invariant.pending_limits c.in-Ok.dead.dots _ (c.in-Ok.ensures.ok ∙ ap (λ m. dead_dots_of m c.self.inside.site) c.members.ensures.value) refl
    (sym c.is_full_with.ensures ∙ c.if-is_full_with.true))

-- src/exhausted.rt:35:13
pub returns-then-is_full_with-2 : goal.returns-then-is_full_with-2
returns-then-is_full_with-2 c = subst (λ s. IsRefusalOfAdds s MembersFull) c.self.view_is
    (adds_full_pending _ c.self.invariant.kept c.self.invariant.state_limits c.self.invariant.pending_limits c.in-Ok.dead.dots _
    (c.in-Ok.ensures.ok ∙ ap (λ m. dead_dots_of m c.self.inside.site) c.members.ensures.value) refl
    (sym c.is_full_with-2.ensures ∙ c.if-is_full_with-2.true))

-- src/exhausted.rt:38:13
pub returns-then-runs_with : goal.returns-then-runs_with
returns-then-runs_with c = subst (λ s. IsRefusalOfAdds s MembersFull) c.self.view_is
    (adds_too_long _ c.self.invariant.kept c.self.invariant.state_limits c.self.invariant.pending_limits c.in-Ok.dead.dots _
    (c.in-Ok.ensures.ok ∙ ap (λ m. dead_dots_of m c.self.inside.site) c.members.ensures.value) refl
    (subst (λ n. MOST_RUNS < n) c.runs_with.ensures c.if-runs_with.true))

-- src/exhausted.rt:23:5
pub returns : goal.returns
returns c = subst (λ s. IsRefusalOfAdds s Exhausted) c.self.view_is
    (adds_exhausted _ c.self.invariant.kept c.self.invariant.state_limits c.self.invariant.pending_limits c.in-Ok.dead.dots _
    (c.in-Ok.ensures.ok ∙ ap (λ m. dead_dots_of m c.self.inside.site) c.members.ensures.value) refl
    (sym c.is_full_with.ensures ∙ c.if-is_full_with.false) (sym c.is_full_with-2.ensures ∙ c.if-is_full_with-2.false) (subst (λ n. MOST_RUNS < n → ⊥) c.runs_with.ensures (λ many. let few = c.if-runs_with.false in absurd (omega (arith, many, few)))))
