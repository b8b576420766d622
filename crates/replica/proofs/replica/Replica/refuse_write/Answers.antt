use Rattle.std.proofs.Common.{refl, subst, sym, ap, ◌∙◌, Err, ◌≡◌, ◌<◌}
use Rattle.causal_context.specs.declared.context_fault.ContextFault.{ContextFault}
use Rattle.causal_context.specs.declared.context_fault.ContextFault.TheVariants.{RunsFull, Memory as NoMemory}
use Rattle.dots.specs.declared.limits.TheConstants.{MOST_RUNS}
use Rattle.dots.specs.DotSets.{run_count}
use Rattle.member_orset.specs.Reads.{dots_seen_below}
use Rattle.replica.specs.declared.refusal.Refusal.TheVariants.{MembersFull, Exhausted}
use Rattle.replica.specs.Commands.{IsRefusalOfWrites}
use Rattle.replica.proofs.NoNumbers.{first_in, writes_exhausted, writes_full, writes_full_pending, writes_long, writes_memory}
use Rattle.replica.proofs.replica.Replica.refuse_write.Goals as goal

-- src/exhausted.rt:51:27
pub returns-in-Err : goal.returns-in-Err
returns-in-Err c = by c.in-Err.fault refl
  where
    many : c.in-Err.fault ≡ RunsFull → MOST_RUNS < run_count (dots_seen_below c.self.inside.state.members c.args.dots.now)
    many is = subst (λ m. MOST_RUNS < run_count (dots_seen_below m c.args.dots.now)) c.members.ensures.value (c.seen_below.ensures.full.0 (c.in-Err.is ∙ ap Err is))

    by : (fault : ContextFault) → c.in-Err.fault ≡ fault → IsRefusalOfWrites c.args.self.now c.args.dots.now c.refusal_of_runs.result
    by NoMemory is = subst (IsRefusalOfWrites c.args.self.now c.args.dots.now) (sym (c.refusal_of_runs.ensures.memory is)) (writes_memory c.args.self.now c.args.dots.now)
    by RunsFull is = subst (IsRefusalOfWrites c.args.self.now c.args.dots.now) (sym (c.refusal_of_runs.ensures.full is))
        (subst (λ s. IsRefusalOfWrites s c.args.dots.now MembersFull) c.self.view_is (writes_long _ c.self.invariant.kept c.args.dots.now (many is)))

-- src/exhausted.rt:55:13
pub returns-then-is_full_with : goal.returns-then-is_full_with
returns-then-is_full_with c = subst (λ s. IsRefusalOfWrites s c.args.dots.now MembersFull) c.self.view_is
    (writes_full _ c.self.invariant.kept c.args.dots.now c.in-Ok.seen.dots (c.in-Ok.ensures.ok ∙ ap (λ m. dots_seen_below m c.args.dots.now) c.members.ensures.value)
    (record { site = c.site-site.result; count = c.count-count.result })
    (first_in c.args.dots.now c.index-dots-0.result _ c.index-dots-0.is (λ i. record { site = c.site-site.ensures.value i; count = c.count-count.ensures.value i }) c.requires.some)
    (λ many. absurd (let no = c.in-Ok.ensures.full.1 (subst (λ k. MOST_RUNS < run_count k) c.in-Ok.ensures.ok many) in cc))
    (sym c.is_full_with.ensures ∙ c.if-is_full_with.true))

-- src/exhausted.rt:58:13
pub returns-then-is_full_with-2 : goal.returns-then-is_full_with-2
returns-then-is_full_with-2 c = subst (λ s. IsRefusalOfWrites s c.args.dots.now MembersFull) c.self.view_is
    (writes_full_pending _ c.self.invariant.kept c.args.dots.now c.in-Ok.seen.dots (c.in-Ok.ensures.ok ∙ ap (λ m. dots_seen_below m c.args.dots.now) c.members.ensures.value)
    (record { site = c.site-site.result; count = c.count-count.result })
    (first_in c.args.dots.now c.index-dots-0.result _ c.index-dots-0.is (λ i. record { site = c.site-site.ensures.value i; count = c.count-count.ensures.value i }) c.requires.some)
    (λ many. absurd (let no = c.in-Ok.ensures.full.1 (subst (λ k. MOST_RUNS < run_count k) c.in-Ok.ensures.ok many) in cc))
    (sym c.is_full_with-2.ensures ∙ c.if-is_full_with-2.true))

-- src/exhausted.rt:44:5
pub returns : goal.returns
returns c = subst (λ s. IsRefusalOfWrites s c.args.dots.now Exhausted) c.self.view_is
    (writes_exhausted _ c.self.invariant.kept c.args.dots.now c.in-Ok.seen.dots (c.in-Ok.ensures.ok ∙ ap (λ m. dots_seen_below m c.args.dots.now) c.members.ensures.value)
    (record { site = c.site-site.result; count = c.count-count.result })
    (first_in c.args.dots.now c.index-dots-0.result _ c.index-dots-0.is (λ i. record { site = c.site-site.ensures.value i; count = c.count-count.ensures.value i }) c.requires.some)
    (λ many. absurd (let no = c.in-Ok.ensures.full.1 (subst (λ k. MOST_RUNS < run_count k) c.in-Ok.ensures.ok many) in cc))
    (sym c.is_full_with.ensures ∙ c.if-is_full_with.false) (sym c.is_full_with-2.ensures ∙ c.if-is_full_with-2.false))
