use Rattle.std.proofs.Common.{arith, ◌≡◌, ◌≤◌, ◌<◌, ◌+◌, refl, sym, ap, subst, inl, inr, ◌∙◌}
use Rattle.std.proofs.lemmas.Option.{slice_get_within}
use Rattle.dots.specs.declared.limits.TheConstants.{MOST_CALLS}
use Rattle.operations.specs.Totals.{totals_of}
use Rattle.site_totals.specs.Raising.{number_of}
use Rattle.replica.specs.Changes.{CountCall, Refused}
use Rattle.replica.specs.declared.refusal.Refusal.TheVariants.{TotalFull}
use Rattle.replica.specs.Commands.{MayWantMemory}
use Rattle.replica.specs.Planning.{IsPlan}
use Rattle.replica.specs.Site.{meaning_at}
use Rattle.replica.proofs.PlannedCommands.{count_full, count_plan, count_wants}
use Rattle.replica.proofs.replica.Replica.plan_count.Goals as goal

-- src/commands.rt:51:13
pub returns-then-total-ge-MOST_CALLS : goal.returns-then-total-ge-MOST_CALLS
returns-then-total-ge-MOST_CALLS c = inr
    (subst (λ s. meaning_at s (CountCall c.args.queue.now c.args.calls) ≡ Refused TotalFull) c.self.view_is
    (count_full _ c.self.invariant.kept c.self.invariant.state_limits c.self.invariant.pending_limits c.args.queue.now c.args.calls c.in-Some.number (sym c.position.ensures.number ∙ c.in-Some.is)
    (subst (λ n. MOST_CALLS ≤ n) (c.number_of-total.ensures ∙ ap (number_of c.args.calls) (c.of.ensures.value ∙ ap (λ t. totals_of t.entries c.self.inside.site c.in-Some.number) c.totals.ensures)) c.if-total-ge-MOST_CALLS.true)))

-- the change ran out of memory
pub returns-in-Err : goal.returns-in-Err
returns-in-Err c =
    let total = c.number_of-total.ensures ∙ ap (number_of c.args.calls) (c.of.ensures.value ∙ ap (λ t. totals_of t.entries c.self.inside.site c.in-Some.number) c.totals.ensures) in
    inl (
      refl,
      subst (λ s. MayWantMemory (meaning_at s (CountCall c.args.queue.now c.args.calls))) c.self.view_is
          (count_wants _ c.self.invariant.kept c.self.invariant.state_limits c.self.invariant.pending_limits c.args.queue.now c.args.calls c.in-Some.number (sym c.position.ensures.number ∙ c.in-Some.is)
          (subst (λ n. n < MOST_CALLS) total c.if-total-ge-MOST_CALLS.false)),
    )

-- src/commands.rt:42:5
pub returns-in-Ok : goal.returns-in-Ok
returns-in-Ok c =
    let total = c.number_of-total.ensures ∙ ap (number_of c.args.calls) (c.of.ensures.value ∙ ap (λ t. totals_of t.entries c.self.inside.site c.in-Some.number) c.totals.ensures) in
    subst (λ s. IsPlan s (meaning_at s (CountCall c.args.queue.now c.args.calls)) (record { change = c.in-Ok.change; count = c.self.inside.count; time = c.self.inside.time })) c.self.view_is
    (count_plan _ c.self.invariant.kept c.self.invariant.state_limits c.self.invariant.pending_limits c.args.queue.now c.args.calls c.in-Some.number (sym c.position.ensures.number ∙ c.in-Some.is)
    (record { change = c.in-Ok.change; count = c.self.inside.count; time = c.self.inside.time }) (c.number_of-total.result + 1)
    (subst (λ n. n < MOST_CALLS) total c.if-total-ge-MOST_CALLS.false) (ap (λ n. n + 1) total) (slice_get_within c.self.inside.list c.in-Some.number _ c.in-Some.ensures.value)
    refl refl c.in-Ok.ensures)

-- the number of a queue is below the greatest
pub counted-requires-clause-queue : goal.counted-requires-clause-queue
counted-requires-clause-queue c =
    let within = slice_get_within c.self.inside.list c.in-Some.number _ c.in-Some.ensures.value in
    let few = c.self.invariant.queues.few in
    omega (arith, within, few)
