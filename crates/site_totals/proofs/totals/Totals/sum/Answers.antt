use Rattle.std.proofs.Common.{◌≡◌, ◌+◌, sym, ap, ◌∙◌, arith}
use Rattle.dots.specs.declared.call_totals.CallTotals.{CallTotals}
use Rattle.operations.specs.Totals.{totals_of}
use Rattle.operations.proofs.TotalsLaws.{sum_below_zero, sum_below_more}
use Rattle.site_totals.proofs.totals.Totals.sum.Goals as goal
use Rattle.site_totals.proofs.totals.Totals.sum.Goals.{in-Some, in_default}

-- before the first site
pub loop-number-init : goal.loop-number-init
loop-number-init c =
    let completed = ap (λ (t : CallTotals). t.completed) c.none-sum.ensures in
    let abandoned = ap (λ (t : CallTotals). t.abandoned) c.none-sum.ensures in
    record {
      completed = completed ∙ sym (sum_below_zero _);
      abandoned = abandoned ∙ sym (sum_below_zero _);
      small_completed = omega (arith, completed);
      small_abandoned = omega (arith, abandoned);
    }

-- a site below 64 is there, and its total is added
pub loop-number-preserved : goal.loop-number-preserved
loop-number-preserved c = elim c.match-new.branch [
  | in-Some w ↦
      let total : w.of_near-found.result.0 ≡ totals_of c.args.self.now.entries c.loop-number.number c.args.queue =
      w.of_near-found.ensures.value ∙ ap (λ site. totals_of c.args.self.now.entries site c.args.queue) w.in-Some.ensures.value in
      record {
        completed = ap (λ (t : CallTotals). t.completed) w.sum-is ∙ (λ i. c.loop-number.invariant.completed i + (total i).completed) ∙ sym (sum_below_more (λ site. (totals_of c.args.self.now.entries site c.args.queue).completed) c.loop-number.number);
        abandoned = ap (λ (t : CallTotals). t.abandoned) w.sum-is ∙ (λ i. c.loop-number.invariant.abandoned i + (total i).abandoned) ∙ sym (sum_below_more (λ site. (totals_of c.args.self.now.entries site c.args.queue).abandoned) c.loop-number.number);
        small_completed = omega (arith, ap (λ (t : CallTotals). t.completed) w.sum-is, c.loop-number.invariant.small_completed, w.of_near-found.ensures.limit.0);
        small_abandoned = omega (arith, ap (λ (t : CallTotals). t.abandoned) w.sum-is, c.loop-number.invariant.small_abandoned, w.of_near-found.ensures.limit.1);
      }
  | in_default w ↦ absurd (let there = w.in_default.ensures.within.1 c.loop-number-test.true in cc)
]
