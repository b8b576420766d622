use Rattle.std.proofs.Common.{ℕ, refl, arith}
use Rattle.operations.specs.Totals.{sum_below}
use Rattle.operations.specs.Counts.{site_total}
use Rattle.reference_model.specs.Plain.{knowledge_of}
use Rattle.operations.proofs.TotalsLaws.{sum_below_more}
use Rattle.reference_model.proofs.queue_totals.queue_total.Goals as goal

pub loop-site-init : goal.loop-site-init
unfolding sum_below
loop-site-init c = record { so_far = refl; few = omega arith }

pub loop-site-preserved : goal.loop-site-preserved
loop-site-preserved c =
    let f : ℕ → ℕ = λ site. site_total (knowledge_of c.args.operations.now) site c.args.queue c.args.calls in
    let more = sum_below_more f c.loop-site.site in
    record {
      so_far = omega (arith, more, c.loop-site.invariant.so_far, c.site_total-sum.ensures.value);
      few = omega (arith, c.loop-site.invariant.few, c.site_total-sum.ensures.limit);
    }
