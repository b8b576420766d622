use Rattle.std.proofs.Common.{ap, ◌∙◌}
use Rattle.std.specs.FinMap as map
use Rattle.dots.specs.Orders.{dot_cmp}
use Rattle.operations.specs.Totals.{join_of, single}
use Rattle.replica.proofs.changes.counted.Goals as goal

pub returns : goal.returns
returns c = record {
  known = ap (λ s. s.known) c.of.ensures.members ∙ c.new.ensures.known;
  live = λ q. ap (λ s. map.get s.live q) c.of.ensures.members ∙ ap (λ live. map.get live q) c.new.ensures.live ∙ map.get-empty dot_cmp q;
  totals = ap (λ t. t.entries) c.of.ensures.totals ∙ c.in_ok-reach.ensures.ok
      ∙ (λ i. join_of (c.new-totals.ensures i) (single (record { site = c.args.site; queue = c.args.queue }) (c.calls_alone.ensures i)));
  limits = c.of.ensures.limits;
}
