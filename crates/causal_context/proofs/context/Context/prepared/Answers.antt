use Rattle.std.proofs.Common.{◌≡◌, leb-true, le-leb, arith, ap}
use Rattle.causal_context.proofs.Views.{count_united}
use Rattle.causal_context.proofs.context.Context.prepared.Goals as goal

pub returns-then-united_count-le-MOST_RUNS : goal.returns-then-united_count-le-MOST_RUNS
returns-then-united_count-le-MOST_RUNS c =
    let room : c.self.inside.runs.room ≡ c.args.self.now.room = ap (λ k. k.room) c.self.view_is in
    let united = count_united _ _ _ c.args.self.now.dots c.args.other.now.dots c.united_count.ensures.value (ap (λ k. k.dots) c.self.view_is) (ap (λ k. k.dots) c.other.view_is) in (
      λ h. let l = leb-true _ _ h in record { few = omega (arith, united); room = omega (arith, l, room) },
      λ p. le-leb _ _ (omega (arith, p.room, room)),
    )
