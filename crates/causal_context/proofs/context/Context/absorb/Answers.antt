use Rattle.std.proofs.Common.{arith, ap}
use Rattle.dots.specs.DotSets.{run_count}
use Rattle.causal_context.proofs.context.Context.absorb.Goals as goal

pub absorb-requires : goal.absorb-requires
absorb-requires c =
    let ours = ap (λ k. run_count k.dots) c.self.view_is in
    let others = ap (λ k. run_count k.dots) c.other.view_is in
    let room = ap (λ k. k.room) c.self.view_is in
    omega (arith, c.requires.room, ours, others, room)
