use Rattle.std.proofs.Common.{◌≡◌, suc, ◌-◌, ◌+◌, length, get_or, slice_set, None, ◌∙◌, ap, arith}
use Rattle.op_arena.specs.CellRows.{values}
use Rattle.op_arena.proofs.Filled.{gone, gone_at, gone_set, gone_all}
use Rattle.op_arena.proofs.chunk.drop_values.Goals as goal

pub take-requires : goal.take-requires
take-requires g c =
    let i = c.loop-index.index in let xs = values c.args.places.now.slots in let found = gone_at i xs (c.args.capacity - c.args.len) (omega (arith, c.requires.count, c.loop-index-test.true)) in
    (found.0, ap (λ r. get_or r i None) c.loop-index.invariant.1 ∙ found.1)

pub loop-index-preserved : goal.loop-index-preserved
loop-index-preserved g c =
    let i = c.loop-index.index in let xs = values c.args.places.now.slots in let k = c.args.capacity - c.args.len in let next : suc i ≡ i + 1 = omega arith in (
      c.take.ensures.1 ∙ c.loop-index.invariant.0,
      c.take.ensures.2 ∙ ap (λ r. slice_set r i None) c.loop-index.invariant.1 ∙ gone_set i xs k (omega (arith, c.requires.count, c.loop-index-test.true)) ∙ ap (λ m. gone m xs k) next,
    )

pub returns : goal.returns
returns g c =
    let i = c.loop-index.index in let xs = values c.args.places.now.slots in let k = c.args.capacity - c.args.len in
    let end : i ≡ length xs = omega (arith, c.requires.count, c.loop-index-test.false, c.loop-index.auto.index-end) in
    record {
      emptied = c.loop-index.invariant.1 ∙ ap (λ m. gone m xs k) end ∙ gone_all xs k c.args.capacity (omega (arith, c.requires.count, c.requires.within));
      first = c.loop-index.invariant.0;
    }
