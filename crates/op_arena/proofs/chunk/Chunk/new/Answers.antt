use Rattle.std.proofs.Common.{refl, [], arith}
use Rattle.std.proofs.lemmas.Grind.{common_steps}
use Rattle.op_arena.specs.Columns.{column}
use Rattle.op_arena.proofs.Filled.{filled}
use Rattle.op_arena.proofs.chunk.Chunk.new.Goals as goal

pub invariant_of-result : goal.invariant_of-result
invariant_of-result g c =
    let made = c.in_ok-places.ensures in let fits = (c.may_hold.ensures (grind (arith, common_steps))).1 in
    ((filled {X = g.row.T.Denot} c.in_ok-places.places.slots [] 0 c.args.capacity (grind (arith, common_steps, made.0)) refl (omega arith) fits).0, made.1, made.2, made.3)

pub returns : goal.returns
returns g c =
    let made = c.in_ok-places.ensures in let fits = (c.may_hold.ensures (grind (arith, common_steps))).1 in
    λ i. column ((filled {X = g.row.T.Denot} c.in_ok-places.places.slots [] 0 c.args.capacity (grind (arith, common_steps, made.0)) refl (omega arith) fits).1 i) c.args.capacity
