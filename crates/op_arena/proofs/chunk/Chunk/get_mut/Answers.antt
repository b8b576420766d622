use Rattle.std.proofs.Common.{refl, sym, ◌∙◌, ap, get_or, None, ◌-◌}
use Rattle.op_arena.specs.CellRows.{values}
use Rattle.op_arena.specs.Columns.{column}
use Rattle.op_arena.proofs.Filled.{rewritten, get_or_laid, one_there}
use Rattle.op_arena.proofs.chunk.Chunk.get_mut.Goals as goal

pub write-requires : goal.write-requires
write-requires g c =
    let s = c.self.inside in let xs = values s.places.slots in let found = one_there xs c.args.index (rw (← c.self.view_is) at c.requires) in
    (found.0, ap (λ r. get_or r c.args.index None) c.self.invariant.0.laid ∙ get_or_laid xs (s.capacity - s.len) c.args.index ∙ found.1)

pub invariant_of-self-lent : goal.invariant_of-self-lent
invariant_of-self-lent g c w =
    let s = c.self.inside in
    ((rewritten s.places.slots s.len s.capacity c.args.index w c.self.invariant.0 (rw (← c.self.view_is) at c.requires)).0, c.self.invariant.1, c.self.invariant.2, c.self.invariant.3)

pub returns : goal.returns
returns g c =
    let s = c.self.inside in let xs = values s.places.slots in
    rw (← c.self.view_is) (
      (refl, λ w i. column ((rewritten s.places.slots s.len s.capacity c.args.index w c.self.invariant.0 (rw (← c.self.view_is) at c.requires)).1 i) s.capacity),
      record { writes_back = tt; value = sym (get_or_laid xs (s.capacity - s.len) c.args.index) ∙ ap (λ r. get_or r c.args.index None) (sym c.self.invariant.0.laid) ∙ c.write.ensures.value },
    )
