use Rattle.std.proofs.Common.{◌-◌, ◌<◌, ◌∙◌, ap, sym, arith, length, get_or, slice_get, None}
use Rattle.op_arena.specs.CellRows.{values}
use Rattle.op_arena.specs.Columns.{column}
use Rattle.op_arena.proofs.Filled.{pushed, get_or_laid, length_laid, none_past}
use Rattle.op_arena.proofs.chunk.Chunk.push.Goals as goal

pub place-requires : goal.place-requires
place-requires g c =
    let s = c.self.inside in let xs = values s.places.slots in let fills = c.self.invariant.0 in let room : length xs < s.capacity = rw (← c.self.view_is) at c.requires in let k = s.capacity - s.len in (
      omega (arith, ap length fills.laid, length_laid xs k, fills.count),
      ap (λ r. get_or r s.len None) fills.laid ∙ get_or_laid xs k s.len ∙ ap (slice_get xs) fills.count ∙ none_past xs,
    )

pub invariant_of-self : goal.invariant_of-self
invariant_of-self g c =
    let s = c.self.inside in let fills = c.self.invariant.0 in let room : length (values s.places.slots) < s.capacity = rw (← c.self.view_is) at c.requires in (
      (pushed s.places.slots c.place.new.self.slots s.len s.capacity c.args.value c.place.ensures.1 fills (omega (arith, fills.count, room))).0,
      c.self.invariant.1 ∙ sym c.place.ensures.0,
      c.self.invariant.2,
      c.self.invariant.3,
    )

pub returns : goal.returns
returns g c =
    let s = c.self.inside in let fills = c.self.invariant.0 in let room : length (values s.places.slots) < s.capacity = rw (← c.self.view_is) at c.requires in
    let done = (pushed s.places.slots c.place.new.self.slots s.len s.capacity c.args.value c.place.ensures.1 fills (omega (arith, fills.count, room))).1 in
    rw (← c.self.view_is) (λ i. column (done i) s.capacity)
