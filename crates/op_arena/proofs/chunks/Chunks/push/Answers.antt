use Rattle.std.proofs.Common.{◌<◌, ◌∙◌, refl, sym, ap, arith, length}
use Rattle.std.proofs.lemmas.List.{length-set}
use Rattle.op_arena.specs.Columns.{column}
use Rattle.op_arena.specs.Sizes.{all_items, total}
use Rattle.op_arena.proofs.Laying.{there, push_at, room_at, total_limit, length_within}
use Rattle.op_arena.proofs.chunks.Chunks.push.Goals as goal

pub index_mut-requires : goal.index_mut-requires
index_mut-requires g c =
    let s = c.self.inside in let cs = s.chunks.items in let at = c.locate-chunk.result in let all = length_within s.len cs c.self.invariant.0 in let asked : length (all_items cs) < s.capacity = rw (← c.self.view_is) at c.requires in
    omega (arith, s.chunks.ok.0, there s.len at.0 at.1 cs c.locate-chunk.ensures (omega (arith, asked, all.0, c.self.invariant.1)))

pub push-requires : goal.push-requires
push-requires g c =
    let s = c.self.inside in let cs = s.chunks.items in let at = c.locate-chunk.result in let all = length_within s.len cs c.self.invariant.0 in let asked : length (all_items cs) < s.capacity = rw (← c.self.view_is) at c.requires in
    room_at s.len s.len at.0 at.1 cs c.index_mut.result.now c.self.invariant.0 c.locate-chunk.ensures (there s.len at.0 at.1 cs c.locate-chunk.ensures (omega (arith, asked, all.0, c.self.invariant.1))) c.index_mut.ensures.value refl

pub overflow_add-self : goal.overflow_add-self
overflow_add-self g c =
    let s = c.self.inside in let cs = s.chunks.items in let all = length_within s.len cs c.self.invariant.0 in let asked : length (all_items cs) < s.capacity = rw (← c.self.view_is) at c.requires in
    record { fits = omega (arith, asked, all.0, c.self.invariant.1, total_limit (length cs) c.self.invariant.2) }

pub invariant_of-self : goal.invariant_of-self
invariant_of-self g c =
    let s = c.self.inside in let cs = s.chunks.items in let at = c.locate-chunk.result in let all = length_within s.len cs c.self.invariant.0 in let asked : length (all_items cs) < s.capacity = rw (← c.self.view_is) at c.requires in
    let here = there s.len at.0 at.1 cs c.locate-chunk.ensures (omega (arith, asked, all.0, c.self.invariant.1)) in let new = c.push.new.self in
    let done = push_at s.len s.len at.0 at.1 cs c.index_mut.result.now c.self.invariant.0 c.locate-chunk.ensures here c.index_mut.ensures.value new c.args.value refl c.push.ensures in
    (done.0, c.self.invariant.1 ∙ ap total (sym (length-set cs at.0 new)), omega (arith, length-set cs at.0 new, c.self.invariant.2))

pub returns : goal.returns
returns g c =
    let s = c.self.inside in let cs = s.chunks.items in let at = c.locate-chunk.result in let all = length_within s.len cs c.self.invariant.0 in let asked : length (all_items cs) < s.capacity = rw (← c.self.view_is) at c.requires in
    let here = there s.len at.0 at.1 cs c.locate-chunk.ensures (omega (arith, asked, all.0, c.self.invariant.1)) in
    let done = push_at s.len s.len at.0 at.1 cs c.index_mut.result.now c.self.invariant.0 c.locate-chunk.ensures here c.index_mut.ensures.value c.push.new.self c.args.value refl c.push.ensures in
    rw (← c.self.view_is) (λ i. column (done.1 i) s.capacity)
