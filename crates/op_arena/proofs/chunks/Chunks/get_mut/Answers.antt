use Rattle.std.proofs.Common.{◌<◌, ◌∙◌, refl, sym, ap, arith, length}
use Rattle.std.proofs.lemmas.List.{length-set}
use Rattle.std.specs.Prelude.{slice_set}
use Rattle.op_arena.specs.Columns.{column}
use Rattle.op_arena.specs.Sizes.{all_items, total}
use Rattle.op_arena.proofs.Laying.{there, read_at, set_at, length_within}
use Rattle.op_arena.proofs.chunks.Chunks.get_mut.Goals as goal

pub index_mut-requires : goal.index_mut-requires
index_mut-requires g c =
    let s = c.self.inside in let cs = s.chunks.items in let at = c.locate-chunk.result in let all = length_within s.len cs c.self.invariant.0 in let asked : c.args.index < length (all_items cs) = rw (← c.self.view_is) at c.requires in
    omega (arith, s.chunks.ok.0, there c.args.index at.0 at.1 cs c.locate-chunk.ensures (omega (arith, asked, all.0, all.1)))

pub get_mut-requires : goal.get_mut-requires
get_mut-requires g c =
    let s = c.self.inside in let cs = s.chunks.items in let at = c.locate-chunk.result in let all = length_within s.len cs c.self.invariant.0 in let asked : c.args.index < length (all_items cs) = rw (← c.self.view_is) at c.requires in
    (read_at s.len c.args.index at.0 at.1 cs c.index_mut.result.now c.self.invariant.0 c.locate-chunk.ensures (there c.args.index at.0 at.1 cs c.locate-chunk.ensures (omega (arith, asked, all.0, all.1))) c.index_mut.ensures.value (omega (arith, asked, all.0))).0

pub invariant_of-self-lent : goal.invariant_of-self-lent
invariant_of-self-lent g c w =
    let s = c.self.inside in let cs = s.chunks.items in let at = c.locate-chunk.result in let b = c.index_mut.result.now in let all = length_within s.len cs c.self.invariant.0 in let asked : c.args.index < length (all_items cs) = rw (← c.self.view_is) at c.requires in
    let new = column (slice_set b.items at.1 w) b.capacity in
    let done = set_at s.len c.args.index at.0 at.1 cs b c.self.invariant.0 c.locate-chunk.ensures (there c.args.index at.0 at.1 cs c.locate-chunk.ensures (omega (arith, asked, all.0, all.1))) c.index_mut.ensures.value new w (omega (arith, asked, all.0)) refl in
    (done.0, c.self.invariant.1 ∙ ap total (sym (length-set cs at.0 new)), omega (arith, length-set cs at.0 new, c.self.invariant.2))

pub returns : goal.returns
returns g c =
    let s = c.self.inside in let cs = s.chunks.items in let at = c.locate-chunk.result in let b = c.index_mut.result.now in let all = length_within s.len cs c.self.invariant.0 in let asked : c.args.index < length (all_items cs) = rw (← c.self.view_is) at c.requires in
    let here = there c.args.index at.0 at.1 cs c.locate-chunk.ensures (omega (arith, asked, all.0, all.1)) in let lt : c.args.index < s.len = omega (arith, asked, all.0) in
    let read = read_at s.len c.args.index at.0 at.1 cs b c.self.invariant.0 c.locate-chunk.ensures here c.index_mut.ensures.value lt in
    rw (← c.self.view_is) (
      (refl, λ w i. column ((set_at s.len c.args.index at.0 at.1 cs b c.self.invariant.0 c.locate-chunk.ensures here c.index_mut.ensures.value (column (slice_set b.items at.1 w) b.capacity) w lt refl).1 i) s.capacity),
      record { writes_back = tt; value = read.1 ∙ c.get_mut.ensures.value },
    )
