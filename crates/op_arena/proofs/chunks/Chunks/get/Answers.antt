use Rattle.std.proofs.Common.{◌<◌, ◌∙◌, arith, length}
use Rattle.op_arena.specs.Sizes.{all_items}
use Rattle.op_arena.proofs.Laying.{there, read_at, length_within}
use Rattle.op_arena.proofs.chunks.Chunks.get.Goals as goal

pub index-requires : goal.index-requires
index-requires g c =
    let s = c.self.inside in let cs = s.chunks.items in let at = c.locate-chunk.result in let all = length_within s.len cs c.self.invariant.0 in let asked : c.args.index < length (all_items cs) = rw (← c.self.view_is) at c.requires in
    omega (arith, s.chunks.ok.0, there c.args.index at.0 at.1 cs c.locate-chunk.ensures (omega (arith, asked, all.0, all.1)))

pub get-requires : goal.get-requires
get-requires g c =
    let s = c.self.inside in let cs = s.chunks.items in let at = c.locate-chunk.result in let all = length_within s.len cs c.self.invariant.0 in let asked : c.args.index < length (all_items cs) = rw (← c.self.view_is) at c.requires in
    (read_at s.len c.args.index at.0 at.1 cs c.index.result.now c.self.invariant.0 c.locate-chunk.ensures (there c.args.index at.0 at.1 cs c.locate-chunk.ensures (omega (arith, asked, all.0, all.1))) c.index.ensures (omega (arith, asked, all.0))).0

pub returns : goal.returns
returns g c =
    let s = c.self.inside in let cs = s.chunks.items in let at = c.locate-chunk.result in let all = length_within s.len cs c.self.invariant.0 in let asked : c.args.index < length (all_items cs) = rw (← c.self.view_is) at c.requires in
    let read = read_at s.len c.args.index at.0 at.1 cs c.index.result.now c.self.invariant.0 c.locate-chunk.ensures (there c.args.index at.0 at.1 cs c.locate-chunk.ensures (omega (arith, asked, all.0, all.1))) c.index.ensures (omega (arith, asked, all.0)) in
    rw (← c.self.view_is) (read.1 ∙ c.get.ensures)
