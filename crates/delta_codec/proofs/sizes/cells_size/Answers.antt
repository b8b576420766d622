use Rattle.std.proofs.Common.{◌*◌, length, arith}
use Rattle.std.specs.FinMap as map
use Rattle.std.specs.List.{flat_map}
use Rattle.member_orset.specs.Reads.{cell_read}
use Rattle.delta_codec.specs.Parts.{CellParts, cell_bytes}
use Rattle.delta_codec.specs.Measures.{most_cell}
use Rattle.delta_codec.proofs.Measuring.{limit_more, value_more}
use Rattle.delta_codec.proofs.sizes.cells_size.Goals as goal

pub loop-dot-preserved : goal.loop-dot-preserved
loop-dot-preserved c =
    let x : CellParts = (c.in-Some.dot, cell_read c.in-Some.cell) in
    let step = c.in-Some.ensures.steps in
    let all = map.entries c.args.members.now.live in
    record {
      value = value_more x c.loop-dot.dot-iterator c.next.new.self c.loop-dot.size c.cell_size-size.result (length (flat_map cell_bytes all)) step c.cell_size-size.ensures.value c.loop-dot.invariant.value;
      limit = limit_more x c.loop-dot.dot-iterator c.next.new.self c.loop-dot.size c.cell_size-size.result (most_cell * length all) step c.cell_size-size.ensures.limit c.loop-dot.invariant.limit;
    }

pub overflow_add-size : goal.overflow_add-size
overflow_add-size c =
    let x : CellParts = (c.in-Some.dot, cell_read c.in-Some.cell) in
    let all = map.entries c.args.members.now.live in
    let more = limit_more x c.loop-dot.dot-iterator c.next.new.self c.loop-dot.size c.cell_size-size.result (most_cell * length all) c.in-Some.ensures.steps c.cell_size-size.ensures.limit c.loop-dot.invariant.limit in
    omega (arith, more, map.len-entries c.args.members.now.live, c.requires)

pub returns-clause-limit : goal.returns-clause-limit
returns-clause-limit c = omega (arith, c.loop-dot.invariant.limit, map.len-entries c.args.members.now.live, c.requires)
