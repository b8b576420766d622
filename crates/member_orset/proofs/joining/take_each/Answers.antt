use Rattle.std.proofs.Common.{sym, subst, arith}
use Rattle.std.specs.FinMap as map
use Rattle.std.specs.FinSet as set
use Rattle.member_orset.proofs.TakenCells.{Taken, next_agrees, next_room, one_fewer, taken_all, taken_more, taken_none}
use Rattle.member_orset.proofs.joining.take_each.Goals as goal

pub loop-cell-init : goal.loop-cell-init
loop-cell-init c =
    let known = set.contains c.args.known.now.dots in
    let there = c.args.others.live in
    subst (Taken known c.args.cells.now c.args.cells.now there) (sym c.into_cells-left.ensures)
    (taken_none known c.args.cells.now there (let room = c.requires.room in let n = map.len-entries there in omega arith))

pub take_in-requires-clause-agree : goal.take_in-requires-clause-agree
take_in-requires-clause-agree c =
    next_agrees (set.contains c.args.known.now.dots) c.args.cells.now c.loop-cell.cells c.loop-cell.cells c.args.others.live c.loop-cell.left c.take_first.new.self c.in-Some.cell
    c.loop-cell.invariant c.in-Some.ensures.some c.requires.agree

pub take_in-requires-clause-room : goal.take_in-requires-clause-room
take_in-requires-clause-room c =
    next_room (set.contains c.args.known.now.dots) c.args.cells.now c.loop-cell.cells c.loop-cell.cells c.args.others.live c.loop-cell.left c.take_first.new.self c.in-Some.cell
    c.loop-cell.invariant c.in-Some.ensures.some

pub loop-cell-smaller : goal.loop-cell-smaller
loop-cell-smaller c = one_fewer c.loop-cell.left c.take_first.new.self c.in-Some.cell c.in-Some.ensures.some

pub loop-cell-preserved : goal.loop-cell-preserved
loop-cell-preserved c =
    taken_more (set.contains c.args.known.now.dots) c.args.cells.now c.loop-cell.cells c.take_in.new.cells c.args.others.live c.loop-cell.left c.take_first.new.self c.in-Some.cell
    c.loop-cell.invariant c.in-Some.ensures.some c.take_in.ensures

pub returns : goal.returns
returns c = taken_all (set.contains c.args.known.now.dots) c.args.cells.now c.loop-cell.cells c.args.others.live c.loop-cell.left (c.take_first.ensures.none c.in_default.is) c.loop-cell.invariant
