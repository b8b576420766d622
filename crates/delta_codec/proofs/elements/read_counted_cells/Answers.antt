use Rattle.std.proofs.Common.{◌≡◌, ◌-◌, None, ◌∙◌, arith, refl}
use Rattle.std.specs.FinSet as set
use Rattle.std.proofs.lemmas.Result.{err_from_is_err_and}
use Rattle.delta_codec.specs.Elements.{kept_cell}
use Rattle.delta_codec.specs.Reading.{cell_elements, elements_at, live_of, made, with_cell}
use Rattle.delta_codec.proofs.ReadCells.{behind_none, cell_kept, few_none}
use Rattle.delta_codec.proofs.ReadLists.{ends_made, is_done}
use Rattle.delta_codec.proofs.elements.read_counted_cells.Goals as goal

pub loop-init : goal.loop-init
loop-init c = record {
  cells = let start : c.args.count - 0 ≡ c.args.count = omega arith in rw (start, c.requires.empty) refl;
  known = refl;
  behind = behind_none None c.args.builder.now.live c.requires.empty;
  few = few_none c.args.builder.now.live c.requires.empty;
}

pub returns-in_err-read_cell-clause-cells : goal.returns-in_err-read_cell-clause-cells
returns-in_err-read_cell-clause-cells c =
    let p = err_from_is_err_and c.from_residual.result c.from_residual.ensures.1 in
    let at = rw c.loop.invariant.known at c.in_err-read_cell.ensures.cell in
    rw (p.1, p.2) (ends_made (cell_elements c.args.version (set.contains c.args.builder.now.known)) (kept_cell c.loop.builder.live) with_cell c.loop.builder.live c.args.count c.loop.counter c.loop.last c.loop.reader c.in_err-read_cell.field-0.0 (made live_of (elements_at (cell_elements c.args.version (set.contains c.args.builder.now.known)) c.args.count None c.args.reader.now)) c.loop-test.true at c.loop.invariant.cells)

pub loop-preserved : goal.loop-preserved
loop-preserved c =
    let known = c.args.builder.now.known in
    let at = rw c.loop.invariant.known at c.in_ok-read_cell.ensures.cell in
    let total = made live_of (elements_at (cell_elements c.args.version (set.contains known)) c.args.count None c.args.reader.now) in
    let kept = cell_kept c.args.version known c.loop.builder.live c.args.count c.loop.counter c.loop.last c.loop.reader c.read_cell.new.reader c.in_ok-read_cell.field-0 c.read_cell.new.builder.live total c.loop-test.true at c.in_ok-read_cell.ensures.order c.loop.invariant.cells c.loop.invariant.behind c.loop.invariant.few in
    record { cells = kept.0; known = c.in_ok-read_cell.ensures.known ∙ c.loop.invariant.known; behind = kept.1; few = kept.2 }

pub returns : goal.returns
returns c = record {
  known = c.loop.invariant.known;
  cells = is_done (cell_elements c.args.version (set.contains c.args.builder.now.known)) with_cell c.loop.builder.live c.args.count c.loop.counter c.loop.last c.loop.reader (made live_of (elements_at (cell_elements c.args.version (set.contains c.args.builder.now.known)) c.args.count None c.args.reader.now)) c.loop-test.false c.loop.invariant.cells;
}
