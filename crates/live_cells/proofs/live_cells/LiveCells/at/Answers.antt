use Rattle.std.proofs.Common.{Some, sym, ap, subst, ◌∙◌, true≢false}
use Rattle.std.specs.FinMap as map
use Rattle.std.specs.FinSet as set
use Rattle.std.specs.Option.{option_map}
use Rattle.live_cells.specs.LiveStates.{HasId}
use Rattle.live_cells.proofs.LiveMaps.{apart, its_cell, its_id, its_live}
use Rattle.live_cells.proofs.live_cells.LiveCells.at.Goals as goal
use Rattle.live_cells.specs.Holdings.{cell_read}

pub returns-in_err-cell-clause-none : goal.returns-in_err-cell-clause-none
returns-in_err-cell-clause-none g c _ dot e =
    let s = c.self.inside.placed in
    let there = its_cell s.dots s.held s.spent c.self.invariant.placed dot c.args.id (ap (λ x. map.get x.ids dot) c.self.view_is ∙ e) in
    let none = ap (option_map (λ x. x.dot)) c.in_err-cell.ensures ∙ there in
    cc

pub returns-clause-some : goal.returns-clause-some
returns-clause-some g c =
    let s = c.self.inside.placed in
    let cell = c.in_ok-cell.cell.now in
    let is = sym c.in_ok-cell.ensures in
    subst (λ x. HasId x c.args.id (cell_read c.lent.result)) c.self.view_is (record {
      dot = cell.dot;
      named = its_id s.dots s.held s.spent c.self.invariant.placed c.args.id cell is;
      live = its_live s.dots s.held s.spent c.self.invariant.placed c.args.id cell is ∙ ap Some (sym c.lent.ensures);
    })

pub returns-clause-spent : goal.returns-clause-spent
returns-clause-spent g c h =
    let s = c.self.inside.placed in
    let cell = c.in_ok-cell.cell.now in
    let named = its_id s.dots s.held s.spent c.self.invariant.placed c.args.id cell (sym c.in_ok-cell.ensures) in
    let unspent = (apart s.dots s.held s.spent c.self.invariant.placed).unspent cell.dot c.args.id named in
    absurd (true≢false (sym h ∙ ap (λ x. set.contains x.spent c.args.id) (sym c.self.view_is) ∙ unspent))
