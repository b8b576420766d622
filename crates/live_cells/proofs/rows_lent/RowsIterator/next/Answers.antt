use Rattle.std.proofs.Common.{◌≡◌, ◌<◌, [], length, sym, ap, subst, ◌∙◌, arith, refl}
use Rattle.std.specs.Iterator.{YieldsFirstBy}
use Rattle.operations.specs.Views.{listed_row_view, row_view}
use Rattle.live_cells.specs.Index.{listing}
use Rattle.live_cells.specs.PlacedStates.{listed_at}
use Rattle.live_cells.proofs.ListedIds.{as_long}
use Rattle.live_cells.proofs.RowWalks.{has_next, no_rows_left, row_next, rows_next, upto_next, walk_next}
use Rattle.live_cells.proofs.rows_lent.RowsIterator.next.Goals as goal

pub returns-in_err-cell-clause-steps : goal.returns-in_err-cell-clause-steps
returns-in_err-cell-clause-steps c =
    let r = c.self.inside in
    let none : c.args.self.now ≡ [] = sym c.self.view_is ∙ no_rows_left r.index.cells.now r.index.ids.now r.queue r.passed r.index.indexed c.self.invariant (c.in_err-cell.ensures.none refl) in
    subst (λ x. YieldsFirstBy listed_row_view (λ s. s) c.args.self.now x c.args.self.now) (sym c.from_residual.ensures) (none, none)

pub overflow_add-first : goal.overflow_add-first
overflow_add-first c =
    let r = c.self.inside in
    let within = c.in_ok-cell.ensures.some.within in
    let long = as_long r.index.cells.now.held r.index.ids.now r.index.indexed.held in
    omega arith

pub end_of-end-requires : goal.end_of-end-requires
end_of-end-requires c =
    let r = c.self.inside in
    let index = listed_at r.index.cells.now.held r.index.ids.now in
    let within = c.in_ok-cell.ensures.some.within in
    let long = as_long r.index.cells.now.held r.index.ids.now r.index.indexed.held in (
      omega arith,
      (
        omega arith,
        upto_next r.queue index r.passed (listing c.in_ok-cell.cell.now) r.index.indexed.index.rises c.self.invariant c.in_ok-cell.ensures.some,
      ),
    )

pub returns-in_err-row-clause-steps : goal.returns-in_err-row-clause-steps
returns-in_err-row-clause-steps c =
    let r = c.self.inside in
    let end = c.end_of-end.ensures in
    let l = listing c.in_ok-cell.cell.now in
    let some : r.passed < c.end_of-end.result = let order = end.order in omega arith in
    absurd (has_next r.index.cells.now r.index.ids.now r.queue r.passed l r.index.indexed c.self.invariant c.in_ok-cell.ensures.some c.end_of-end.result some end.within end.end
    (sym (c.in_err-row.ensures ∙ row_next r.index.cells.now r.index.ids.now r.queue r.passed l r.index.indexed c.self.invariant c.in_ok-cell.ensures.some c.end_of-end.result some end.within end.end)))

pub invariant_of-self : goal.invariant_of-self
invariant_of-self c =
    let r = c.self.inside in
    let end = c.end_of-end.ensures in
    let some : r.passed < c.end_of-end.result = let order = end.order in omega arith in
    walk_next r.index.cells.now r.index.ids.now r.queue r.passed (listing c.in_ok-cell.cell.now) r.index.indexed c.self.invariant c.in_ok-cell.ensures.some c.end_of-end.result some end.within end.end

pub returns-clause-steps : goal.returns-clause-steps
returns-clause-steps c =
    let r = c.self.inside in
    let end = c.end_of-end.ensures in
    let l = listing c.in_ok-cell.cell.now in
    let some : r.passed < c.end_of-end.result = let order = end.order in omega arith in
    sym c.self.view_is
    ∙ rows_next r.index.cells.now r.index.ids.now r.queue r.passed l r.index.indexed c.self.invariant c.in_ok-cell.ensures.some c.end_of-end.result some end.within end.end (row_view c.in_ok-row.row)
    (sym (c.in_ok-row.ensures ∙ row_next r.index.cells.now r.index.ids.now r.queue r.passed l r.index.indexed c.self.invariant c.in_ok-cell.ensures.some c.end_of-end.result some end.within end.end))

pub returns-clause-goes : goal.returns-clause-goes
returns-clause-goes c =
    let r = c.self.inside in
    let end = c.end_of-end.ensures in
    let l = listing c.in_ok-cell.cell.now in
    let some : r.passed < c.end_of-end.result = let order = end.order in omega arith in
    let steps = sym c.self.view_is
    ∙ rows_next r.index.cells.now r.index.ids.now r.queue r.passed l r.index.indexed c.self.invariant c.in_ok-cell.ensures.some c.end_of-end.result some end.within end.end (row_view c.in_ok-row.row)
    (sym (c.in_ok-row.ensures ∙ row_next r.index.cells.now r.index.ids.now r.queue r.passed l r.index.indexed c.self.invariant c.in_ok-cell.ensures.some c.end_of-end.result some end.within end.end)) in
    record { on = λ f. (tt, tt, omega (arith, ap length steps)); keeps = tt; rests = λ f. tt }
