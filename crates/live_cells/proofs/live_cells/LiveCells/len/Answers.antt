use Rattle.std.proofs.Common.{◌+◌, ◌≤◌, ap, subst, sym, ◌∙◌}
use Rattle.std.specs.FinMap as map
use Rattle.live_cells.specs.CellIds.{retired_of}
use Rattle.live_cells.specs.LiveStates.{AreLive, most_places}
use Rattle.live_cells.proofs.LiveMaps.{apart, len_live, named}
use Rattle.live_cells.proofs.live_cells.LiveCells.len.Goals as goal

pub returns-clause-value : goal.returns-clause-value
returns-clause-value g c =
    let s = c.self.inside.placed in
    c.len.ensures.value ∙ sym (len_live s.dots s.held s.spent c.self.invariant.placed) ∙ ap (λ x. map.len x.live) c.self.view_is

pub returns-clause-limits : goal.returns-clause-limits
returns-clause-limits g c =
    let s = c.self.inside.placed in
    subst (AreLive g.row.LAST) c.self.view_is (record {
      named = named s.dots s.held s.spent c.self.invariant.placed;
      apart = apart s.dots s.held s.spent c.self.invariant.placed;
      places = subst (λ n. retired_of g.row.LAST s.spent + n ≤ most_places) (c.len.ensures.value ∙ sym (len_live s.dots s.held s.spent c.self.invariant.placed)) c.len.ensures.limit;
      worn = c.len.ensures.worn;
    })
