use Rattle.std.proofs.Common.{◌-◌, arith, ◌∙◌}
use Rattle.live_cells.specs.PlacedStates.{listed_at}
use Rattle.live_cells.proofs.IndexPlaces.{group_between}
use Rattle.live_cells.proofs.ListedIds.{as_long, held_between, listed_between}
use Rattle.live_cells.proofs.member_index.MemberIndex.group_of.Goals as goal

pub returns-clause-held : goal.returns-clause-held
returns-clause-held g c = held_between c.args.self.cells.now.held c.args.self.ids.now c.args.self.indexed.held c.place_of-first.result (c.end_of-end.result - c.place_of-first.result)

pub returns-clause-group : goal.returns-clause-group
returns-clause-group g c =
    let held = c.args.self.cells.now.held in
    let ids = c.args.self.ids.now in
    let first = c.place_of-first.result in
    let end = c.end_of-end.result in
    let long = as_long held ids c.args.self.indexed.held in
    let start = c.place_of-first.ensures.within in
    let within = c.end_of-end.ensures.within in
    listed_between held ids c.args.self.indexed.held first (end - first)
    ∙ group_between c.args.member.now (listed_at held ids) first end (omega arith) (omega arith) c.place_of-first.ensures.first c.end_of-end.ensures.end
