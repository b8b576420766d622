use Rattle.std.proofs.Common.{◌<◌, false, length, ap, ◌∙◌, arith}
use Rattle.std.specs.FinMap as map
use Rattle.std.specs.Option.{option_map_or}
use Rattle.std.specs.Ordering.{is_le}
use Rattle.dots.specs.Orders.{member_cmp}
use Rattle.live_cells.specs.Index.{Listed}
use Rattle.live_cells.specs.PlacedStates.{listed_at}
use Rattle.live_cells.proofs.IndexPlaces.{first_own, none_own}
use Rattle.live_cells.proofs.ListedIds.{as_long, reported_there}
use Rattle.live_cells.proofs.member_index.MemberIndex.has_member.Goals as goal

pub returns-then-place-members : goal.returns-then-place-members
returns-then-place-members g c =
    let held = c.args.self.cells.now.held in
    let ids = c.args.self.ids.now in
    let long = as_long held ids c.args.self.indexed.held in
    none_own c.args.member.now (listed_at held ids) c.place_of-place.result c.place_of-place.ensures.first (omega arith)

pub returns : goal.returns
returns g c =
    let held = c.args.self.cells.now.held in
    let ids = c.args.self.ids.now in
    let m = c.args.member.now in
    let place = c.place_of-place.result in
    let id = c.index-members-place.result in
    let no_entry : Listed = record { member = m; dot = record { site = 0; count = 0 } } in
    let long = as_long held ids c.args.self.indexed.held in
    let start = c.place_of-place.ensures.within in
    let inside : place < length ids = omega arith in
    c.is_upto.ensures
    ∙ ap (λ i. option_map_or (λ x. is_le (member_cmp x.member m)) (map.get held i) false) c.index-members-place.is
    ∙ reported_there held ids c.args.self.indexed.held (λ l. is_le (member_cmp l.member m)) place id no_entry inside
    ∙ first_own m (listed_at held ids) place no_entry c.args.self.indexed.index.rises c.place_of-place.ensures.first (omega arith)
