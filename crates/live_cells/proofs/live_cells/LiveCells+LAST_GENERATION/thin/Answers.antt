use Rattle.std.proofs.Common.{◌≡◌, ◌+◌, ◌≤◌, length, lit<, min, sym, ap, subst, arith}
use Rattle.std.specs.FinMap as map
use Rattle.std.proofs.lemmas.List.Sums.{count_by-le-length, length-filter}
use Rattle.live_cells.specs.declared.placed.Placed.{Placed}
use Rattle.live_cells.specs.Freed.{AreChosen}
use Rattle.live_cells.specs.LiveLists.{live_of}
use Rattle.live_cells.specs.PlacedStates.{AreIndexed, cells_of, live_state}
use Rattle.live_cells.proofs.FreedSets.{kept_indexed, thinned_once}
use Rattle.live_cells.proofs.LiveMaps.{len_live}
use Rattle.live_cells.proofs.live_cells.LiveCells+LAST_GENERATION.thin.Goals as goal
use Rattle.live_cells.specs.LiveStates.{IsThinned, dead_there}

pub invariant_of-self : goal.invariant_of-self
invariant_of-self c =
    subst (AreIndexed c.thin.new.self) (sym c.keep_ids.ensures.kept) (kept_indexed c.self.inside.placed c.self.inside.members.items c.self.invariant c.thin.new.self c.thin.ensures.freed c.thin.ensures.valid)

pub returns-clause-thinned : goal.returns-clause-thinned
returns-clause-thinned c =
    let s = c.self.inside.placed in
    let u = c.thin.new.self in
    let p = λ (q : Placed). map.contains_key u.held q.id in
    let fewer : length u.dots ≤ length s.dots = omega (arith, ap length c.thin.ensures.dots, length-filter p s.dots, count_by-le-length p s.dots) in
    let room : min s.room c.self.inside.members.room + length u.dots ≤ min u.room c.keep_ids.new.ids.room + length s.dots =
    omega (arith, c.thin.ensures.room, c.keep_ids.ensures.room, fewer) in
    let dies = dead_there c.args.known.now.dots in
    subst (λ l. IsThinned (dies c.args.there.now.live) l (live_state u c.keep_ids.new.ids.room)) c.self.view_is
    (thinned_once s c.self.inside.members.items c.self.invariant u c.thin.ensures.freed c.thin.ensures.valid (dies c.args.there.now.live)
    (subst (λ there. AreChosen (dies there) s.dots s.held u.held) c.cursor.ensures c.thin.ensures.chosen) c.self.inside.members.room c.keep_ids.new.ids.room room)

pub returns-clause-few : goal.returns-clause-few
returns-clause-few c =
    let s = c.self.inside.placed in
    let u = c.thin.new.self in
    let p = λ (q : Placed). map.contains_key u.held q.id in
    let before : map.len (live_of (cells_of s)) ≡ map.len c.args.self.now.live = ap (λ l. map.len l.live) c.self.view_is in
    omega (arith, before, len_live s.dots s.held s.spent c.self.invariant.placed, len_live u.dots u.held u.spent c.thin.ensures.valid, ap length c.thin.ensures.dots, length-filter p s.dots, count_by-le-length p s.dots)

pub keep_ids-requires : goal.keep_ids-requires
keep_ids-requires c = (lit< tt, kept_indexed c.self.inside.placed c.self.inside.members.items c.self.invariant c.thin.new.self c.thin.ensures.freed c.thin.ensures.valid)
