use Rattle.std.proofs.Common.{◌≡◌, ◌+◌, ◌≤◌, ◌<◌, true, length, min, is_ok, arith, sym, ap, subst, ◌∙◌}
use Rattle.std.specs.Prelude.{OnOk}
use Rattle.std.specs.FinMap as map
use Rattle.std.proofs.lemmas.Result.{err_from_is_err_and}
use Rattle.live_cells.specs.CellIds.{retired_of}
use Rattle.live_cells.proofs.LiveChanges.{members_count}
use Rattle.live_cells.proofs.LiveMaps.{len_live}
use Rattle.live_cells.proofs.live_cells.LiveCells.reserve.Goals.{in-Ok, in-Err}
use Rattle.live_cells.proofs.live_cells.LiveCells.reserve.Goals as goal
use Rattle.live_cells.specs.LiveStates.{most_places}

pub returns-in_err-reserve-clause-full : goal.returns-in_err-reserve-clause-full
returns-in_err-reserve-clause-full g c =
    let s = c.self.inside.placed in
    let p = err_from_is_err_and c.from_residual.result c.from_residual.ensures.1 in
    let is : c.from_residual.result ≡ c.reserve.result = cc (p.1, p.2, c.in_err-reserve.was) in
    let same : retired_of g.row.LAST s.spent + length s.dots + c.args.more ≡ retired_of g.row.LAST c.args.self.now.spent + map.len c.args.self.now.live + c.args.more =
    ap (λ n. retired_of g.row.LAST s.spent + n + c.args.more) (sym (len_live s.dots s.held s.spent c.self.invariant.placed)) ∙ ap (λ x. retired_of g.row.LAST x.spent + map.len x.live + c.args.more) c.self.view_is in
    (λ h. subst (λ n. most_places < n) same (c.reserve.ensures.full.0 (sym is ∙ h)), λ h. is ∙ c.reserve.ensures.full.1 (subst (λ n. most_places < n) (sym same) h))

pub returns-in_err-reserve-clause-had_room : goal.returns-in_err-reserve-clause-had_room
returns-in_err-reserve-clause-had_room g c h =
    let s = c.self.inside.placed in
    let count : length s.dots ≡ map.len c.args.self.now.live = sym (len_live s.dots s.held s.spent c.self.invariant.placed) ∙ ap (λ x. map.len x.live) c.self.view_is in
    let room : min s.room c.self.inside.members.room ≡ c.args.self.now.room = ap (λ x. x.room) c.self.view_is in
    let ok : is_ok c.reserve.result ≡ true = c.reserve.ensures.had_room (omega (arith, h, count, room)) in
    let no = sym (ap is_ok c.in_err-reserve.was) ∙ ok in
    absurd (cc)

pub returns-clause-room : goal.returns-clause-room
returns-clause-room g c =
    let s = c.self.inside.placed in
    let count : length s.dots ≡ map.len c.args.self.now.live = sym (len_live s.dots s.held s.spent c.self.invariant.placed) ∙ ap (λ x. map.len x.live) c.self.view_is in
    elim c.match-reserve.branch [
      | in-Ok w ↦ subst (λ r. OnOk r (map.len c.args.self.now.live + c.args.more ≤ min c.reserve.new.self.room c.reserve-2.new.self.room)) (sym w.result-is)
          (omega (arith, count, members_count s c.self.inside.members.items c.self.invariant, c.in_ok-reserve.ensures.room, w.in-Ok.ensures.room))
      | in-Err w ↦ subst (λ r. OnOk r (map.len c.args.self.now.live + c.args.more ≤ min c.reserve.new.self.room c.reserve-2.new.self.room)) (sym w.result-is) tt
    ]

pub returns-clause-full : goal.returns-clause-full
returns-clause-full g c =
    let s = c.self.inside.placed in
    let same : retired_of g.row.LAST s.spent + length s.dots + c.args.more ≡ retired_of g.row.LAST c.args.self.now.spent + map.len c.args.self.now.live + c.args.more =
    ap (λ n. retired_of g.row.LAST s.spent + n + c.args.more) (sym (len_live s.dots s.held s.spent c.self.invariant.placed)) ∙ ap (λ x. retired_of g.row.LAST x.spent + map.len x.live + c.args.more) c.self.view_is in (
      λ h. absurd (elim c.match-reserve.branch [ in-Ok w ↦ let r = sym w.result-is ∙ h in cc | in-Err w ↦ let r = sym w.result-is ∙ h in cc ]),
      λ h. absurd (let full = sym (c.reserve.ensures.full.1 (subst (λ n. most_places < n) (sym same) h)) ∙ c.in_ok-reserve.was in cc),
    )

pub returns-clause-had_room : goal.returns-clause-had_room
returns-clause-had_room g c h =
    let s = c.self.inside.placed in
    let count : length s.dots ≡ map.len c.args.self.now.live = sym (len_live s.dots s.held s.spent c.self.invariant.placed) ∙ ap (λ x. map.len x.live) c.self.view_is in
    let room : min s.room c.self.inside.members.room ≡ c.args.self.now.room = ap (λ x. x.room) c.self.view_is in
    let ok : is_ok c.reserve-2.result ≡ true = c.reserve-2.ensures.had_room (omega (arith, h, count, room, members_count s c.self.inside.members.items c.self.invariant)) in
    elim c.match-reserve.branch [
      | in-Ok w ↦ ap is_ok w.result-is
      | in-Err w ↦ absurd (let no = sym (ap is_ok w.in-Err.is) ∙ ok in cc)
    ]
