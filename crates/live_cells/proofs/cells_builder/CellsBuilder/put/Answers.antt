use Rattle.std.proofs.Common.{◌≡◌, ℕ, ◌+◌, true, List, length, get_or, is_ok, is_some, lit<, min, sym, ap, subst, ◌∙◌, refl, arith}
use Rattle.std.specs.Prelude.{IsSome, Err}
use Rattle.std.specs.Vec.{vec_capacity}
use Rattle.std.specs.FinMap as map
use Rattle.std.specs.Ordering.{is_lt}
use Rattle.std.specs.declared.cmp.Ordering.TheVariants.{Less}
use Rattle.std.proofs.lemmas.Result.{err_from_is_err_and}
use Rattle.std.proofs.lemmas.List.Edits.{length-insert}
use Rattle.dots.specs.Orders.{dot_cmp}
use Rattle.dots.specs.Values.{Dot}
use Rattle.op_arena.specs.declared.arena_fault.ArenaFault.TheVariants.{Full}
use Rattle.live_cells.specs.declared.live_dot.LiveDot.{LiveDot}
use Rattle.live_cells.specs.CellIds.{IsNew, retired_of}
use Rattle.live_cells.specs.LiveLists.{IsGap, holding, live_of}
use Rattle.live_cells.specs.LiveStates.{LiveState}
use Rattle.live_cells.specs.PlacedStates.{cells_at, cells_of, ids_of}
use Rattle.live_cells.proofs.CellLists.{Rise, found_at}
use Rattle.live_cells.proofs.LiveChanges.{ids_more, is_new, live_more}
use Rattle.live_cells.proofs.LiveMaps.{ids_by, len_live, rise}
use Rattle.live_cells.proofs.PlacedChanges.{same_placed}
use Rattle.live_cells.proofs.CellsOfDots.{as_long}
use Rattle.live_cells.proofs.SpentIds.{none_retired}
use Rattle.live_cells.proofs.Views.{get_live_of}
use Rattle.live_cells.proofs.cells_builder.CellsBuilder.put.Goals as goal

-- a dot past all live ones goes in behind all cells
gap_end : (cs : List LiveDot) (d : Dot) → Rise cs → ((q : Dot) → IsSome (map.get (live_of cs) q) → dot_cmp q d ≡ Less) → (i : ℕ) → i ≡ length cs → IsGap cs d i
gap_end cs d s greater i e = record {
  within = omega (arith, e);
  before = λ k c lo hi. ap is_lt (greater (get_or cs k c).dot (ap is_some (get_live_of cs (get_or cs k c).dot s ∙ found_at (get_or cs k c).dot cs k c s (omega (arith, e, hi)) refl)));
  after = λ c l. absurd (omega (arith, e, l));
}

pub insert-requires : goal.insert-requires
insert-requires g c =
    let b = c.self.inside in
    let s = c.make_room.new.placed in
    let d = c.args.cell.dot in
    let old : LiveState = c.args.self.now in
    let placed = same_placed _ _ _ _ _ _ c.make_room.ensures.dots c.make_room.ensures.held c.make_room.ensures.spent c.self.invariant.placed in
    let live : live_of (cells_of s) ≡ old.live = (λ i. live_of (cells_at (c.make_room.ensures.held i) (ids_of (c.make_room.ensures.dots i)))) ∙ ap (λ (x : LiveState). x.live) c.self.view_is in
    let greater : (q : Dot) → IsSome (map.get (live_of (cells_of s)) q) → dot_cmp q d ≡ Less = λ q h. c.requires q (subst (λ l. IsSome (map.get l q)) live h) in
    let gap = gap_end (cells_of s) d (rise s.dots s.held s.spent placed) greater c.len-end.result (c.len-end.ensures.value ∙ sym (as_long s.dots s.held placed.there)) in
    (lit< tt, (gap, c.in_ok-make_room.ensures.cells))

pub invariant_of-self-2 : goal.invariant_of-self-2
invariant_of-self-2 g c =
    let s = c.make_room.new.placed in
    let t = c.insert.new.self in
    let longer : length t.dots ≡ length s.dots + 1 = ap length c.insert.ensures.dots ∙ length-insert s.dots c.len-end.result (record { dot = c.args.cell.dot; id = c.insert.result }) (omega (arith, c.len-end.ensures.value)) in
    record {
      placed = c.insert.ensures.valid;
      unspent = c.insert.ensures.spent ∙ c.make_room.ensures.spent ∙ c.self.invariant.unspent;
      empty = c.make_room.ensures.empty;
      room = omega (arith, longer, c.in_ok-make_room.ensures.index);
    }

pub returns-clause-ok : goal.returns-clause-ok
returns-clause-ok g c =
    let b = c.self.inside in
    let s = c.make_room.new.placed in
    let d = c.args.cell.dot in
    let old : LiveState = c.args.self.now in
    let placed = same_placed _ _ _ _ _ _ c.make_room.ensures.dots c.make_room.ensures.held c.make_room.ensures.spent c.self.invariant.placed in
    let live : live_of (cells_of s) ≡ old.live = (λ i. live_of (cells_at (c.make_room.ensures.held i) (ids_of (c.make_room.ensures.dots i)))) ∙ ap (λ (x : LiveState). x.live) c.self.view_is in
    let greater : (q : Dot) → IsSome (map.get (live_of (cells_of s)) q) → dot_cmp q d ≡ Less = λ q h. c.requires q (subst (λ l. IsSome (map.get l q)) live h) in
    let gap = gap_end (cells_of s) d (rise s.dots s.held s.spent placed) greater c.len-end.result (c.len-end.ensures.value ∙ sym (as_long s.dots s.held placed.there)) in
    let t = c.insert.new.self in
    live_more s t placed c.len-end.result c.args.cell c.insert.result gap c.insert.ensures.free c.insert.ensures.held c.insert.ensures.cells ∙ ap (λ l. map.insert l d (holding c.args.cell)) live

pub returns-clause-id : goal.returns-clause-id
returns-clause-id g c =
    let b = c.self.inside in
    let s = c.make_room.new.placed in
    let d = c.args.cell.dot in
    let old : LiveState = c.args.self.now in
    let placed = same_placed _ _ _ _ _ _ c.make_room.ensures.dots c.make_room.ensures.held c.make_room.ensures.spent c.self.invariant.placed in
    let live : live_of (cells_of s) ≡ old.live = (λ i. live_of (cells_at (c.make_room.ensures.held i) (ids_of (c.make_room.ensures.dots i)))) ∙ ap (λ (x : LiveState). x.live) c.self.view_is in
    let greater : (q : Dot) → IsSome (map.get (live_of (cells_of s)) q) → dot_cmp q d ≡ Less = λ q h. c.requires q (subst (λ l. IsSome (map.get l q)) live h) in
    let gap = gap_end (cells_of s) d (rise s.dots s.held s.spent placed) greater c.len-end.result (c.len-end.ensures.value ∙ sym (as_long s.dots s.held placed.there)) in
    let t = c.insert.new.self in
    ids_more s t placed c.len-end.result c.args.cell c.insert.result gap c.insert.ensures.free c.insert.ensures.held c.insert.ensures.dots
    ∙ ap (λ ids. map.insert ids d c.insert.result) (ap ids_by c.make_room.ensures.dots ∙ ap (λ (x : LiveState). x.ids) c.self.view_is)

pub returns-clause-new : goal.returns-clause-new
returns-clause-new g c =
    let b = c.self.inside in
    let s = c.make_room.new.placed in
    let d = c.args.cell.dot in
    let old : LiveState = c.args.self.now in
    let placed = same_placed _ _ _ _ _ _ c.make_room.ensures.dots c.make_room.ensures.held c.make_room.ensures.spent c.self.invariant.placed in
    let live : live_of (cells_of s) ≡ old.live = (λ i. live_of (cells_at (c.make_room.ensures.held i) (ids_of (c.make_room.ensures.dots i)))) ∙ ap (λ (x : LiveState). x.live) c.self.view_is in
    let greater : (q : Dot) → IsSome (map.get (live_of (cells_of s)) q) → dot_cmp q d ≡ Less = λ q h. c.requires q (subst (λ l. IsSome (map.get l q)) live h) in
    let gap = gap_end (cells_of s) d (rise s.dots s.held s.spent placed) greater c.len-end.result (c.len-end.ensures.value ∙ sym (as_long s.dots s.held placed.there)) in
    let t = c.insert.new.self in
    let ids = ap ids_by c.make_room.ensures.dots ∙ ap (λ (x : LiveState). x.ids) c.self.view_is in
    let spent = c.make_room.ensures.spent ∙ ap (λ (x : LiveState). x.spent) c.self.view_is in
    subst (λ (X : Type 0). X) (λ i. IsNew (ids i) (spent i) (sym c.insert.ensures.spent i) c.insert.result)
    (is_new s t placed c.len-end.result c.args.cell c.insert.result gap c.insert.ensures.free c.insert.ensures.held c.insert.ensures.unspent c.insert.ensures.lesser)

pub returns-in_err-make_room-clause-full : goal.returns-in_err-make_room-clause-full
returns-in_err-make_room-clause-full g c =
    let s = c.self.inside.placed in
    let p = err_from_is_err_and c.from_residual.result c.from_residual.ensures.1 in
    let there : c.make_room.result ≡ Err p.0 = cc (p.2, c.in_err-make_room.was) in
    let none : retired_of g.row.LAST s.spent ≡ 0 = none_retired g.row.LAST s.spent c.self.invariant.unspent in
    let count : length s.dots ≡ map.len c.args.self.now.live = sym (len_live s.dots s.held s.spent c.self.invariant.placed) ∙ ap (λ (x : LiveState). map.len x.live) c.self.view_is in (
      λ h.
          let full : c.make_room.result ≡ Err Full = cc (h, p.1, there) in
          let more = c.make_room.ensures.full.0 full in
          omega (arith, none, count, more),
      λ h.
          let full = c.make_room.ensures.full.1 (omega (arith, none, count, h)) in
          cc (full, p.1, there),
    )

pub returns-in_err-make_room-clause-had_room : goal.returns-in_err-make_room-clause-had_room
returns-in_err-make_room-clause-had_room g c h =
    let s = c.self.inside.placed in
    let count : length s.dots ≡ map.len c.args.self.now.live = sym (len_live s.dots s.held s.spent c.self.invariant.placed) ∙ ap (λ (x : LiveState). map.len x.live) c.self.view_is in
    let room : min s.room (vec_capacity c.self.inside.members) ≡ c.args.self.now.room = ap (λ (x : LiveState). x.room) c.self.view_is in
    let ok : is_ok c.make_room.result ≡ true = c.make_room.ensures.had_room (omega (arith, h, count, room)) (omega (arith, h, count, room)) in
    let no = sym (ap is_ok c.in_err-make_room.was) ∙ ok in
    absurd (cc)

pub returns-clause-full : goal.returns-clause-full
returns-clause-full g c =
    let s = c.self.inside.placed in
    let none : retired_of g.row.LAST s.spent ≡ 0 = none_retired g.row.LAST s.spent c.self.invariant.unspent in
    let count : length s.dots ≡ map.len c.args.self.now.live = sym (len_live s.dots s.held s.spent c.self.invariant.placed) ∙ ap (λ (x : LiveState). map.len x.live) c.self.view_is in
    (λ h. absurd (cc), λ h. let full = sym c.in_ok-make_room.was ∙ c.make_room.ensures.full.1 (omega (arith, none, count, h)) in absurd (cc))
