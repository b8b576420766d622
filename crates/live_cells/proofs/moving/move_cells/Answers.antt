use Rattle.std.proofs.Common.{◌≡◌, ◌≢◌, ◌<◌, [], ◌∷◌, ◌++◌, length, get_or, get_or-set_other, rules, take, vec_len, Some, sym, ap, subst, ◌∙◌, arith}
use Rattle.std.specs.FinMap as map
use Rattle.std.specs.FinSet as sets
use Rattle.std.specs.Ordering.{eq_by_cmp}
use Rattle.std.proofs.Math.ListN.{length-set}
use Rattle.std.proofs.lemmas.List.{get_or_default, take_more, take_more_set}
use Rattle.std.proofs.lemmas.Map.Keys.{apart_from_distinct}
use Rattle.op_arena.specs.Ids.{id_cmp, id_of}
use Rattle.op_arena.proofs.IdOrder.{ids_exact, ids_total}
use Rattle.live_cells.specs.declared.placed.Placed.{Placed}
use Rattle.live_cells.specs.Moves.{AreMoved}
use Rattle.live_cells.proofs.CellMoves.{moved_more}
use Rattle.live_cells.proofs.MapSteps.{apart_by, gone_other}
use Rattle.live_cells.proofs.moving.move_cells.Goals as goal

pub loop-place-preserved : goal.loop-place-preserved
loop-place-preserved g c =
    let ids = c.args.ids.now.items in
    let there = c.args.others.now.held in
    let i = c.loop-place.place in
    let v = c.loop-place.invariant in
    let was = c.index.result.now in
    let cell = c.unwrap-cell.result in
    let id = c.place-id.result in
    let here : Placed = record { dot = cell.dot; id = id } in
    let len : vec_len c.args.ids.now ≡ length ids = search rules in
    let within : i < length ids = omega (arith, len, c.len-place-end.ensures, c.loop-place-test.true) in
    let many = v.dots in
    let longs = v.ids in
    let was_is : was ≡ get_or ids i was = c.index.ensures ∙ v.behind i was (omega arith) in
    let held : map.get there was ≡ Some cell =
    ap (map.get there) was_is ∙ sym (v.left i was (omega arith) within) ∙ ap (map.get c.loop-place.others.held) (sym was_is) ∙ sym c.take.ensures.value ∙ c.unwrap-cell.ensures in
    let moved = moved_more c.args.cells.now.held c.args.cells.now.spent there (take i ids) c.loop-place.cells.held (take i c.loop-place.dots.items) (take i c.loop-place.ids.items) v.moved was id cell held c.place-id.ensures.was_not_held
    (ap (λ s. sets.contains s id) (sym v.spent) ∙ c.place-id.ensures.was_not_spent) (λ n h. ap (λ s. sets.contains s (id_of id.index n)) (sym v.spent) ∙ c.place-id.ensures.lesser_spent n h) in
    record {
      within = omega arith;
      dots = length-set c.loop-place.dots.items i here ∙ v.dots;
      ids = length-set c.loop-place.ids.items i id ∙ v.ids;
      moved = subst (λ (X : Type 0). X) (λ k. AreMoved c.args.cells.now.held c.args.cells.now.spent there (sym (take_more ids i was within ∙ ap (λ x. take i ids ++ x ∷ []) (sym was_is)) k) (sym c.place-id.ensures.held k)
          (sym (take_more_set c.loop-place.dots.items i here (omega arith)) k) (sym (take_more_set c.loop-place.ids.items i id (omega arith)) k)) moved;
      spent = c.place-id.ensures.spent ∙ v.spent;
      spare = let s = v.spare in let p = c.place-id.ensures.spare in omega arith;
      behind = λ k d lo. let ne : k ≢ i = omega arith in rw get_or-set_other (v.behind k d (omega arith));
      left = λ k d lo hi.
          let other : get_or ids k d ≢ was = λ same. apart_by id_cmp ids_total ids_exact (get_or ids i d) (get_or ids k d) (apart_from_distinct (eq_by_cmp id_cmp) ids i k d c.requires.apart (omega arith) hi)
          (get_or_default ids i d was within ∙ sym was_is ∙ sym same) in
          ap (λ m. map.get m (get_or ids k d)) c.take.ensures.held ∙ gone_other id_cmp ids_total ids_exact c.loop-place.others.held was (get_or ids k d) other ∙ v.left k d (omega arith) hi;
    }
