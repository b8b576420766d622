use Rattle.std.proofs.Common.{◌≡◌, ℕ, ◌+◌, ◌<◌, true, List, [], ◌∷◌, ◌++◌, length, get_or, take, Some, is_some, sym, ap, subst, ◌∙◌}
use Rattle.std.specs.FinMap as map
use Rattle.std.specs.List.{cons_option}
use Rattle.std.proofs.lemmas.List.{take_more}
use Rattle.std.proofs.lemmas.List.Elements.{All-push, filter_map-append}
use Rattle.op_arena.specs.Ids.{Id}
use Rattle.live_cells.specs.declared.live_dot.LiveDot.{LiveDot}
use Rattle.live_cells.specs.PlacedStates.{AreHeld, CellMap, cells_at}
use Rattle.live_cells.proofs.GivenItems.{some_of}
use Rattle.live_cells.proofs.member_ids.copy_members.Goals.{in-Some+in_ok-push, in_default}
use Rattle.live_cells.proofs.member_ids.copy_members.Goals as goal

-- one more id has a cell in both
one_more : (held copy : CellMap) (ids members : List Id) (i : ℕ) (id copied : Id) (cell : LiveDot) → i < length members → id ≡ get_or members i id → map.get held id ≡ Some cell → map.get copy copied ≡ Some cell
    → cells_at copy ids ≡ cells_at held (take i members) → cells_at copy (ids ++ copied ∷ []) ≡ cells_at held (take (i + 1) members)
one_more held copy ids members i id copied cell l is e f h =
    filter_map-append (λ q. map.get copy q) ids (copied ∷ []) ∙ (λ k. h k ++ cons_option ((f ∙ sym e ∙ ap (map.get held) is) k) [])
    ∙ sym (filter_map-append (λ q. map.get held q) (take i members) (get_or members i id ∷ [])) ∙ ap (cells_at held) (sym (take_more members i id l))

pub loop-id-preserved : goal.loop-id-preserved
loop-id-preserved g c =
    let held = c.args.index.cells.now.held in
    let copy = c.args.copy.now.held in
    let members = c.args.index.ids.now in
    let i = c.loop-id.id-index in
    let id = c.id-item.result in
    let there = some_of (map.get held id) (subst (λ q. is_some (map.get held q) ≡ true) (sym c.id-item.is) (c.args.index.indexed.held i id c.loop-id-test.true)) in
    elim c.match-id_in.branch [
      | in-Some+in_ok-push w ↦
          let items = ap (λ v. v.items) w.ids-is ∙ w.in_ok-push.ensures.items in
          let copied = w.in-Some.ensures there.0 there.1 in
          record {
            held = subst (AreHeld copy) (sym items) (All-push (λ q. is_some (map.get copy q) ≡ true) c.loop-id.ids.items w.in-Some.copied c.loop-id.invariant.held (ap is_some copied));
            cells = ap (cells_at copy) items ∙ one_more held copy c.loop-id.ids.items members i id w.in-Some.copied there.0 c.loop-id-test.true c.id-item.is there.1 copied c.loop-id.invariant.cells;
          }
      | in_default w ↦ absurd (w.in_default.ensures there.0 there.1)
    ]
