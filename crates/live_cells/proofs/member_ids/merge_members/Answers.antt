use Rattle.std.proofs.Common.{◌≡◌, ◌≤◌, ◌+◌, ◌-◌, true, length, get_or, set, sym, ap, subst, ◌∙◌, arith}
use Rattle.std.specs.Ordering.{is_lt}
use Rattle.std.proofs.lemmas.List.{length-append}
use Rattle.op_arena.specs.Ids.{Id}
use Rattle.live_cells.specs.PlacedStates.{id_order}
use Rattle.live_cells.proofs.Merging.{Merging, merged_all, merged_none, merged_rises, other_step, own_step, read_twice}
use Rattle.live_cells.proofs.MovedIndex.{ids_ordered}
use Rattle.live_cells.proofs.member_ids.merge_members.Goals.{else-kept-gt0-via-then-kept-gt0+else-is_lt, else-kept-gt0-via-else-kept-gt0}
use Rattle.live_cells.proofs.member_ids.merge_members.Goals as goal

pub loop-left-init : goal.loop-left-init
loop-left-init g c =
    let own = c.args.own.now.items in
    let others = c.args.others.now in
    let now = c.append_slice.new.self.items in
    let long : length now ≡ length own + length others = ap length c.append_slice.ensures.items ∙ length-append own others in
    let kept : length own ≡ c.len-end.result - length others = omega (arith, long, c.len-end.ensures.value) in
    record {
      merging = subst (λ n. Merging (id_order c.args.cells.now.held) own others n (length others) now) kept (merged_none (id_order c.args.cells.now.held) (ids_ordered c.args.cells.now.held) own others now c.append_slice.ensures.items);
      order = omega (arith, long, c.len-end.ensures.value);
      room = c.append_slice.ensures.room;
    }

pub loop-left-preserved-then-is_lt : goal.loop-left-preserved-then-is_lt
loop-left-preserved-then-is_lt g c =
    let cmp = id_order c.args.cells.now.held in
    let own = c.args.own.now.items in
    let others = c.args.others.now in
    let now = c.loop-left.own.items in
    let end = c.loop-left.end in
    let left = c.loop-left.left in
    let kept = end - left in
    let order = c.loop-left.invariant.order in
    let y = c.index-others-left.result in
    let read = c.index-as_slice-kept.result in
    let x = c.index-as_slice-kept-then-is_lt.result in
    let read_is = subst (λ xs. read ≡ get_or xs (kept - 1) read) c.as_slice.ensures c.index-as_slice-kept.is in
    let x_is = subst (λ xs. x ≡ get_or xs (kept - 1) x) c.as_slice-then-is_lt.ensures c.index-as_slice-kept-then-is_lt.is in
    let test : is_lt (cmp y read) ≡ true = ap is_lt (sym c.order_of.ensures) ∙ sym c.is_lt.ensures ∙ c.if-is_lt.true in
    let before : kept - 1 ≡ end - 1 - left = omega arith in
    let place : kept + left - 1 ≡ end - 1 = omega arith in
    record {
      merging = subst (λ (X : Type 0). X) (λ k. Merging cmp own others (before k) left ((ap (λ n. set now n x) place ∙ sym c.set.ensures.items) k))
          (own_step cmp (ids_ordered c.args.cells.now.held) own others now kept left x y c.loop-left.invariant.merging c.index-others-left.is c.requires.own c.if-kept-gt0.true c.loop-left-test.true x_is
          (ap (λ (q : Id). is_lt (cmp y q)) (read_twice now (kept - 1) x read (omega arith) x_is read_is) ∙ test));
      room = subst (λ n. c.args.own.now.room ≤ n) (sym c.set.ensures.room) c.loop-left.invariant.room;
      order = omega arith;
    }

pub loop-left-preserved : goal.loop-left-preserved
loop-left-preserved g c =
    let cmp = id_order c.args.cells.now.held in
    let total = ids_ordered c.args.cells.now.held in
    let own = c.args.own.now.items in
    let others = c.args.others.now in
    let now = c.loop-left.own.items in
    let end = c.loop-left.end in
    let left = c.loop-left.left in
    let kept = end - left in
    let order = c.loop-left.invariant.order in
    let y = c.index-others-left-else-kept-gt0.result in
    let room = subst (λ n. c.args.own.now.room ≤ n) (sym c.set-else-kept-gt0.ensures.room) c.loop-left.invariant.room in
    let order_now : left - 1 ≤ end - 1 = omega (arith, c.loop-left-test.true, order) in
    let same : kept ≡ end - 1 - (left - 1) = omega (arith, c.loop-left-test.true, order) in
    let place : kept + left - 1 ≡ end - 1 = omega (arith, order) in
    let placed : Merging cmp own others kept (left - 1) (set now (kept + left - 1) y) → Merging cmp own others (end - 1 - (left - 1)) (left - 1) c.set-else-kept-gt0.new.self.items =
    subst (λ (X : Type 0). X) (λ k. Merging cmp own others (same k) (left - 1) ((ap (λ n. set now n y) place ∙ sym c.set-else-kept-gt0.ensures.items) k)) in
    elim c.else-kept-gt0.branch [
      | else-kept-gt0-via-then-kept-gt0+else-is_lt w ↦
          let x = w.index-as_slice-kept.result in
          record {
            merging = placed (other_step cmp total own others now kept left x y c.loop-left.invariant.merging c.index-others-left-else-kept-gt0.is c.requires.others c.requires.apart c.loop-left-test.true
                (λ h. (
                  subst (λ xs. x ≡ get_or xs (kept - 1) x) w.as_slice.ensures w.index-as_slice-kept.is,
                  ap (λ (q : Id). is_lt (cmp q x)) (read_twice others (left - 1) y w.index-others-left.result (omega arith) c.index-others-left-else-kept-gt0.is w.index-others-left.is)
                      ∙ ap is_lt (sym w.order_of.ensures) ∙ sym w.is_lt.ensures ∙ w.if-is_lt.false,
                )));
            order = order_now;
            room = room;
          }
      | else-kept-gt0-via-else-kept-gt0 w ↦ record {
        merging = placed (other_step cmp total own others now kept left y y c.loop-left.invariant.merging c.index-others-left-else-kept-gt0.is c.requires.others c.requires.apart c.loop-left-test.true (λ h. absurd (let no = w.if-kept-gt0.false in omega arith)));
        order = order_now;
        room = room;
      }
    ]

pub returns-clause-same : goal.returns-clause-same
returns-clause-same g c =
    let none : c.loop-left.left ≡ 0 = omega arith in
    merged_all (id_order c.args.cells.now.held) (ids_ordered c.args.cells.now.held) c.args.own.now.items c.args.others.now c.loop-left.own.items (c.loop-left.end - c.loop-left.left) c.loop-left.left none c.loop-left.invariant.merging

pub returns-clause-rises : goal.returns-clause-rises
returns-clause-rises g c =
    let none : c.loop-left.left ≡ 0 = omega arith in
    merged_rises (id_order c.args.cells.now.held) (ids_ordered c.args.cells.now.held) c.args.own.now.items c.args.others.now c.loop-left.own.items (c.loop-left.end - c.loop-left.left) c.loop-left.left none c.requires.own c.loop-left.invariant.merging
