use Rattle.std.proofs.Common.{◌≡◌, ◌+◌, cond, is_some, refl, sym, ap, subst, ◌∙◌, arith}
use Rattle.std.specs.FinMap as maps
use Rattle.std.specs.FinSet as sets
use Rattle.live_cells.specs.LiveStates.{dead_there}
use Rattle.live_cells.proofs.FreedCells.{ChosenBefore, Freeing, freed_chosen, freed_more, freed_none, kept_chosen, kept_more, next_there}
use Rattle.live_cells.proofs.freeing.free_cells.Goals.{else-is_dead, then-is_dead}
use Rattle.live_cells.proofs.freeing.free_cells.Goals as goal

pub loop-placed-init : goal.loop-placed-init
loop-placed-init g c = record {
  freeing = freed_none c.args.dots.now c.args.cells.now.held c.args.cells.now.spent c.requires;
  there = refl;
  chosen = λ k d l. absurd (omega arith);
  spare = omega arith;
}

pub loop-placed-preserved : goal.loop-placed-preserved
loop-placed-preserved g c =
    let dots = c.args.dots.now in
    let held = c.args.cells.now.held in
    let spent = c.args.cells.now.spent in
    let a = c.requires in
    let i = c.loop-placed.placed-index in
    let after = c.loop-placed.cells.held in
    let now = c.loop-placed.cells.spent in
    let v = c.loop-placed.invariant in
    let p = c.placed-item.result in
    let test = dead_there c.args.known.now.dots c.args.there in
    let reported = ap (λ t. dead_there c.args.known.now.dots t p.dot) (sym v.there) ∙ sym c.is_dead.ensures.value in
    elim c.if-is_dead.branch [
      | then-is_dead w ↦
          let some = ap is_some w.take.ensures.value ∙ next_there dots held spent a i after now v.freeing p c.loop-placed-test.true c.placed-item.is in
          let held_is : maps.remove after p.id ≡ c.if-is_dead.cells.held = sym (ap (λ x. x.held) w.cells-is ∙ w.take.ensures.held) in
          let spent_is : sets.insert now p.id ≡ c.if-is_dead.cells.spent = sym (ap (λ x. x.spent) w.cells-is ∙ w.take.ensures.spent ∙ ap (λ b. cond b (sets.insert now p.id) now) some) in
          record {
            freeing = subst (λ (X : Type 0). X) (λ k. Freeing dots held spent (i + 1) (held_is k) (spent_is k)) (freed_more dots held spent a i after now v.freeing p c.loop-placed-test.true c.placed-item.is);
            there = c.is_dead.ensures.same ∙ v.there;
            chosen = subst (ChosenBefore test dots held (i + 1)) held_is
                (freed_chosen dots held spent a i after now v.freeing p c.loop-placed-test.true c.placed-item.is test (reported ∙ w.if-is_dead.true) v.chosen);
            spare = let more = w.take.ensures.spare in let same = ap (λ x. x.spare) w.cells-is in omega arith;
          }
      | else-is_dead w ↦
          let held_is : after ≡ c.if-is_dead.cells.held = sym (ap (λ x. x.held) w.cells-is) in
          let spent_is : now ≡ c.if-is_dead.cells.spent = sym (ap (λ x. x.spent) w.cells-is) in
          record {
            freeing = subst (λ (X : Type 0). X) (λ k. Freeing dots held spent (i + 1) (held_is k) (spent_is k)) (kept_more dots held spent a i after now v.freeing);
            there = c.is_dead.ensures.same ∙ v.there;
            chosen = subst (ChosenBefore test dots held (i + 1)) held_is
                (kept_chosen dots held spent a i after now v.freeing test p c.loop-placed-test.true c.placed-item.is (reported ∙ w.if-is_dead.false) v.chosen);
            spare = let same = ap (λ x. x.spare) w.cells-is in omega arith;
          }
    ]
