use Rattle.std.proofs.Common.{◌≡◌, true, false, take, ap, sym, subst, ◌∙◌, arith}
use Rattle.std.specs.Ordering.{eq_by_cmp}
use Rattle.std.proofs.lemmas.List.{take_all}
use Rattle.std.proofs.lemmas.List.Elements.{All-more, All-same, All-weaker}
use Rattle.std.proofs.lemmas.List.Folds.{list_any_none}
use Rattle.dots.specs.Values.{Dot}
use Rattle.dots.specs.Orders.{dot_cmp}
use Rattle.live_cells.proofs.Pieces.{agrees, differs}
use Rattle.member_orset.specs.Gathering.{LiesPast, is_given}
use Rattle.member_orset.proofs.SeenDots.{not_this}
use Rattle.member_orset.proofs.given_dots.GivenDots.piece.Goals as goal

pub loop-dot-preserved-then-ne : goal.loop-dot-preserved-then-ne
loop-dot-preserved-then-ne c =
    let from = c.args.from in
    let end = c.loop-dot.end in
    let x = c.dot-item.result in
    let other = differs _ _ (sym c.ne.ensures ∙ c.if-ne.true) in
    let site = c.site.ensures.value in
    let site2 = c.site-in-loop-dot.ensures.value in
    record {
      some = c.loop-dot.invariant.some;
      within = c.loop-dot.invariant.within;
      none = All-more (LiesPast from end) c.next-those.result.now c.loop-dot.dot-index x c.loop-dot-test.true c.loop-dot.invariant.none (subst (LiesPast from end) c.dot-item.is (λ s h. absurd (other (site ∙ s ∙ sym site2))));
    }

pub loop-dot-preserved-then-count : goal.loop-dot-preserved-then-count
loop-dot-preserved-then-count c =
    let from = c.args.from in
    let end = c.loop-dot.end in
    let x = c.dot-item.result in
    let count = c.count.ensures.value in
    let count2 = c.count-in-loop-dot.ensures.value in
    record {
      some = c.loop-dot.invariant.some;
      within = c.loop-dot.invariant.within;
      none = All-more (LiesPast from end) c.next-those.result.now c.loop-dot.dot-index x c.loop-dot-test.true c.loop-dot.invariant.none (subst (LiesPast from end) c.dot-item.is (λ s h. absurd (omega arith)));
    }

pub loop-dot-preserved : goal.loop-dot-preserved
loop-dot-preserved c =
    let from = c.args.from in
    let end = c.min-end.result in
    let x = c.dot-item.result in
    let count = c.count.ensures.value in
    let count2 = c.count-in-loop-dot.ensures.value in
    let count3 = c.count-in-loop-dot-2.ensures.value in
    let count4 = c.count-in-loop-dot-3.ensures.value in
    let count5 = c.count-in-loop-dot-4.ensures.value in
    let limit = c.count-in-loop-dot-4.ensures.limit in
    record {
      some = omega arith;
      within = omega arith;
      none = All-more (LiesPast from end) c.next-those.result.now c.loop-dot.dot-index x c.loop-dot-test.true
          (All-weaker (LiesPast from c.loop-dot.end) (LiesPast from end) (λ d p s h. let q = p s h in omega arith) (take c.loop-dot.dot-index c.next-those.result.now) c.loop-dot.invariant.none)
          (subst (LiesPast from end) c.dot-item.is (λ s h. omega arith));
    }

-- one that is the dot itself
pub returns-then-count-2 : goal.returns-then-count-2
returns-then-count-2 c =
    let from = c.args.from in
    let list = c.args.self.list.now in
    let x = c.dot-item.result in
    let count = c.count-in-loop-dot-2.ensures.value in
    let count2 = c.count-in-loop-dot-3.ensures.value in
    let last = c.count-then-count-2.ensures.value in
    let order = c.requires in
    let same : x.site ≡ from.site = sym c.site.ensures.value ∙ agrees _ _ (sym c.ne.ensures ∙ c.if-ne.false) ∙ c.site-in-loop-dot.ensures.value in
    let here = ap (is_given list) c.dot-item.is ∙ c.next-those.ensures.given c.loop-dot.dot-index x c.loop-dot-test.true in
    record {
      some = λ h. omega arith;
      within = omega arith;
      same = λ n lo hi. let e : x.count ≡ n = omega arith in subst (λ (q : Dot). is_given list q ≡ true) (λ k. record { site = same k; count = e k }) here;
    }

pub returns : goal.returns
returns c =
    let from = c.args.from in
    let end = c.loop-dot.end in
    let given = c.args.self.list.now in
    let those = c.next-those.result.now in
    let all = c.next-those.ensures.past end (All-same (LiesPast from end) those (take c.loop-dot.dot-index those) (sym (take_all c.loop-dot.dot-index those c.loop-dot-test.false)) c.loop-dot.invariant.none) in
    record {
      some = λ h. c.loop-dot.invariant.some;
      within = c.loop-dot.invariant.within;
      same = λ n lo hi. let at : Dot = record { site = from.site; count = n } in
          list_any_none (eq_by_cmp dot_cmp at) given
          (All-weaker (LiesPast from end) (λ d. eq_by_cmp dot_cmp at d ≡ false) (λ d p. not_this from.site n d (λ s k. let q = p s (omega arith) in omega arith)) given all);
    }
