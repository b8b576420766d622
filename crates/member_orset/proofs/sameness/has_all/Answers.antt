use Rattle.std.proofs.Common.{◌≡◌, Contains, List, Some, sym, ap, subst, refl, ◌∙◌, arith}
use Rattle.std.specs.List.{All}
use Rattle.std.specs.FinMap as map
use Rattle.std.proofs.lemmas.List.Elements.{All-cons}
use Rattle.dots.specs.Values.{Dot}
use Rattle.general_lemmas.proofs.Membership.{first_in, later_in}
use Rattle.dots.specs.Orders.{dot_cmp}
use Rattle.dots.proofs.DotOrder.{dots_total}
use Rattle.general_lemmas.proofs.MapEntries.{entry_in, entry_is}
use Rattle.live_cells.proofs.DotTests.{one_dot}
use Rattle.member_orset.proofs.sameness.has_all.Goals as goal
use Rattle.live_cells.specs.Holdings.{Holding, cell_read}

pub loop-dot-init : goal.loop-dot-init
loop-dot-init c =
    let all = c.into_iter-dot-iterator.ensures.into_iter_gives ∙ c.iter-dot-items.ensures in
    record {
      cursor = c.cursor-here.ensures;
      here = λ a. subst (All (λ (e : Dot × Holding). map.get c.args.cells.now.live e.0 ≡ Some e.1)) all a;
      among = λ e h. subst (λ (es : List (Dot × Holding)). Contains es e) all h;
    }

pub loop-dot-preserved : goal.loop-dot-preserved
loop-dot-preserved c =
    let live = c.args.cells.now.live in
    let x : Dot × Holding = (c.in-Some.dot, cell_read c.in-Some.cell) in
    let rest = c.next.new.self in
    let steps = c.in-Some.ensures.steps in
    let held = c.get.ensures.value ∙ ap (λ m. map.get m c.in-Some.dot) c.loop-dot.invariant.cursor in
    record {
      cursor = c.get.ensures.same ∙ c.loop-dot.invariant.cursor;
      here = λ a. c.loop-dot.invariant.here (subst (All (λ (e : Dot × Holding). map.get live e.0 ≡ Some e.1)) (sym steps) (All-cons (λ (e : Dot × Holding). map.get live e.0 ≡ Some e.1) x rest (sym held ∙ c.is_held_so.ensures.0 c.if-not-is_held_so.false) a));
      among = λ e h. c.loop-dot.invariant.among e (subst (λ (es : List (Dot × Holding)). Contains es e) (sym steps) (later_in x rest e h));
    }

pub returns-then-not-is_held_so : goal.returns-then-not-is_held_so
returns-then-not-is_held_so c =
    let x : Dot × Holding = (c.in-Some.dot, cell_read c.in-Some.cell) in
    let here = c.loop-dot.invariant.among x (subst (λ (es : List (Dot × Holding)). Contains es x) (sym c.in-Some.ensures.steps) (first_in x c.next.new.self)) in
    (λ t. absurd (cc t), λ all. absurd (let t = c.is_held_so.ensures.1 (c.get.ensures.value ∙ ap (λ m. map.get m c.in-Some.dot) c.loop-dot.invariant.cursor ∙ all x.0 x.1 (entry_is dot_cmp dots_total c.args.others.now.live x here)) in cc (t, c.if-not-is_held_so.true)))

pub returns : goal.returns
returns c =
    let live = c.args.cells.now.live in
    let there = c.args.others.now.live in
    let all = c.loop-dot.invariant.here (subst (All (λ (e : Dot × Holding). map.get live e.0 ≡ Some e.1)) (sym c.in-None.ensures.steps.0) (λ k d l. absurd (omega arith))) in
    (λ t dot h g. let i = entry_in dot_cmp dots_total one_dot there dot h g in subst (λ (e : Dot × Holding). map.get live e.0 ≡ Some e.1) i.2 (all i.0 (dot, h) i.1), λ t. refl)
