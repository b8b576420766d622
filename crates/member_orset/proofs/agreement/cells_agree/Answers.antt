use Rattle.std.proofs.Common.{Contains, List, sym, ap, subst, ◌∙◌, arith}
use Rattle.std.specs.FinMap as map
use Rattle.std.proofs.lemmas.List.Elements.{All-cons}
use Rattle.dots.specs.Values.{Dot}
use Rattle.general_lemmas.proofs.Membership.{first_in, later_in}
use Rattle.member_orset.specs.Joining.{EntriesAgree, HoldingsAgree, HoldingsInConflict}
use Rattle.member_orset.proofs.agreement.cells_agree.Goals as goal
use Rattle.live_cells.specs.Holdings.{Holding, cell_read}

pub loop-dot-init : goal.loop-dot-init
loop-dot-init c =
    let all = c.into_iter-dot-iterator.ensures.into_iter_gives ∙ c.iter-dot-items.ensures in
    record {
      here = c.cursor-here.ensures;
      agree = λ a. subst (EntriesAgree c.args.cells.now.live) all a;
      among = λ e h. subst (λ (es : List (Dot × Holding)). Contains es e) all h;
    }

pub loop-dot-preserved : goal.loop-dot-preserved
loop-dot-preserved c =
    let live = c.args.cells.now.live in
    let x : Dot × Holding = (c.in-Some.dot, cell_read c.in-Some.cell) in
    let rest = c.next.new.self in
    let steps = c.in-Some.ensures.steps in
    let held = c.get.ensures.value ∙ ap (λ m. map.get m c.in-Some.dot) c.loop-dot.invariant.here in
    record {
      here = c.get.ensures.same ∙ c.loop-dot.invariant.here;
      agree = λ a. c.loop-dot.invariant.agree (subst (EntriesAgree live) (sym steps) (All-cons (λ (e : Dot × Holding). HoldingsAgree (map.get live e.0) e.1) x rest (subst (λ o. HoldingsAgree o x.1) held (c.can_hold.ensures.agree.0 c.if-not-can_hold.false)) a));
      among = λ e h. c.loop-dot.invariant.among e (subst (λ (es : List (Dot × Holding)). Contains es e) (sym steps) (later_in x rest e h));
    }

pub returns-then-not-can_hold : goal.returns-then-not-can_hold
returns-then-not-can_hold c =
    let x : Dot × Holding = (c.in-Some.dot, cell_read c.in-Some.cell) in
    record {
      entry = x;
      here = c.loop-dot.invariant.among x (subst (λ (es : List (Dot × Holding)). Contains es x) (sym c.in-Some.ensures.steps) (first_in x c.next.new.self));
      conflict = subst (λ o. HoldingsInConflict o x.1) (c.get.ensures.value ∙ ap (λ m. map.get m c.in-Some.dot) c.loop-dot.invariant.here) (c.can_hold.ensures.conflict.0 c.if-not-can_hold.true);
    }

pub returns : goal.returns
returns c = c.loop-dot.invariant.agree (subst (EntriesAgree c.args.cells.now.live) (sym c.in-None.ensures.steps.0) (λ k d l. absurd (omega arith)))
