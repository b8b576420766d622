use Rattle.std.proofs.Common.{◌≡◌, true, rules, of_calls, length, sym, ap, subst}
use Rattle.std.specs.List.{AllAdjacentBelow, IsAllAdjacentAnswer}
use Rattle.std.specs.Ordering.{is_le, is_lt}
use Rattle.std.proofs.lemmas.Fn.{always_returns_same}
use Rattle.live_cells.specs.PlacedStates.{id_order}
use Rattle.live_cells.proofs.IndexLists.{ids_ranked, not_before}
use Rattle.live_cells.proofs.member_ids.sort_members.Goals as goal

pub returns-then-are_sorted-clause-sorted : goal.returns-then-are_sorted-clause-sorted
returns-then-are_sorted-clause-sorted g c k d lo l =
    let held = c.args.cells.now.held in
    let reported = c.is_sorted_by-are_sorted.ensures.cases (λ id other. is_le (id_order held id other)) (always_returns_same _ _ _ (λ a r f h. search (rules, of_calls))) in
    let all = subst (λ b. IsAllAdjacentAnswer (λ x y r. r ≡ is_le (id_order held x y)) c.deref.result.now b) c.if-are_sorted.true reported in
    let each = subst (λ ids. AllAdjacentBelow (λ x y. true ≡ is_le (id_order held x y)) ids (length ids)) c.deref.ensures.value all in
    not_before held _ _ (sym (each k d l))

pub returns-clause-sorted : goal.returns-clause-sorted
returns-clause-sorted g c =
    let held = c.args.cells.now.held in
    c.sort_unstable_by.ensures.sorted (λ id other. is_lt (id_order held id other)) (ids_ranked held)
    (always_returns_same _ _ _ (λ a r f h. let is : r ≡ id_order held a.0.now a.1.0.now = search (rules, of_calls) in (ap is_lt is, search (rules, of_calls))))
