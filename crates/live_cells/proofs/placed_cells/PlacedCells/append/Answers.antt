use Rattle.std.proofs.Common.{◌≡◌, ◌+◌, ◌++◌, length, lit<, min, rules, of_calls, sym, ap, subst, ◌∙◌, arith}
use Rattle.std.specs.FinMap as map
use Rattle.std.specs.List.Sorted.{IsPermutation, IsStrictlySortedBy}
use Rattle.std.proofs.lemmas.Fn.{always_returns_same}
use Rattle.std.proofs.lemmas.List.{length-append}
use Rattle.std.proofs.lemmas.List.Sorted.{length_permutation}
use Rattle.live_cells.specs.Merges.{AreUntied, placed_cmp}
use Rattle.live_cells.specs.PlacedLists.{is_placed}
use Rattle.live_cells.specs.PlacedStates.{AreIndexed, ArePlaced}
use Rattle.live_cells.proofs.LiveChanges.{members_count}
use Rattle.live_cells.proofs.MovedCells.{as_many_arrived, come_placed, fresh_untied, sorted_rise, sorted_rises}
use Rattle.live_cells.proofs.MovedIndex.{ids_differ}
use Rattle.live_cells.proofs.placed_cells.PlacedCells.append.Goals as goal

pub move_cells-requires : goal.move_cells-requires
move_cells-requires g c =
    let x = subst (λ o. AreIndexed o c.args.members.now.items) (sym c.others.view_is) c.requires.index in
    let many = members_count _ c.args.members.now.items x in
    let own = ap (λ s. s.room) c.self.view_is in
    let dots = ap (λ s. length s.dots) c.self.view_is in
    let theirs = ap (λ s. length s.dots) c.others.view_is in
    (lit< tt, (x.held, (ids_differ c.others.inside.cells.held c.args.members.now.items x.held x.index.rises, (ap length c.into_vec-dots.ensures.items ∙ sym many, omega (arith, many, own, dots, theirs, c.requires.room)))))

pub merge_dots-requires-clause-own : goal.merge_dots-requires-clause-own
merge_dots-requires-clause-own g c = sorted_rise c.self.inside.dots.items c.self.invariant.sorted

pub merge_dots-requires-clause-others : goal.merge_dots-requires-clause-others
merge_dots-requires-clause-others g c =
    let o = c.others.inside in
    let ids = c.args.members.now.items in
    let x = subst (λ o. AreIndexed o ids) (sym c.others.view_is) c.requires.index in
    subst (IsStrictlySortedBy placed_cmp) (sym c.deref.ensures.value)
    (sorted_rises o.dots.items o.cells.held o.cells.spent c.others.invariant ids x.held (ids_differ o.cells.held ids x.held x.index.rises) c.self.inside.cells.held c.self.inside.cells.spent
    c.move_cells.new.cells.held c.move_cells.new.dots.items c.move_cells.new.ids.items c.move_cells.ensures.moved c.sort_unstable_by_key.new.self.items c.sort_unstable_by_key.ensures.permutation
    (c.sort_unstable_by_key.ensures.sorted (λ p. p.dot) (always_returns_same _ _ _ (λ a r f h. search (rules, of_calls)))))

pub merge_dots-requires-clause-apart : goal.merge_dots-requires-clause-apart
merge_dots-requires-clause-apart g c =
    let o = c.others.inside in
    let ids = c.args.members.now.items in
    let x = subst (λ o. AreIndexed o ids) (sym c.others.view_is) c.requires.index in
    subst (AreUntied placed_cmp c.self.inside.dots.items) (sym c.deref.ensures.value)
    (fresh_untied o.dots.items o.cells.held o.cells.spent c.others.invariant ids x.held (ids_differ o.cells.held ids x.held x.index.rises) c.self.inside.cells.held c.self.inside.cells.spent
    c.move_cells.new.cells.held c.move_cells.new.dots.items c.move_cells.new.ids.items c.move_cells.ensures.moved c.sort_unstable_by_key.new.self.items c.sort_unstable_by_key.ensures.permutation
    (c.sort_unstable_by_key.ensures.sorted (λ p. p.dot) (always_returns_same _ _ _ (λ a r f h. search (rules, of_calls)))) c.self.inside.dots.items c.self.invariant
    (λ id cell e. ap (λ s. is_placed s.dots cell.dot) c.self.view_is ∙ c.requires.apart id cell (ap (λ s. map.get s.held id) (sym c.others.view_is) ∙ e)))

pub merge_dots-requires-clause-room : goal.merge_dots-requires-clause-room
merge_dots-requires-clause-room g c =
    let o = c.others.inside in
    let ids = c.args.members.now.items in
    let s = c.self.inside in
    let x = subst (λ o. AreIndexed o ids) (sym c.others.view_is) c.requires.index in
    let room : min s.dots.room (length s.dots.items + s.cells.spare) ≡ c.args.self.now.room = ap (λ s. s.room) c.self.view_is in
    let dots = ap (λ s. length s.dots) c.self.view_is in
    let theirs = ap (λ s. length s.dots) c.others.view_is in
    let sorted : length c.deref.result.now ≡ length c.sort_unstable_by_key.new.self.items = ap length c.deref.ensures.value in
    let many = length_permutation c.move_cells.new.dots.items c.sort_unstable_by_key.new.self.items c.sort_unstable_by_key.ensures.permutation in
    let arrived : length c.move_cells.new.dots.items ≡ length ids =
    as_many_arrived o.dots.items o.cells.held o.cells.spent c.others.invariant ids x.held (ids_differ o.cells.held ids x.held x.index.rises) s.cells.held s.cells.spent c.move_cells.new.cells.held c.move_cells.new.dots.items
    c.move_cells.new.ids.items c.move_cells.ensures.moved in
    omega (arith, room, dots, theirs, sorted, many, arrived, members_count _ ids x, c.requires.room)

pub invariant_of-self : goal.invariant_of-self
invariant_of-self g c =
    let o = c.others.inside in
    let ids = c.args.members.now.items in
    let s = c.self.inside in
    let x = subst (λ o. AreIndexed o ids) (sym c.others.view_is) c.requires.index in
    let sorted = c.sort_unstable_by_key.new.self.items in
    subst (ArePlaced c.merge_dots.new.own.items c.move_cells.new.cells.held) (sym c.move_cells.ensures.spent)
    (come_placed o.dots.items o.cells.held o.cells.spent c.others.invariant ids x.held (ids_differ o.cells.held ids x.held x.index.rises) s.cells.held s.cells.spent
    c.move_cells.new.cells.held c.move_cells.new.dots.items c.move_cells.new.ids.items c.move_cells.ensures.moved sorted c.sort_unstable_by_key.ensures.permutation
    (c.sort_unstable_by_key.ensures.sorted (λ p. p.dot) (always_returns_same _ _ _ (λ a r f h. search (rules, of_calls)))) s.dots.items c.self.invariant
    (λ id cell e. ap (λ s. is_placed s.dots cell.dot) c.self.view_is ∙ c.requires.apart id cell (ap (λ s. map.get s.held id) (sym c.others.view_is) ∙ e))
    c.merge_dots.new.own.items (subst (λ xs. IsPermutation (s.dots.items ++ xs) c.merge_dots.new.own.items) c.deref.ensures.value c.merge_dots.ensures.same) c.merge_dots.ensures.rises)

pub returns-clause-room : goal.returns-clause-room
returns-clause-room g c =
    let o = c.others.inside in
    let ids = c.args.members.now.items in
    let s = c.self.inside in
    let x = subst (λ o. AreIndexed o ids) (sym c.others.view_is) c.requires.index in
    let room : min s.dots.room (length s.dots.items + s.cells.spare) ≡ c.args.self.now.room = ap (λ s. s.room) c.self.view_is in
    let all = length_permutation (s.dots.items ++ c.deref.result.now) c.merge_dots.new.own.items c.merge_dots.ensures.same in
    let both = length-append s.dots.items c.deref.result.now in
    let sorted : length c.deref.result.now ≡ length c.sort_unstable_by_key.new.self.items = ap length c.deref.ensures.value in
    let many = length_permutation c.move_cells.new.dots.items c.sort_unstable_by_key.new.self.items c.sort_unstable_by_key.ensures.permutation in
    let arrived : length c.move_cells.new.dots.items ≡ length ids =
    as_many_arrived o.dots.items o.cells.held o.cells.spent c.others.invariant ids x.held (ids_differ o.cells.held ids x.held x.index.rises) s.cells.held s.cells.spent c.move_cells.new.cells.held c.move_cells.new.dots.items
    c.move_cells.new.ids.items c.move_cells.ensures.moved in
    omega (arith, room, all, both, sorted, many, arrived, c.move_cells.ensures.spare, c.merge_dots.ensures.room)

pub returns-clause-valid : goal.returns-clause-valid
returns-clause-valid g c = invariant_of-self g c
