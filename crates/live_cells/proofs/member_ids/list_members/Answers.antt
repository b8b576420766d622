use Rattle.std.proofs.Common.{◌≡◌, ap, arith, subst, ◌∙◌}
use Rattle.std.specs.List.Sorted.{IsPermutation}
use Rattle.std.proofs.lemmas.List.{take_all}
use Rattle.live_cells.specs.PlacedStates.{ids_of}
use Rattle.live_cells.proofs.IndexLists.{indexed_by, rises_sorted}
use Rattle.live_cells.proofs.member_ids.list_members.Goals as goal

pub returns-clause-indexed : goal.returns-clause-indexed
returns-clause-indexed g c =
    let s = c.args.cells.now in
    let ids = c.sort_members.new.members.items in
    let all : c.loop-placed.members.items ≡ ids_of s.dots =
    c.loop-placed.invariant.items ∙ ap ids_of (take_all c.loop-placed.placed-index c.placed.result.list.now (omega (arith, c.loop-placed-test.false)) ∙ c.placed.ensures.value) in
    let same = subst (λ xs. IsPermutation xs ids) all c.sort_members.ensures.same in
    indexed_by s ids c.placed.ensures.valid same (rises_sorted s ids c.placed.ensures.valid same c.sort_members.ensures.sorted)
