use Rattle.std.proofs.Common.{◌≡◌, true, is_some}
use Rattle.std.specs.FinMap as map
use Rattle.std.proofs.lemmas.List.Elements.{All-rest}
use Rattle.live_cells.proofs.dots_lent.DotsIterator.next.Goals as goal

pub invariant_of-self-2 : goal.invariant_of-self-2
invariant_of-self-2 c =
    All-rest (λ id. is_some (map.get c.self.inside.cells.now.held id) ≡ true) c.in_ok-first.first.now c.in_ok-first.others.now c.self.inside.left.now c.in_ok-first.ensures.cases.0 c.self.invariant
