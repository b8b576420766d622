use Rattle.std.proofs.Common.{◌+◌, ◌*◌, ◌≤◌, sym, ◌∙◌, subst}
use Rattle.std.specs.FinSet as set
use Rattle.op_arena.specs.Slots.{spent_in}
use Rattle.op_arena.proofs.Views.{len_retired, len_worn}
use Rattle.op_arena.proofs.arena.Arena.retired.Goals as goal

pub returns-clause-value : goal.returns-clause-value
returns-clause-value g c = rw (← c.self.view_is) (c.self.invariant.counts_retired ∙ sym (len_retired g.row.LAST c.self.inside.slots.items c.self.invariant.keeps))

pub returns-clause-worn : goal.returns-clause-worn
returns-clause-worn g c =
    let slots = c.self.inside.slots.items in
    rw (← c.self.view_is) (subst (λ n. n * (g.row.LAST + 1) ≤ set.len (spent_in slots)) (sym c.self.invariant.counts_retired) (len_worn g.row.LAST slots c.self.invariant.keeps))
