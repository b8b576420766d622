use Rattle.std.proofs.Common.{sym, ap, ◌∙◌, arith, slice_get}
use Rattle.op_arena.proofs.ArenaSteps.{past_end, other_generation, same_generation, spent_none, copied_none}
use Rattle.op_arena.proofs.arena.Arena.get.Goals as goal

pub returns-then-index-len-clause-value : goal.returns-then-index-len-clause-value
returns-then-index-len-clause-value g c =
    rw (← c.self.view_is) (sym (past_end c.self.inside.slots.items c.args.id (omega (arith, c.len.ensures.value, c.if-index-len.true, c.index-index.ensures.value))))

pub returns-then-slot-generation-clause-value : goal.returns-then-slot-generation-clause-value
returns-then-slot-generation-clause-value g c =
    let ss = c.self.inside.slots.items in
    rw (← c.self.view_is) (sym (other_generation ss c.args.id c.get-slot.result.now (ap (slice_get ss) (sym c.index-index.ensures.value) ∙ c.get-slot.ensures) (λ e. c.if-slot-generation.true (e ∙ sym c.generation.ensures.value))))

pub returns-clause-value : goal.returns-clause-value
returns-clause-value g c =
    let ss = c.self.inside.slots.items in
    rw (← c.self.view_is) (c.value.ensures ∙ sym (same_generation ss c.args.id c.get-slot.result.now (ap (slice_get ss) (sym c.index-index.ensures.value) ∙ c.get-slot.ensures) (c.if-slot-generation.false ∙ c.generation.ensures.value)))

pub returns-clause-spent : goal.returns-clause-spent
returns-clause-spent g c spent =
    let ss = c.self.inside.slots.items in let known = rw (← c.self.view_is) at spent in
    copied_none c.value.result
    (c.value.ensures ∙ sym (same_generation ss c.args.id c.get-slot.result.now (ap (slice_get ss) (sym c.index-index.ensures.value) ∙ c.get-slot.ensures) (c.if-slot-generation.false ∙ c.generation.ensures.value)) ∙ spent_none ss c.args.id known)
