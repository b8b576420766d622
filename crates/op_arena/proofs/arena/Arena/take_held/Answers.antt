use Rattle.std.proofs.Common.{◌≡◌, ℕ, ◌-◌, ◌≤◌, Bool, cond, refl, sym, ap, ◌∙◌, subst, arith, slice_get, slice_set, Some}
use Rattle.std.specs.Prelude.{IsSome, nat_lt}
use Rattle.std.proofs.lemmas.Option.{slice_get_within}
use Rattle.std.proofs.lemmas.Bool.{lt-ltb, le-ltb}
use Rattle.op_arena.specs.Slots.{slot, value_of, IsArena}
use Rattle.op_arena.specs.declared.slot.Slot.{Slot}
use Rattle.op_arena.specs.declared.slot.State.TheVariants.{Held}
use Rattle.op_arena.proofs.ArenaSteps.{held_at, same_slot, takes, some_held, not_past, unspent}
use Rattle.op_arena.proofs.arena.Arena.take_held.Goals as goal

pub get_mut-slot-requires : goal.get_mut-slot-requires
get_mut-slot-requires g c =
    let a = c.self.inside in let ss = a.slots.items in let id = c.args.id in let found = held_at ss id (rw (← c.self.view_is) at c.requires) in
    omega (arith, c.index.ensures.value, slice_get_within ss id.index (slot id.generation (Held found.0)) found.1)

pub empty-value-requires : goal.empty-value-requires
empty-value-requires g c =
    let a = c.self.inside in let ss = a.slots.items in let id = c.args.id in let found = held_at ss id (rw (← c.self.view_is) at c.requires) in
    let old = c.get_mut-slot.result.now in
    let is : old ≡ slot id.generation (Held found.0) = same_slot old (slot id.generation (Held found.0)) (sym c.get_mut-slot.ensures.value ∙ ap (slice_get ss) c.index.ensures.value ∙ found.1) in
    subst (λ (s : Slot g.row.T.Denot). IsSome (value_of s.state) × (s.generation ≤ g.row.LAST)) (sym is)
    (refl, not_past g.row.LAST a.slots.capacity a.held a.retired id.index id.generation ss a.free found.0 c.self.invariant found.1)

pub overflow_sub-self : goal.overflow_sub-self
overflow_sub-self g c =
    let a = c.self.inside in let ss = a.slots.items in let id = c.args.id in let found = held_at ss id (rw (← c.self.view_is) at c.requires) in
    some_held g.row.LAST a.slots.capacity a.held a.retired id.index id.generation ss a.free found.0 c.self.invariant found.1

pub invariant_of-self : goal.invariant_of-self
invariant_of-self g c =
    let a = c.self.inside in let ss = a.slots.items in let id = c.args.id in let found = held_at ss id (rw (← c.self.view_is) at c.requires) in
    let all = takes g.row.LAST a.slots.capacity a.held a.retired c.index.result ss a.free id found.0 c.get_mut-slot.result.now c.empty-value.new.self c.self.invariant c.index.ensures.value found.1 c.get_mut-slot.ensures.value c.empty-value.ensures.emptied in
    all.retires (sym c.generation.ensures.value ∙ c.if-generation.true)

pub invariant_of-self-2 : goal.invariant_of-self-2
invariant_of-self-2 g c =
    let a = c.self.inside in let ss = a.slots.items in let id = c.args.id in let found = held_at ss id (rw (← c.self.view_is) at c.requires) in
    let all = takes g.row.LAST a.slots.capacity a.held a.retired c.index.result ss a.free id found.0 c.get_mut-slot.result.now c.empty-value.new.self c.self.invariant c.index.ensures.value found.1 c.get_mut-slot.ensures.value c.empty-value.ensures.emptied in
    subst (λ k. IsArena g.row.LAST (slice_set ss c.index.result c.empty-value.new.self) a.slots.capacity (Some k) (a.held - 1) a.retired) (sym c.index-2.ensures.value) (all.frees (λ e. c.if-generation.false (c.generation.ensures.value ∙ e)))

pub returns-then-generation-clause-value : goal.returns-then-generation-clause-value
returns-then-generation-clause-value g c =
    let a = c.self.inside in let ss = a.slots.items in let id = c.args.id in let found = held_at ss id (rw (← c.self.view_is) at c.requires) in
    let all = takes g.row.LAST a.slots.capacity a.held a.retired c.index.result ss a.free id found.0 c.get_mut-slot.result.now c.empty-value.new.self c.self.invariant c.index.ensures.value found.1 c.get_mut-slot.ensures.value c.empty-value.ensures.emptied in
    rw (← c.self.view_is) (found.2 ∙ sym (ap (λ (s : Slot g.row.T.Denot). value_of s.state) all.same) ∙ c.empty-value.ensures.value)

pub returns-then-generation-clause-held : goal.returns-then-generation-clause-held
returns-then-generation-clause-held g c =
    let a = c.self.inside in let ss = a.slots.items in let id = c.args.id in let found = held_at ss id (rw (← c.self.view_is) at c.requires) in
    let all = takes g.row.LAST a.slots.capacity a.held a.retired c.index.result ss a.free id found.0 c.get_mut-slot.result.now c.empty-value.new.self c.self.invariant c.index.ensures.value found.1 c.get_mut-slot.ensures.value c.empty-value.ensures.emptied in
    rw (← c.self.view_is) all.views.0

pub returns-then-generation-clause-spent : goal.returns-then-generation-clause-spent
returns-then-generation-clause-spent g c =
    let a = c.self.inside in let ss = a.slots.items in let id = c.args.id in let found = held_at ss id (rw (← c.self.view_is) at c.requires) in
    let all = takes g.row.LAST a.slots.capacity a.held a.retired c.index.result ss a.free id found.0 c.get_mut-slot.result.now c.empty-value.new.self c.self.invariant c.index.ensures.value found.1 c.get_mut-slot.ensures.value c.empty-value.ensures.emptied in
    rw (← c.self.view_is) all.views.1

pub returns-then-generation-clause-spare : goal.returns-then-generation-clause-spare
returns-then-generation-clause-spare g c =
    let a = c.self.inside in let ss = a.slots.items in let id = c.args.id in let found = held_at ss id (rw (← c.self.view_is) at c.requires) in
    let one : Bool → ℕ = λ b. cond b 1 0 in let last : one (nat_lt id.generation g.row.LAST) ≡ 0 = ap one (le-ltb id.generation g.row.LAST (omega (arith, c.generation.ensures.value, c.if-generation.true))) in
    let some = some_held g.row.LAST a.slots.capacity a.held a.retired id.index id.generation ss a.free found.0 c.self.invariant found.1 in
    rw (← c.self.view_is) (omega (arith, last, some, c.self.invariant.total, c.self.invariant.within))

pub returns-then-generation-clause-was_not_spent : goal.returns-then-generation-clause-was_not_spent
returns-then-generation-clause-was_not_spent g c =
    let a = c.self.inside in let ss = a.slots.items in let id = c.args.id in let found = held_at ss id (rw (← c.self.view_is) at c.requires) in
    rw (← c.self.view_is) (unspent ss id.index id.generation (Some (slot id.generation (Held found.0))) found.1 refl)

pub returns-clause-value : goal.returns-clause-value
returns-clause-value g c =
    let a = c.self.inside in let ss = a.slots.items in let id = c.args.id in let found = held_at ss id (rw (← c.self.view_is) at c.requires) in
    let all = takes g.row.LAST a.slots.capacity a.held a.retired c.index.result ss a.free id found.0 c.get_mut-slot.result.now c.empty-value.new.self c.self.invariant c.index.ensures.value found.1 c.get_mut-slot.ensures.value c.empty-value.ensures.emptied in
    rw (← c.self.view_is) (found.2 ∙ sym (ap (λ (s : Slot g.row.T.Denot). value_of s.state) all.same) ∙ c.empty-value.ensures.value)

pub returns-clause-held : goal.returns-clause-held
returns-clause-held g c =
    let a = c.self.inside in let ss = a.slots.items in let id = c.args.id in let found = held_at ss id (rw (← c.self.view_is) at c.requires) in
    let all = takes g.row.LAST a.slots.capacity a.held a.retired c.index.result ss a.free id found.0 c.get_mut-slot.result.now c.empty-value.new.self c.self.invariant c.index.ensures.value found.1 c.get_mut-slot.ensures.value c.empty-value.ensures.emptied in
    rw (← c.self.view_is) all.views.0

pub returns-clause-spent : goal.returns-clause-spent
returns-clause-spent g c =
    let a = c.self.inside in let ss = a.slots.items in let id = c.args.id in let found = held_at ss id (rw (← c.self.view_is) at c.requires) in
    let all = takes g.row.LAST a.slots.capacity a.held a.retired c.index.result ss a.free id found.0 c.get_mut-slot.result.now c.empty-value.new.self c.self.invariant c.index.ensures.value found.1 c.get_mut-slot.ensures.value c.empty-value.ensures.emptied in
    rw (← c.self.view_is) all.views.1

pub returns-clause-spare : goal.returns-clause-spare
returns-clause-spare g c =
    let a = c.self.inside in let ss = a.slots.items in let id = c.args.id in let found = held_at ss id (rw (← c.self.view_is) at c.requires) in
    let most = not_past g.row.LAST a.slots.capacity a.held a.retired id.index id.generation ss a.free found.0 c.self.invariant found.1 in
    let other : id.generation ≡ g.row.LAST → ⊥ = λ e. c.if-generation.false (c.generation.ensures.value ∙ e) in
    let one : Bool → ℕ = λ b. cond b 1 0 in let last : one (nat_lt id.generation g.row.LAST) ≡ 1 = ap one (lt-ltb id.generation g.row.LAST (omega (arith, most, other))) in
    let some = some_held g.row.LAST a.slots.capacity a.held a.retired id.index id.generation ss a.free found.0 c.self.invariant found.1 in
    rw (← c.self.view_is) (omega (arith, last, some, c.self.invariant.total, c.self.invariant.within))

pub returns-clause-was_not_spent : goal.returns-clause-was_not_spent
returns-clause-was_not_spent g c =
    let a = c.self.inside in let ss = a.slots.items in let id = c.args.id in let found = held_at ss id (rw (← c.self.view_is) at c.requires) in
    rw (← c.self.view_is) (unspent ss id.index id.generation (Some (slot id.generation (Held found.0))) found.1 refl)
