use Rattle.std.proofs.Common.{◌≡◌, ◌+◌, ◌-◌, refl, sym, ap, ◌∙◌, subst, arith, slice_get}
use Rattle.std.specs.Prelude.{IsSome}
use Rattle.std.proofs.lemmas.Option.{slice_get_within}
use Rattle.op_arena.specs.Slots.{slot, value_of}
use Rattle.op_arena.specs.declared.slot.Slot.{Slot}
use Rattle.op_arena.specs.declared.slot.State.TheVariants.{Held}
use Rattle.op_arena.proofs.ArenaSteps.{held_at, same_slot, overwrites}
use Rattle.op_arena.proofs.arena.Arena.value_mut.Goals as goal

pub get_mut-requires : goal.get_mut-requires
get_mut-requires g c =
    let ss = c.self.inside.slots.items in let id = c.args.id in let found = held_at ss id (rw (← c.self.view_is) at c.requires) in
    omega (arith, c.index.ensures.value, slice_get_within ss id.index (slot id.generation (Held found.0)) found.1)

pub value_mut-requires : goal.value_mut-requires
value_mut-requires g c =
    let ss = c.self.inside.slots.items in let id = c.args.id in let found = held_at ss id (rw (← c.self.view_is) at c.requires) in
    let is : c.get_mut.result.now ≡ slot id.generation (Held found.0) = same_slot c.get_mut.result.now (slot id.generation (Held found.0)) (sym c.get_mut.ensures.value ∙ ap (slice_get ss) c.index.ensures.value ∙ found.1) in
    subst (λ (s : Slot g.row.T.Denot). IsSome (value_of s.state)) (sym is) refl

pub invariant_of-self-lent : goal.invariant_of-self-lent
invariant_of-self-lent g c w =
    let a = c.self.inside in let ss = a.slots.items in let id = c.args.id in let found = held_at ss id (rw (← c.self.view_is) at c.requires) in
    (overwrites g.row.LAST a.slots.capacity a.held a.retired c.index.result ss a.free id found.0 c.get_mut.result.now c.self.invariant c.index.ensures.value found.1 c.get_mut.ensures.value w).0

pub returns : goal.returns
returns g c =
    let a = c.self.inside in let ss = a.slots.items in let id = c.args.id in let found = held_at ss id (rw (← c.self.view_is) at c.requires) in let old = c.get_mut.result.now in
    let is : old ≡ slot id.generation (Held found.0) = same_slot old (slot id.generation (Held found.0)) (sym c.get_mut.ensures.value ∙ ap (slice_get ss) c.index.ensures.value ∙ found.1) in
    let done = λ (w : g.row.T.Denot). (overwrites g.row.LAST a.slots.capacity a.held a.retired c.index.result ss a.free id found.0 old c.self.invariant c.index.ensures.value found.1 c.get_mut.ensures.value w).1 in
    rw (← c.self.view_is) (
      (refl, λ w k. record { held = (done w).0 k; spent = (done w).1 k; spare = a.slots.capacity - (a.held + a.retired) }),
      record { writes_back = tt; value = found.2 ∙ sym (ap (λ (s : Slot g.row.T.Denot). value_of s.state) is) ∙ c.value_mut.ensures.value },
    )
