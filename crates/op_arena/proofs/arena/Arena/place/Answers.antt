use Rattle.std.proofs.Common.{◌≡◌, ◌+◌, ◌-◌, ◌<◌, ◌++◌, ◌∷◌, [], length, refl, sym, ap, ◌∙◌, subst, arith, slice_get, slice_set, Some, None}
use Rattle.std.specs.Prelude.{nat_eq}
use Rattle.std.specs.FinMap as map
use Rattle.std.specs.FinSet as set
use Rattle.op_arena.specs.Columns.{Column, column}
use Rattle.op_arena.specs.Ids.{id_of}
use Rattle.op_arena.specs.Slots.{slot, held_in, spent_in, IsArena}
use Rattle.op_arena.specs.declared.slot.Slot.{Slot}
use Rattle.op_arena.specs.declared.slot.State.{State}
use Rattle.op_arena.specs.declared.slot.State.TheVariants.{Free, Held}
use Rattle.op_arena.proofs.Counts.{get_end}
use Rattle.op_arena.proofs.Updates.{written, pushed}
use Rattle.op_arena.proofs.ArenaSteps.{filled, added, none_free, none_held, none_here, unspent, lesser}
use Rattle.op_arena.proofs.arena.Arena.place.Goals as goal

pub invariant_of-self : goal.invariant_of-self
invariant_of-self g c =
    let a = c.self.inside in let ss = a.slots.items in let i = c.in-Some.index in let old = c.get_mut-slot.result.now in let h = old.generation in let next = c.fill-next.result in let v = c.args.value in let e = c.new.ensures in
    let at : slice_get ss i ≡ Some (slot h (Free next)) = c.get_mut-slot.ensures.value ∙ ap (λ (s : State g.row.T.Denot). Some (slot h s)) c.fill-next.ensures.next in
    subst (λ (s : Slot g.row.T.Denot). IsArena g.row.LAST (slice_set ss i s) a.slots.capacity next (a.held + 1) a.retired) (sym c.fill-next.ensures.filled)
    (filled g.row.LAST a.slots.capacity a.held a.retired i h ss a.free next v c.self.invariant c.in-Some.is at)

pub invariant_of-self-in-None : goal.invariant_of-self-in-None
invariant_of-self-in-None g c =
    let a = c.self.inside in let ss = a.slots.items in let v = c.args.value in let e = c.new-in-None-2.ensures in
    let all : c.push.new.self ≡ column (ss ++ slot 0 (Held v) ∷ []) a.slots.capacity = c.push.ensures ∙ (λ k. column (ss ++ c.new-in-None.ensures k ∷ []) a.slots.capacity) in
    let none : IsArena g.row.LAST ss a.slots.capacity None a.held a.retired = subst (λ o. IsArena g.row.LAST ss a.slots.capacity o a.held a.retired) c.in-None.is c.self.invariant in
    let asked : 0 < a.slots.capacity - (a.held + a.retired) = rw (← c.self.view_is) at c.requires in
    subst (λ (m : Column (Slot g.row.T.Denot)). IsArena g.row.LAST m.items m.capacity a.free (a.held + 1) a.retired) (sym all)
    (subst (λ o. IsArena g.row.LAST (ss ++ slot 0 (Held v) ∷ []) a.slots.capacity o (a.held + 1) a.retired) (sym c.in-None.is)
    (added g.row.LAST a.slots.capacity a.held a.retired ss v none (omega (arith, asked, none_free g.row.LAST a.slots.capacity a.held a.retired ss none))))

pub returns-in-Some-clause-held : goal.returns-in-Some-clause-held
returns-in-Some-clause-held g c =
    let a = c.self.inside in let ss = a.slots.items in let i = c.in-Some.index in let old = c.get_mut-slot.result.now in let h = old.generation in let next = c.fill-next.result in let v = c.args.value in let e = c.new.ensures in
    let at : slice_get ss i ≡ Some (slot h (Free next)) = c.get_mut-slot.ensures.value ∙ ap (λ (s : State g.row.T.Denot). Some (slot h s)) c.fill-next.ensures.next in
    let id_is : c.new.result ≡ id_of i h = λ k. id_of (e.0 k) (e.1 k) in
    rw (← c.self.view_is) (
    ap (λ (s : Slot g.row.T.Denot). held_in (slice_set ss i s)) c.fill-next.ensures.filled ∙ (written i h ss (Free next) at v refl).0 ∙ ap (λ id. map.insert (held_in ss) id v) (sym id_is)
    )

pub returns-in-Some-clause-spent : goal.returns-in-Some-clause-spent
returns-in-Some-clause-spent g c =
    let a = c.self.inside in let ss = a.slots.items in let i = c.in-Some.index in let old = c.get_mut-slot.result.now in let h = old.generation in let next = c.fill-next.result in let v = c.args.value in let e = c.new.ensures in
    let at : slice_get ss i ≡ Some (slot h (Free next)) = c.get_mut-slot.ensures.value ∙ ap (λ (s : State g.row.T.Denot). Some (slot h s)) c.fill-next.ensures.next in
    rw (← c.self.view_is) (ap (λ (s : Slot g.row.T.Denot). spent_in (slice_set ss i s)) c.fill-next.ensures.filled ∙ (written i h ss (Free next) at v refl).1)

pub returns-in-Some-clause-was_not_held : goal.returns-in-Some-clause-was_not_held
returns-in-Some-clause-was_not_held g c =
    let a = c.self.inside in let ss = a.slots.items in let i = c.in-Some.index in let old = c.get_mut-slot.result.now in let h = old.generation in let next = c.fill-next.result in let v = c.args.value in let e = c.new.ensures in
    let at : slice_get ss i ≡ Some (slot h (Free next)) = c.get_mut-slot.ensures.value ∙ ap (λ (s : State g.row.T.Denot). Some (slot h s)) c.fill-next.ensures.next in
    let id_is : c.new.result ≡ id_of i h = λ k. id_of (e.0 k) (e.1 k) in
    rw (← c.self.view_is) (ap (map.get (held_in ss)) id_is ∙ none_held ss i h (Some (slot h (Free next))) at (none_here (nat_eq h h)))

pub returns-in-Some-clause-was_not_spent : goal.returns-in-Some-clause-was_not_spent
returns-in-Some-clause-was_not_spent g c =
    let a = c.self.inside in let ss = a.slots.items in let i = c.in-Some.index in let old = c.get_mut-slot.result.now in let h = old.generation in let next = c.fill-next.result in let v = c.args.value in let e = c.new.ensures in
    let at : slice_get ss i ≡ Some (slot h (Free next)) = c.get_mut-slot.ensures.value ∙ ap (λ (s : State g.row.T.Denot). Some (slot h s)) c.fill-next.ensures.next in
    let id_is : c.new.result ≡ id_of i h = λ k. id_of (e.0 k) (e.1 k) in
    rw (← c.self.view_is) (ap (set.contains (spent_in ss)) id_is ∙ unspent ss i h (Some (slot h (Free next))) at refl)

pub returns-in-Some-clause-lesser_spent : goal.returns-in-Some-clause-lesser_spent
returns-in-Some-clause-lesser_spent g c k lt =
    let a = c.self.inside in let ss = a.slots.items in let i = c.in-Some.index in let old = c.get_mut-slot.result.now in let h = old.generation in let next = c.fill-next.result in let v = c.args.value in let e = c.new.ensures in
    let at : slice_get ss i ≡ Some (slot h (Free next)) = c.get_mut-slot.ensures.value ∙ ap (λ (s : State g.row.T.Denot). Some (slot h s)) c.fill-next.ensures.next in
    rw (← c.self.view_is) (ap (λ j. set.contains (spent_in ss) (id_of j k)) e.0 ∙ lesser ss i h (Some (slot h (Free next))) at refl k (omega (arith, lt, e.1)))

pub returns-in-None-clause-held : goal.returns-in-None-clause-held
returns-in-None-clause-held g c =
    let a = c.self.inside in let ss = a.slots.items in let v = c.args.value in let e = c.new-in-None-2.ensures in
    let all : c.push.new.self ≡ column (ss ++ slot 0 (Held v) ∷ []) a.slots.capacity = c.push.ensures ∙ (λ k. column (ss ++ c.new-in-None.ensures k ∷ []) a.slots.capacity) in
    let id_is : c.new-in-None-2.result ≡ id_of (length ss) 0 = λ k. id_of ((e.0 ∙ c.len-index.ensures.value) k) (e.1 k) in
    rw (← c.self.view_is) (ap (λ (m : Column (Slot g.row.T.Denot)). held_in m.items) all ∙ (pushed ss v).0 ∙ ap (λ id. map.insert (held_in ss) id v) (sym id_is))

pub returns-in-None-clause-spent : goal.returns-in-None-clause-spent
returns-in-None-clause-spent g c =
    let a = c.self.inside in let ss = a.slots.items in let v = c.args.value in let e = c.new-in-None-2.ensures in
    let all : c.push.new.self ≡ column (ss ++ slot 0 (Held v) ∷ []) a.slots.capacity = c.push.ensures ∙ (λ k. column (ss ++ c.new-in-None.ensures k ∷ []) a.slots.capacity) in
    rw (← c.self.view_is) (ap (λ (m : Column (Slot g.row.T.Denot)). spent_in m.items) all ∙ (pushed ss v).1)

pub returns-in-None-clause-was_not_held : goal.returns-in-None-clause-was_not_held
returns-in-None-clause-was_not_held g c =
    let a = c.self.inside in let ss = a.slots.items in let v = c.args.value in let e = c.new-in-None-2.ensures in
    let id_is : c.new-in-None-2.result ≡ id_of (length ss) 0 = λ k. id_of ((e.0 ∙ c.len-index.ensures.value) k) (e.1 k) in
    rw (← c.self.view_is) (ap (map.get (held_in ss)) id_is ∙ none_held ss (length ss) 0 None (get_end ss) refl)

pub returns-in-None-clause-was_not_spent : goal.returns-in-None-clause-was_not_spent
returns-in-None-clause-was_not_spent g c =
    let a = c.self.inside in let ss = a.slots.items in let v = c.args.value in let e = c.new-in-None-2.ensures in
    let id_is : c.new-in-None-2.result ≡ id_of (length ss) 0 = λ k. id_of ((e.0 ∙ c.len-index.ensures.value) k) (e.1 k) in
    rw (← c.self.view_is) (ap (set.contains (spent_in ss)) id_is ∙ unspent ss (length ss) 0 None (get_end ss) refl)
