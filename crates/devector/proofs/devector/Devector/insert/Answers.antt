use Rattle.std.proofs.Common.{arith, ap, ◌∙◌, ◌≡◌, ◌≤◌, drop, length}
use Rattle.devector.proofs.Ends.{count_seen, moved_down, insert_behind}
use Rattle.devector.proofs.devector.Devector.insert.Goals as goal

pub returns-then-is_near_front-clause-items : goal.returns-then-is_near_front-clause-items
returns-then-is_near_front-clause-items g c =
    let xs = c.self.inside.items.items in
    let seen : drop c.self.inside.first xs ≡ c.args.self.now.items = ap (λ d. d.items) c.self.view_is ∙ c.make_room_near.ensures.items in
    let fits : c.self.inside.first ≤ length xs = omega (arith, c.self.invariant, c.self.inside.items.ok.0) in
    let within : c.args.place ≤ length (drop c.self.inside.first xs) = rw seen c.requires.within in
    rw (c.copy_within.ensures.items, ← seen) (moved_down xs c.self.inside.first c.args.place c.args.item c.if-self-gt0.true fits within)

pub returns-else-self-gt0-clause-items : goal.returns-else-self-gt0-clause-items
returns-else-self-gt0-clause-items g c = grind (arith, insert_behind)

pub make_room_near-requires : goal.make_room_near-requires
make_room_near-requires g c = omega arith

pub is_near_front-requires : goal.is_near_front-requires
is_near_front-requires g c = omega (arith, count_seen c.self.inside.items.items c.self.inside.first c.self.view_is, ap length c.make_room_near.ensures.items)

pub overflow_add-self-inside : goal.overflow_add-self-inside
overflow_add-self-inside g c = omega (arith, count_seen c.self.inside.items.items c.self.inside.first c.self.view_is, ap length c.make_room_near.ensures.items)

pub overflow_sub-self-inside : goal.overflow_sub-self-inside
overflow_sub-self-inside g c = omega (arith, count_seen c.self.inside.items.items c.self.inside.first c.self.view_is, ap length c.make_room_near.ensures.items)

pub copy_within-requires-clause-start_le_end : goal.copy_within-requires-clause-start_le_end
copy_within-requires-clause-start_le_end g c = omega (arith, count_seen c.self.inside.items.items c.self.inside.first c.self.view_is, ap length c.make_room_near.ensures.items)

pub copy_within-requires-clause-in_bounds : goal.copy_within-requires-clause-in_bounds
copy_within-requires-clause-in_bounds g c = omega (arith, count_seen c.self.inside.items.items c.self.inside.first c.self.view_is, ap length c.make_room_near.ensures.items)

pub copy_within-requires-clause-dest_in_bounds : goal.copy_within-requires-clause-dest_in_bounds
copy_within-requires-clause-dest_in_bounds g c = omega (arith, count_seen c.self.inside.items.items c.self.inside.first c.self.view_is, ap length c.make_room_near.ensures.items)

pub overflow_sub-self : goal.overflow_sub-self
overflow_sub-self g c = omega (arith, count_seen c.self.inside.items.items c.self.inside.first c.self.view_is, ap length c.make_room_near.ensures.items)

pub overflow_add-self-inside-then-is_near_front : goal.overflow_add-self-inside-then-is_near_front
overflow_add-self-inside-then-is_near_front g c = omega (arith, count_seen c.self.inside.items.items c.self.inside.first c.self.view_is, ap length c.make_room_near.ensures.items)

pub index_mut-requires : goal.index_mut-requires
index_mut-requires g c = omega (arith, count_seen c.self.inside.items.items c.self.inside.first c.self.view_is, ap length c.make_room_near.ensures.items)

pub invariant_of-self : goal.invariant_of-self
invariant_of-self g c = omega (arith, count_seen c.self.inside.items.items c.self.inside.first c.self.view_is, ap length c.make_room_near.ensures.items)

pub overflow_add-self-inside-else-self-gt0 : goal.overflow_add-self-inside-else-self-gt0
overflow_add-self-inside-else-self-gt0 g c = omega (arith, count_seen c.self.inside.items.items c.self.inside.first c.self.view_is, ap length c.make_room_near.ensures.items)

pub insert-requires : goal.insert-requires
insert-requires g c = omega (arith, count_seen c.self.inside.items.items c.self.inside.first c.self.view_is, ap length c.make_room_near.ensures.items)
