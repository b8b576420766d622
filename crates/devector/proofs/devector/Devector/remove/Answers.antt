use Rattle.std.proofs.Common.{arith, ap, ◌≡◌, ◌≤◌, ◌<◌, drop, length}
use Rattle.devector.proofs.Ends.{count_seen, moved_up, remove_behind}
use Rattle.devector.proofs.devector.Devector.remove.Goals as goal

pub returns-then-is_near_front-clause-items : goal.returns-then-is_near_front-clause-items
returns-then-is_near_front-clause-items g c =
    let xs = c.self.inside.items.items in
    let seen : drop c.self.inside.first xs ≡ c.args.self.now.items = ap (λ d. d.items) c.self.view_is in
    let within : c.args.place < length (drop c.self.inside.first xs) = rw seen c.requires in
    rw (c.copy_within.ensures.items, ← seen) (moved_up xs c.self.inside.first c.args.place within)

pub returns-else-is_near_front-clause-items : goal.returns-else-is_near_front-clause-items
returns-else-is_near_front-clause-items g c =
    let xs = c.self.inside.items.items in
    let seen : drop c.self.inside.first xs ≡ c.args.self.now.items = ap (λ d. d.items) c.self.view_is in
    let fits : c.self.inside.first ≤ length xs = omega (arith, c.self.invariant, c.self.inside.items.ok.0) in
    rw (c.remove.ensures.items, ← seen) (remove_behind xs c.self.inside.first c.args.place fits)

pub is_near_front-requires : goal.is_near_front-requires
is_near_front-requires g c = omega (arith, count_seen c.self.inside.items.items c.self.inside.first c.self.view_is)

pub overflow_add-self-inside : goal.overflow_add-self-inside
overflow_add-self-inside g c = omega (arith, count_seen c.self.inside.items.items c.self.inside.first c.self.view_is)

pub index-item-requires : goal.index-item-requires
index-item-requires g c = omega (arith, count_seen c.self.inside.items.items c.self.inside.first c.self.view_is)

pub overflow_add-self-inside-then-is_near_front : goal.overflow_add-self-inside-then-is_near_front
overflow_add-self-inside-then-is_near_front g c = omega (arith, count_seen c.self.inside.items.items c.self.inside.first c.self.view_is)

pub overflow_add-self-inside-then-is_near_front-2 : goal.overflow_add-self-inside-then-is_near_front-2
overflow_add-self-inside-then-is_near_front-2 g c = omega (arith, count_seen c.self.inside.items.items c.self.inside.first c.self.view_is)

pub copy_within-requires-clause-start_le_end : goal.copy_within-requires-clause-start_le_end
copy_within-requires-clause-start_le_end g c = omega (arith, count_seen c.self.inside.items.items c.self.inside.first c.self.view_is)

pub copy_within-requires-clause-in_bounds : goal.copy_within-requires-clause-in_bounds
copy_within-requires-clause-in_bounds g c = omega (arith, count_seen c.self.inside.items.items c.self.inside.first c.self.view_is)

pub copy_within-requires-clause-dest_in_bounds : goal.copy_within-requires-clause-dest_in_bounds
copy_within-requires-clause-dest_in_bounds g c = omega (arith, count_seen c.self.inside.items.items c.self.inside.first c.self.view_is)

pub overflow_add-self : goal.overflow_add-self
overflow_add-self g c = omega (arith, count_seen c.self.inside.items.items c.self.inside.first c.self.view_is)

pub invariant_of-self : goal.invariant_of-self
invariant_of-self g c = omega (arith, count_seen c.self.inside.items.items c.self.inside.first c.self.view_is)

pub overflow_add-self-inside-else-is_near_front : goal.overflow_add-self-inside-else-is_near_front
overflow_add-self-inside-else-is_near_front g c = omega (arith, count_seen c.self.inside.items.items c.self.inside.first c.self.view_is)

pub remove-requires : goal.remove-requires
remove-requires g c = omega (arith, count_seen c.self.inside.items.items c.self.inside.first c.self.view_is)

pub invariant_of-self-else-is_near_front : goal.invariant_of-self-else-is_near_front
invariant_of-self-else-is_near_front g c = omega (arith, count_seen c.self.inside.items.items c.self.inside.first c.self.view_is)
