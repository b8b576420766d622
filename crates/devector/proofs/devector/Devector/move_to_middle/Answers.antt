use Rattle.std.proofs.Common.{arith}
use Rattle.devector.proofs.Ends.{count_seen}
use Rattle.devector.proofs.devector.Devector.move_to_middle.Goals as goal

pub overflow_sub-first : goal.overflow_sub-first
overflow_sub-first g c = omega (arith, count_seen c.self.inside.items.items c.self.inside.first c.self.view_is)

pub overflow_add-first : goal.overflow_add-first
overflow_add-first g c = omega (arith, count_seen c.self.inside.items.items c.self.inside.first c.self.view_is)

pub max-end-requires : goal.max-end-requires
max-end-requires g c = omega (arith, count_seen c.self.inside.items.items c.self.inside.first c.self.view_is)

pub overflow_add-self-inside : goal.overflow_add-self-inside
overflow_add-self-inside g c = omega (arith, count_seen c.self.inside.items.items c.self.inside.first c.self.view_is)

pub copy_within-requires-clause-start_le_end : goal.copy_within-requires-clause-start_le_end
copy_within-requires-clause-start_le_end g c = omega (arith, count_seen c.self.inside.items.items c.self.inside.first c.self.view_is)

pub overflow_add-first-2 : goal.overflow_add-first-2
overflow_add-first-2 g c = omega (arith, count_seen c.self.inside.items.items c.self.inside.first c.self.view_is)
