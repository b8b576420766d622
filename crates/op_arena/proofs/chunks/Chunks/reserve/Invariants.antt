use Rattle.std.proofs.Common.{◌≡◌, ◌≤◌, ◌^◌, ◌-◌}
use Rattle.op_arena.proofs.chunks.Chunks.reserve.Given as goal

abbrev pub invariant-loop-self : goal.invariant-loop-self
invariant-loop-self g l = (l.self.items ≡ l.fn.self.items) × (l.fn.self.capacity ≤ l.self.capacity) × (l.fn.self.capacity ≤ 2 ^ 20 → l.self.capacity ≤ 2 ^ 20)

abbrev pub decreases-loop-self : goal.decreases-loop-self
decreases-loop-self g l = 2 ^ 20 - l.self.capacity
