-- such a dot is among those that are left where it is among all
use Rattle.std.proofs.Common.{◌↔◌, ◌≤◌}
use Rattle.std.specs.FinMap as map
use Rattle.std.specs.List.{Any}
use Rattle.dots.specs.Values.{Dot}
use Rattle.member_orset.specs.Members.{Holding}
use Rattle.replica.proofs.foreign.has_strange_member.Given as goal

abbrev pub invariant-loop-dot : goal.invariant-loop-dot
invariant-loop-dot l = Any (λ (e : Dot × Holding). l.queues ≤ e.1.0.queue) l._dot-iterator ↔ Any (λ (e : Dot × Holding). l.queues ≤ e.1.0.queue) (map.entries l.members.live)
