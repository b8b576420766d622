-- such a dot is among those that are left where it is among all
use Rattle.std.proofs.Common.{◌↔◌}
use Rattle.std.specs.FinMap as map
use Rattle.std.specs.List.{Any}
use Rattle.dots.specs.Values.{Dot}
use Rattle.member_orset.specs.Members.{Holding}
use Rattle.replica.specs.Taking.{HasFieldPast}
use Rattle.replica.proofs.foreign.has_stamp_past.Given as goal

abbrev pub invariant-loop-dot : goal.invariant-loop-dot
invariant-loop-dot l = Any (λ (e : Dot × Holding). HasFieldPast l.site l.last e.1.1) l._dot-iterator ↔ Any (λ (e : Dot × Holding). HasFieldPast l.site l.last e.1.1) (map.entries l.members.live)
