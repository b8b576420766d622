-- All are live here where those that are left are, and these are some of all.
use Rattle.std.proofs.Common.{◌≡◌, Contains, Some}
use Rattle.std.specs.List.{All}
use Rattle.std.specs.FinMap as map
use Rattle.dots.specs.Values.{Dot}
use Rattle.member_orset.proofs.sameness.has_all.Given as goal
use Rattle.live_cells.specs.Holdings.{Holding}

abbrev pub invariant-loop-dot : goal.invariant-loop-dot
invariant-loop-dot l = record {
  cursor : l.here ≡ l.cells.live;
  here : All (λ (e : Dot × Holding). map.get l.cells.live e.0 ≡ Some e.1) l.dot-iterator → All (λ (e : Dot × Holding). map.get l.cells.live e.0 ≡ Some e.1) (map.entries l.others.live);
  among : (e : Dot × Holding) → Contains l.dot-iterator e → Contains (map.entries l.others.live) e;
}
