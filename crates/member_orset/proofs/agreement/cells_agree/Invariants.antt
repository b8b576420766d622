-- All agree where those that are left do, and these are some of all.
use Rattle.std.proofs.Common.{◌≡◌, Contains}
use Rattle.std.specs.FinMap as map
use Rattle.dots.specs.Values.{Dot}
use Rattle.member_orset.specs.Joining.{EntriesAgree}
use Rattle.member_orset.proofs.agreement.cells_agree.Given as goal
use Rattle.live_cells.specs.Holdings.{Holding}

abbrev pub invariant-loop-dot : goal.invariant-loop-dot
invariant-loop-dot l = record {
  here : l.here ≡ l.cells.live;
  agree : EntriesAgree l.cells.live l.dot-iterator → EntriesAgree l.cells.live (map.entries l.others.live);
  among : (e : Dot × Holding) → Contains l.dot-iterator e → Contains (map.entries l.others.live) e;
}
