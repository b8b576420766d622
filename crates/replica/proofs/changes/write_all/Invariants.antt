use Rattle.std.proofs.Common.{◌≡◌, ◌≤◌, take}
use Rattle.std.specs.FinMap as map
use Rattle.dots.specs.Values.{Dot}
use Rattle.replica.specs.Writing.{written_to}
use Rattle.replica.proofs.changes.write_all.Given as goal

-- the dots so far are written
abbrev pub invariant-loop-dot : goal.invariant-loop-dot
invariant-loop-dot l = record {
  known : l.builder.known ≡ l.fn.builder.known;
  live : (q : Dot) → map.get l.builder.live q ≡ written_to l.members (take l.dot-index l.dots) l.fields q;
  few : map.len l.builder.live ≤ l.dot-index;
}
