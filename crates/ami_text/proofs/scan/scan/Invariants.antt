use Rattle.std.proofs.Common.{◌-◌, length}
use Rattle.ami_text.proofs.Scanning.{Scanned}
use Rattle.ami_text.proofs.scan.scan.Given as goal

abbrev pub invariant-lines : goal.invariant-lines
invariant-lines l = Scanned l.held l.empty l.line l.lines l.looked

abbrev pub decreases-lines : goal.decreases-lines
decreases-lines l = length l.held - l.looked
