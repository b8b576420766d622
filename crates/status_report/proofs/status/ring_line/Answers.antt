use Rattle.std.proofs.Common.{◌∙◌, ◌++◌, codes, decimal, ap, sym, arith, if◌then◌else◌}
use Rattle.std.proofs.lemmas.Fmt.{decimal_digit}
use Rattle.ami_text.specs.WrittenLines.{field}
use Rattle.status_report.specs.Status.{end}
use Rattle.status_report.proofs.status.ring_line.Goals as goal

pub returns-then-ring : goal.returns-then-ring
returns-then-ring c = ap (λ digits. codes "\r\n" ++ (field (codes "RingInUse") digits ++ end))
    (sym (decimal_digit 1 (omega arith)) ∙ ap (λ ring. decimal (if ring then 1 else 0)) (sym c.if-ring.true))

pub returns-else-ring : goal.returns-else-ring
returns-else-ring c = ap (λ digits. codes "\r\n" ++ (field (codes "RingInUse") digits ++ end))
    (sym (decimal_digit 0 (omega arith)) ∙ ap (λ ring. decimal (if ring then 1 else 0)) (sym c.if-ring.false))
