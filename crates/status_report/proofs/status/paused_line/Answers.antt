use Rattle.std.proofs.Common.{◌∙◌, ◌++◌, codes, decimal, ap, sym, arith, if◌then◌else◌}
use Rattle.std.proofs.lemmas.Fmt.{decimal_digit}
use Rattle.ami_text.specs.WrittenLines.{field}
use Rattle.status_report.proofs.status.paused_line.Goals as goal

pub returns-then-paused : goal.returns-then-paused
returns-then-paused c = ap (λ digits. codes "\r\n" ++ (field (codes "Paused") digits ++ codes "PausedReason: "))
    (sym (decimal_digit 1 (omega arith)) ∙ ap (λ paused. decimal (if paused then 1 else 0)) (sym c.if-paused.true))

pub returns-else-paused : goal.returns-else-paused
returns-else-paused c = ap (λ digits. codes "\r\n" ++ (field (codes "Paused") digits ++ codes "PausedReason: "))
    (sym (decimal_digit 0 (omega arith)) ∙ ap (λ paused. decimal (if paused then 1 else 0)) (sym c.if-paused.false))
