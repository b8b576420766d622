use Rattle.std.proofs.Common.{arith}
use Rattle.store_audit.proofs.Comments.{numbers_clean}
use Rattle.store_audit.proofs.heading.push_numbers.Goals as goal

-- they end no line
pub returns-clause-clean : goal.returns-clause-clean
returns-clause-clean c = numbers_clean c.args.starts c.args.steps (let h = c.ranges.starts in omega (arith, h)) (let h = c.ranges.steps in omega (arith, h))
