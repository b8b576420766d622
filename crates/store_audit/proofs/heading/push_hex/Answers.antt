use Rattle.std.proofs.Common.{arith}
use Rattle.store_audit.proofs.Comments.{hex_clean}
use Rattle.store_audit.proofs.heading.push_hex.Goals as goal

-- digits end no line
pub returns-clause-clean : goal.returns-clause-clean
returns-clause-clean c = hex_clean c.args.bytes.now (λ i. let h = c.type_inv.bytes i in omega (arith, h))
