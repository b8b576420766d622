use Rattle.std.proofs.Common.{arith}
use Rattle.store_audit.proofs.Comments.{sites_comment}
use Rattle.store_audit.proofs.heading.push_sites.Goals as goal

-- the line is a comment
pub returns-clause-comment : goal.returns-clause-comment
returns-clause-comment c = sites_comment c.args.sites (let h = c.ranges.sites in omega (arith, h))
