use Rattle.script_lines.proofs.Cutting.{behind_found}
use Rattle.script_lines.proofs.line.behind.Goals as goal

pub returns : goal.returns
returns c = behind_found (λ x. x.now) c.strip_prefix.result c.args.front.now c.args.bytes.now c.strip_prefix.ensures.cases
