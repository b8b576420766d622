use Rattle.std.proofs.Common.{arith, length-take, length-drop, ℕ, refl}
use Rattle.ami_text.proofs.Parsing.{parse_more, parse_all}
use Rattle.ami_text.proofs.message.Message.parse.Goals as goal

pub lines-preserved : goal.lines-preserved
lines-preserved c = (
  omega (arith, length-take {A = ℕ}, length-drop {A = ℕ}, c.lines.invariant.0),
  parse_more c.args.bytes.now c.lines.rest.now _ c.in-Some.end _ _ c.lines.invariant.1 c.in-Some.ensures refl c.in_ok-push_line.ensures,
)

pub returns : goal.returns
returns c = parse_all c.args.bytes.now c.lines.rest.now _ c.lines.invariant.1 c.in_default.ensures
