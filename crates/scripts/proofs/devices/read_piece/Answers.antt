use Rattle.std.proofs.Common.{arith}
use Rattle.scripts.proofs.Taking.{given_few, given_more}
use Rattle.scripts.proofs.devices.read_piece.Goals as goal

-- what is held and the prefix of the piece were given, and are too much
pub returns-then-len-count-gt-MOST_BYTES-clause-too_long : goal.returns-then-len-count-gt-MOST_BYTES-clause-too_long
returns-then-len-count-gt-MOST_BYTES-clause-too_long g c = λ _ before held.
    given_more before _ _ c.args.script.now.items c.read.new.piece c.in-Ok.count _ held c.in-Ok.ensures.bytes c.in-Ok.ensures.count
    (omega (arith, c.args.script.now.ok.0, c.len.ensures, c.if-len-count-gt-MOST_BYTES.true))

-- the held bytes and the prefix of the piece were given, and are within the limit
pub returns-in-Err-extend_from_slice-clause-few : goal.returns-in-Err-extend_from_slice-clause-few
returns-in-Err-extend_from_slice-clause-few g c = λ _ before held.
    given_few before _ _ c.args.script.now.items c.read.new.piece c.in-Ok.count _ held c.in-Ok.ensures.bytes c.in-Ok.ensures.count
    (omega (arith, c.args.script.now.ok.0, c.len.ensures, c.if-len-count-gt-MOST_BYTES.false))
