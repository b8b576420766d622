use Rattle.ami_text.proofs.Digits.{digits_utf8}
use Rattle.ami_text.proofs.numbers.number_of.Goals as goal

pub returns-in-Err : goal.returns-in-Err
returns-in-Err c = λ small. absurd (c.in-Err.ensures.cases.0 (digits_utf8 c.args.digits.now c.requires.digits))
