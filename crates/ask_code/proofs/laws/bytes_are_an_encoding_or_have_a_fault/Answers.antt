use Rattle.ask_code.proofs.AskLaws.{not_both, one_fault}
use Rattle.ask_code.proofs.TotalAsks.{either}
use Rattle.ask_code.proofs.laws.bytes_are_an_encoding_or_have_a_fault.Goals as goal

pub returns : goal.returns
returns c = record { either = either; not_both = λ bytes is faulty. not_both is.ask bytes faulty.fault is.good is.is faulty.has; one = one_fault }
