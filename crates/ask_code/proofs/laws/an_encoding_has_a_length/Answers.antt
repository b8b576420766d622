use Rattle.ask_code.proofs.AskLengths.{ask_short}
use Rattle.ask_code.proofs.laws.an_encoding_has_a_length.Goals as goal

pub returns : goal.returns
returns c = ask_short
