use Rattle.ask_code.proofs.AskLaws.{no_prefix, one_ask, same_bytes}
use Rattle.ask_code.proofs.laws.bytes_encode_one_ask.Goals as goal

pub returns : goal.returns
returns c = record { one = same_bytes; no_prefix = no_prefix; front = one_ask }
