use Rattle.std.proofs.Common.{◌≡◌, ◌-◌, arith, length, rules}
use Rattle.link_hello.proofs.Silences.{fewer, silence_grows, up_to_grows}
use Rattle.link_hello.proofs.messages.read_opening.Goals as goal

pub returns-in_err-read_exactly-2-clause-silent : goal.returns-in_err-read_exactly-2-clause-silent
returns-in_err-read_exactly-2-clause-silent g c = λ is. silence_grows _ _ _ _ _ _ c.in_ok-read_exactly.ensures.read c.in_err-read_exactly-2.ensures.silent

pub returns-in_err-read_exactly-clause-few : goal.returns-in_err-read_exactly-clause-few
returns-in_err-read_exactly-clause-few g c = λ is.
    let size : length c.read_exactly.new.piece ≡ 5 = search rules in
    fewer _ _ (length c.read_exactly.new.piece - 1) 36 c.in_err-read_exactly.ensures.few (omega arith)

pub returns-in_err-read_exactly-2-clause-few : goal.returns-in_err-read_exactly-2-clause-few
returns-in_err-read_exactly-2-clause-few g c = λ is.
    let first : length c.read_exactly.new.piece ≡ 5 = search rules in
    let size : length c.read_exactly-2.new.piece ≡ 32 = search rules in
    up_to_grows _ _ _ c.read_exactly.new.piece (length c.read_exactly-2.new.piece - 1) 36 c.in_ok-read_exactly.ensures.read c.in_err-read_exactly-2.ensures.few
    (omega arith)
