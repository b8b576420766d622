use Rattle.std.proofs.Common.{◌≡◌, ◌∙◌, ◌-◌, ◌∷◌, Err, [], ap, arith, length, rules, sym}
use Rattle.ami_text.proofs.Taking.{given_grows}
use Rattle.link_hello.specs.declared.hello_fault.HelloFault.TheVariants.{Silent}
use Rattle.link_hello.proofs.Silences.{fewer, silence_grows, up_to_grows}
use Rattle.link_hello.proofs.hello.read_welcome.Goals as goal

pub returns-then-not-same_bytes-clause-fault : goal.returns-then-not-same_bytes-clause-fault
returns-then-not-same_bytes-clause-fault g c = (
  c.in_ok-verdict.verdict,
  c.read_exactly.new.piece,
  search rules,
  given_grows _ _ _ (c.in_ok-verdict.verdict ∷ []) c.read_exactly.new.piece c.in_ok-verdict.ensures.read.0 c.in_ok-read_exactly.ensures.read,
  λ same. let both = c.same_bytes.ensures.1 (same ∙ sym c.code_of_transcript.ensures) in let other = c.if-not-same_bytes.true in cc (both, other),
)

pub returns-in_err-read_exactly-clause-silent : goal.returns-in_err-read_exactly-clause-silent
returns-in_err-read_exactly-clause-silent g c = λ is. silence_grows _ _ _ _ _ _ c.in_ok-verdict.ensures.read.0 c.in_err-read_exactly.ensures.silent

pub returns-in_err-verdict-clause-few : goal.returns-in_err-verdict-clause-few
returns-in_err-verdict-clause-few g c = λ is.
    let same : c.from_residual.result ≡ Err c.in_err-verdict.field-0.0 = search rules in
    let silent : c.in_err-verdict.field-0.0 ≡ Silent = cc (same, is) in
    fewer _ _ 0 32 (c.in_err-verdict.ensures.few (ap Err silent)) (omega arith)

pub returns-in_err-read_exactly-clause-few : goal.returns-in_err-read_exactly-clause-few
returns-in_err-read_exactly-clause-few g c = λ is.
    let size : length c.read_exactly.new.piece ≡ 32 = search rules in
    up_to_grows _ _ _ (c.in_ok-verdict.verdict ∷ []) (length c.read_exactly.new.piece - 1) 32 c.in_ok-verdict.ensures.read.0 c.in_err-read_exactly.ensures.few
    (omega arith)
