use Rattle.std.proofs.Common.{◌≡◌, ◌∙◌, ◌++◌, Err, ap, arith, rules, sym}
use Rattle.ami_text.proofs.Taking.{given_grows}
use Rattle.link_hello.specs.Cards.{card_bytes}
use Rattle.link_hello.specs.Hellos.{opening}
use Rattle.link_hello.specs.declared.hello_fault.HelloFault.TheVariants.{Silent}
use Rattle.link_hello.proofs.Silences.{fewer, opening_then, silence_grows}
use Rattle.link_hello.proofs.hello.begin_hello.Goals as goal

pub returns-in_err-card-clause-silent : goal.returns-in_err-card-clause-silent
returns-in_err-card-clause-silent g c = λ is. silence_grows _ _ _ _ _ _ c.in_ok-theirs.ensures.read c.in_err-card.ensures.silent

pub returns-then-not-same_bytes-clause-fault : goal.returns-then-not-same_bytes-clause-fault
returns-then-not-same_bytes-clause-fault g c = (
  c.in_ok-theirs.theirs,
  c.in_ok-card.card,
  c.in_ok-card.code,
  c.in_ok-theirs.ensures.length,
  c.in_ok-card.ensures.lengths.0,
  c.in_ok-card.ensures.lengths.1,
  given_grows _ _ _ (opening c.in_ok-theirs.theirs) (card_bytes c.in_ok-card.card ++ c.in_ok-card.code) c.in_ok-theirs.ensures.read c.in_ok-card.ensures.read,
  λ same. let both = c.same_bytes.ensures.1 (same ∙ sym c.code_of_acceptor.ensures) in let other = c.if-not-same_bytes.true in cc (both, other),
)

pub returns-in_err-theirs-clause-few : goal.returns-in_err-theirs-clause-few
returns-in_err-theirs-clause-few g c = λ is.
    let same : c.from_residual-in_err-theirs.result ≡ Err c.in_err-theirs.field-0.0 = search rules in
    let silent : c.in_err-theirs.field-0.0 ≡ Silent = cc (same, is) in
    fewer _ _ 36 141 (c.in_err-theirs.ensures.few (ap Err silent)) (omega arith)

pub returns-in_err-card-clause-few : goal.returns-in_err-card-clause-few
returns-in_err-card-clause-few g c = λ is.
    opening_then _ _ _ c.in_ok-theirs.theirs 104 141 c.in_ok-theirs.ensures.read c.in_ok-theirs.ensures.length c.in_err-card.ensures.few (omega arith)
