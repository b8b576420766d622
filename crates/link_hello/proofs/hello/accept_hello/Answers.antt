use Rattle.std.proofs.Common.{◌≡◌, ◌≢◌, ◌∙◌, ◌++◌, ◌∷◌, Err, List, Option, [], ap, arith, inl, inr, refl, rules, subst, sym, ℕ}
use Rattle.std.specs.Io.KnownBytes.{Consumes}
use Rattle.ami_text.proofs.Taking.{given_grows}
use Rattle.link_hello.specs.Cards.{card_bytes}
use Rattle.link_hello.specs.Hellos.{AcceptFails, answer_bytes, opening}
use Rattle.link_hello.specs.Refusals.{IsNumberOf}
use Rattle.link_hello.specs.declared.card.Card.{Card}
use Rattle.link_hello.specs.declared.hello_fault.HelloFault.TheVariants.{IsRefused, Silent}
use Rattle.link_hello.specs.declared.refusal.Refusal.{Refusal}
use Rattle.link_hello.specs.declared.refusal.Refusal.TheVariants.{Itself, NoSuchSite, OlderCopy, OtherQueues, SameNumber, SecondCopy, TakenNumber, Unknown, WrongSecret}
use Rattle.link_hello.specs.declared.transcript.Transcript.{Transcript}
use Rattle.link_hello.proofs.Offers.{cut_offer, offered, offered_then, waited}
use Rattle.link_hello.proofs.Silences.{fewer, silence_grows, up_to_grows}
use Rattle.link_hello.proofs.hello.accept_hello.Goals as goal

-- an opening, a verdict, a card and a code, one after another
answered : (first second third last : Option (List ℕ)) (nonce : List ℕ) (verdict : ℕ) (card code : List ℕ) → Consumes first second (opening nonce)
    → Consumes second third (verdict ∷ []) → Consumes third last (card ++ code) → Consumes first last (opening nonce ++ verdict ∷ (card ++ code))
answered first second third last nonce verdict card code one two three =
    given_grows first second last (opening nonce) (verdict ∷ (card ++ code)) one (given_grows second third last (verdict ∷ []) (card ++ code) two three)

-- a refusal with the right code, whose byte isn't that of a wrong secret
refused : (before after : Option (List ℕ)) (key nonce : List ℕ) (own : Card) (cause : Refusal) (t : Transcript) (verdict : ℕ) → IsNumberOf cause verdict
    → verdict ≢ 6 → t.acceptor_nonce ≡ nonce → t.acceptor ≡ own → Consumes before after (opening t.dialer_nonce ++ answer_bytes key t verdict)
    → AcceptFails before after key nonce own (IsRefused cause)
refused before after key nonce own WrongSecret t verdict number not_six nonce_is card_is came = absurd (not_six number)
refused before after key nonce own NoSuchSite t verdict number not_six nonce_is card_is came = (t, verdict, number, nonce_is, card_is, came)
refused before after key nonce own OtherQueues t verdict number not_six nonce_is card_is came = (t, verdict, number, nonce_is, card_is, came)
refused before after key nonce own Itself t verdict number not_six nonce_is card_is came = (t, verdict, number, nonce_is, card_is, came)
refused before after key nonce own SameNumber t verdict number not_six nonce_is card_is came = (t, verdict, number, nonce_is, card_is, came)
refused before after key nonce own TakenNumber t verdict number not_six nonce_is card_is came = (t, verdict, number, nonce_is, card_is, came)
refused before after key nonce own OlderCopy t verdict number not_six nonce_is card_is came = (t, verdict, number, nonce_is, card_is, came)
refused before after key nonce own SecondCopy t verdict number not_six nonce_is card_is came = (t, verdict, number, nonce_is, card_is, came)
refused before after key nonce own Unknown t verdict number not_six nonce_is card_is came = (t, verdict, number, nonce_is, card_is, came)

pub returns-then-not-same_bytes-clause-fault : goal.returns-then-not-same_bytes-clause-fault
returns-then-not-same_bytes-clause-fault g c = (
  record { dialer_nonce = c.in_ok-theirs.theirs; acceptor_nonce = c.args.nonce.now; acceptor = c.args.own.now; dialer = c.in_ok-card.card },
  c.in_ok-verdict.verdict,
  c.in_ok-card.code,
  refl,
  refl,
  c.in_ok-theirs.ensures.length,
  c.in_ok-card.ensures.lengths.0,
  c.in_ok-card.ensures.lengths.1,
  answered _ _ _ _ c.in_ok-theirs.theirs c.in_ok-verdict.verdict (card_bytes c.in_ok-card.card) c.in_ok-card.code
      c.in_ok-theirs.ensures.read c.in_ok-verdict.ensures.read.0 c.in_ok-card.ensures.read,
  λ same. let both = c.same_bytes.ensures.1 (same ∙ sym c.code_of_transcript.ensures) in let other = c.if-not-same_bytes.true in cc (both, other),
)

pub returns-in-Some-clause-fault : goal.returns-in-Some-clause-fault
returns-in-Some-clause-fault g c =
    let same = c.same_bytes.ensures.0 c.if-not-same_bytes.false ∙ c.code_of_transcript.ensures in
    let t : Transcript = record { dialer_nonce = c.in_ok-theirs.theirs; acceptor_nonce = c.args.nonce.now; acceptor = c.args.own.now; dialer = c.in_ok-card.card } in
    refused _ _ c.args.key.now c.args.nonce.now c.args.own.now c.in-Some.refusal t c.in_ok-verdict.verdict c.in-Some.ensures.refusal c.in_ok-verdict.ensures.read.1
    refl refl
    (subst (λ (code : List ℕ). Consumes (g.S.Source.left c.args.source.now) (g.S.Source.left c.read_card.new.source)
    (opening c.in_ok-theirs.theirs ++ c.in_ok-verdict.verdict ∷ (card_bytes c.in_ok-card.card ++ code))) same
    (answered _ _ _ _ c.in_ok-theirs.theirs c.in_ok-verdict.verdict (card_bytes c.in_ok-card.card) c.in_ok-card.code
    c.in_ok-theirs.ensures.read c.in_ok-verdict.ensures.read.0 c.in_ok-card.ensures.read))

pub returns-then-not-same_bytes-clause-wrote : goal.returns-then-not-same_bytes-clause-wrote
returns-then-not-same_bytes-clause-wrote g c =
    elim c.send_wrong_secret.ensures [
      | inl fails ↦ inl fails
      | inr more ↦ inr (offered_then _ _ _ _ c.args.key.now c.args.nonce.now c.in_ok-theirs.theirs c.args.own.now (6 ∷ [])
          c.in_ok-write_opening.ensures.written c.in_ok-write_offer.ensures.written more)
    ]

pub returns-in_err-verdict-clause-silent : goal.returns-in_err-verdict-clause-silent
returns-in_err-verdict-clause-silent g c = λ is.
    let same : c.from_residual-in_err-verdict.result ≡ Err c.in_err-verdict.field-0.0 = search rules in
    let silent : c.in_err-verdict.field-0.0 ≡ Silent = cc (same, is) in
    silence_grows _ _ _ _ _ _ c.in_ok-theirs.ensures.read (c.in_err-verdict.ensures.silence (ap Err silent))

pub returns-in_err-card-clause-silent : goal.returns-in_err-card-clause-silent
returns-in_err-card-clause-silent g c = λ is.
    silence_grows _ _ _ _ _ _ c.in_ok-theirs.ensures.read (silence_grows _ _ _ _ _ _ c.in_ok-verdict.ensures.read.0 c.in_err-card.ensures.silent)

pub returns-in_err-theirs-clause-waits : goal.returns-in_err-theirs-clause-waits
returns-in_err-theirs-clause-waits g c = λ is.
    let same : c.from_residual-in_err-theirs.result ≡ Err c.in_err-theirs.field-0.0 = search rules in
    let silent : c.in_err-theirs.field-0.0 ≡ Silent = cc (same, is) in
    inl (c.in_err-theirs.ensures.few (ap Err silent), c.in_ok-write_opening.ensures.written)

pub returns-in_err-verdict-clause-waits : goal.returns-in_err-verdict-clause-waits
returns-in_err-verdict-clause-waits g c = λ is.
    let same : c.from_residual-in_err-verdict.result ≡ Err c.in_err-verdict.field-0.0 = search rules in
    let silent : c.in_err-verdict.field-0.0 ≡ Silent = cc (same, is) in
    inr (waited _ _ _ _ _ _ c.args.key.now c.args.nonce.now c.in_ok-theirs.theirs c.args.own.now c.in_ok-theirs.ensures.length c.in_ok-theirs.ensures.read
    (fewer _ _ 0 105 (c.in_err-verdict.ensures.few (ap Err silent)) (omega arith)) c.in_ok-write_opening.ensures.written c.in_ok-write_offer.ensures.written)

pub returns-in_err-card-clause-waits : goal.returns-in_err-card-clause-waits
returns-in_err-card-clause-waits g c = λ is.
    inr (waited _ _ _ _ _ _ c.args.key.now c.args.nonce.now c.in_ok-theirs.theirs c.args.own.now c.in_ok-theirs.ensures.length c.in_ok-theirs.ensures.read
    (up_to_grows _ _ _ (c.in_ok-verdict.verdict ∷ []) 104 105 c.in_ok-verdict.ensures.read.0 c.in_err-card.ensures.few (omega arith))
    c.in_ok-write_opening.ensures.written c.in_ok-write_offer.ensures.written)

pub returns-in_err-write_offer-clause-unsent : goal.returns-in_err-write_offer-clause-unsent
returns-in_err-write_offer-clause-unsent g c = λ is.
    inr (cut_offer _ _ _ _ _ c.args.key.now c.args.nonce.now c.in_ok-theirs.theirs c.args.own.now c.in_ok-theirs.ensures.length c.in_ok-theirs.ensures.read
    c.in_ok-write_opening.ensures.written c.in_err-write_offer.ensures.begun)

pub returns-in_err-card-clause-wrote : goal.returns-in_err-card-clause-wrote
returns-in_err-card-clause-wrote g c =
    let same : c.from_residual-in_err-card.result ≡ Err Silent = search rules in
    rw same (inr (offered _ _ _ c.args.key.now c.args.nonce.now c.in_ok-theirs.theirs c.args.own.now c.in_ok-write_opening.ensures.written
    c.in_ok-write_offer.ensures.written))

pub returns-in-Some-clause-wrote : goal.returns-in-Some-clause-wrote
returns-in-Some-clause-wrote g c =
    offered _ _ _ c.args.key.now c.args.nonce.now c.in_ok-theirs.theirs c.args.own.now c.in_ok-write_opening.ensures.written c.in_ok-write_offer.ensures.written
