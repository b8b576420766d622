-- What an acceptor has written.
use Rattle.std.proofs.Common.{◌≡◌, ◌∙◌, ◌++◌, List, Option, [], append-nil, append_assoc, length, subst, sym, ℕ}
use Rattle.std.specs.Io.KnownBytes.{Appends, Consumes}
use Rattle.ami_text.proofs.Taking.{given_grows, taken_grows}
use Rattle.ami_text.specs.Devices.{HasGivenUpTo, HasTaken}
use Rattle.link_hello.specs.Cards.{card_bytes}
use Rattle.link_hello.specs.Codes.{acceptor_code}
use Rattle.link_hello.specs.Hellos.{HasCutOffer, HasOffered, HasWaited, opening}
use Rattle.link_hello.specs.declared.card.Card.{Card}

-- an opening, an offer and more, grouped to the right
grouped : (o c a m : List ℕ) → (o ++ (c ++ a)) ++ m ≡ o ++ (c ++ (a ++ m))
grouped o c a m = simp append_assoc

-- an offer after an opening
pub offered : (before between after : Option (List ℕ)) (key nonce other : List ℕ) (own : Card) → Appends before between (opening nonce)
    → Appends between after (card_bytes own ++ acceptor_code key other nonce own) → HasOffered before after key nonce own []
offered before between after key nonce other own opened offers = (
  other,
  subst (λ (b : List ℕ). Appends before after b)
      (sym (append-nil (opening nonce ++ (card_bytes own ++ acceptor_code key other nonce own))) ∙ grouped (opening nonce) (card_bytes own) (acceptor_code key other nonce own) [])
      (taken_grows before between after (opening nonce) (card_bytes own ++ acceptor_code key other nonce own) opened offers),
)

-- and a byte after both
pub offered_then : (before between after last : Option (List ℕ)) (key nonce other : List ℕ) (own : Card) (more : List ℕ) → Appends before between (opening nonce)
    → Appends between after (card_bytes own ++ acceptor_code key other nonce own) → Appends after last more → HasOffered before last key nonce own more
offered_then before between after last key nonce other own more opened offers then = (
  other,
  subst (λ (b : List ℕ). Appends before last b) (grouped (opening nonce) (card_bytes own) (acceptor_code key other nonce own) more)
      (taken_grows before after last (opening nonce ++ (card_bytes own ++ acceptor_code key other nonce own)) more
      (taken_grows before between after (opening nonce) (card_bytes own ++ acceptor_code key other nonce own) opened offers) then),
)

-- a sink that failed within an offer
pub cut_offer : (left_before left_after before between after : Option (List ℕ)) (key nonce other : List ℕ) (own : Card) → length other ≡ 32
    → Consumes left_before left_after (opening other) → Appends before between (opening nonce)
    → HasTaken between after (card_bytes own ++ acceptor_code key other nonce own) → HasCutOffer left_before left_after before after key nonce own
cut_offer left_before left_after before between after key nonce other own long came opened begun = record {
  other = other;
  front = begun.front;
  rest = begun.rest;
  is_nonce = long;
  read = came;
  offer = begun.is;
  written = taken_grows before between after (opening nonce) begun.front opened begun.taken;
}

-- an offer, and less than an answer to it
pub waited : (left_before left_between left_after before between after : Option (List ℕ)) (key nonce other : List ℕ) (own : Card) → length other ≡ 32
    → Consumes left_before left_between (opening other) → HasGivenUpTo left_between left_after 105 → Appends before between (opening nonce)
    → Appends between after (card_bytes own ++ acceptor_code key other nonce own)
    → HasWaited left_before left_after before after key nonce own
waited left_before left_between left_after before between after key nonce other own long came given opened offers = record {
  other = other;
  part = given.bytes;
  is_nonce = long;
  few = given.few;
  read = given_grows left_before left_between left_after (opening other) given.bytes came given.given;
  written = taken_grows before between after (opening nonce) (card_bytes own ++ acceptor_code key other nonce own) opened offers;
}
