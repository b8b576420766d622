-- What a hello has read, written and agreed on (this project's own).
use Rattle.std.specs.Prelude.{ℕ, ◌≡◌, List, Option, ◌++◌}
use Rattle.std.specs.Io.KnownBytes.{Appends, Consumes}
use Rattle.link_hello.specs.Codes.{acknowledgement_key, item_key}
use Rattle.link_hello.specs.Hellos.{answer_bytes, offer_bytes, opening, verdict_bytes}
use Rattle.link_hello.specs.declared.card.Card.{Card}
use Rattle.link_hello.specs.declared.transcript.Transcript.{Transcript}
use Rattle.roll.specs.Rolls.{IsPeer}
use Rattle.site_peers.specs.declared.meeting.Meeting.{Meeting}

-- a link has the keys of this transcript, and its peer has this card
pub record IsMeetingOf (key : List ℕ) (own card : Card) (t : Transcript) (meeting : Meeting) : Type 0 where
  pub peer : IsPeer own card
  pub site : meeting.site ≡ card.number
  pub items : meeting.keys.items ≡ item_key key t
  pub acknowledgements : meeting.keys.acknowledgements ≡ acknowledgement_key key t

-- a site has dialed: it has written its opening and its answer, and read the peer's opening, offer and verdict, all of them welcomes under the secret's key
pub record HasDialed (left_before left_after taken_before taken_after : Option (List ℕ)) (key nonce : List ℕ) (own : Card) (meeting : Meeting) : Type 0 where
  pub transcript : Transcript
  pub nonce_is : transcript.dialer_nonce ≡ nonce
  pub card_is : transcript.dialer ≡ own
  pub read : Consumes left_before left_after ((opening transcript.acceptor_nonce ++ offer_bytes key transcript) ++ verdict_bytes key transcript 0)
  pub written : Appends taken_before taken_after (opening nonce ++ answer_bytes key transcript 0)
  pub agreed : IsMeetingOf key own transcript.acceptor transcript meeting

-- a site was dialed: it has read the peer's opening and answer, and written its opening, its offer and its verdict, all of them welcomes under the secret's key
pub record HasBeenDialed (left_before left_after taken_before taken_after : Option (List ℕ)) (key nonce : List ℕ) (own : Card) (meeting : Meeting) : Type 0 where
  pub transcript : Transcript
  pub nonce_is : transcript.acceptor_nonce ≡ nonce
  pub card_is : transcript.acceptor ≡ own
  pub read : Consumes left_before left_after (opening transcript.dialer_nonce ++ answer_bytes key transcript 0)
  pub written : Appends taken_before taken_after ((opening nonce ++ offer_bytes key transcript) ++ verdict_bytes key transcript 0)
  pub agreed : IsMeetingOf key own transcript.dialer transcript meeting
