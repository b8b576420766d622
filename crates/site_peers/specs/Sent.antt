-- What a link has sent (this project's own).
use Rattle.std.specs.Prelude.{ℕ, ◌≡◌, ◌+◌, ◌++◌, List, Option, length}
use Rattle.std.specs.Io.KnownBytes.{Appends, Consumes}
use Rattle.ami_text.specs.Devices.{HasTaken}
use Rattle.link_hello.specs.Codes.{item_key}
use Rattle.link_hello.specs.Hellos.{answer_bytes, offer_bytes, opening, verdict_bytes}
use Rattle.link_hello.specs.declared.card.Card.{Card}
use Rattle.link_hello.specs.declared.transcript.Transcript.{Transcript}
use Rattle.link_stream.specs.Sending.{SenderState}
use Rattle.link_stream.specs.Sequences.{all_tagged}
use Rattle.roll.specs.Rolls.{IsPeer}

-- a sink had taken `before` and has taken `after` now: these items were written, one after another, each with the tag of its counter
pub record HasSentAll (before after : Option (List ℕ)) (old : SenderState) (items : List (List ℕ)) (new : SenderState) : Type 0 where
  pub written : Appends before after (all_tagged old.key old.sent items)
  pub sent : new.sent ≡ old.sent + length items
  pub key : new.key ≡ old.key

-- the sink has taken a prefix of these items and their tags
abbrev pub HasBegunAll : Option (List ℕ) → Option (List ℕ) → SenderState → List (List ℕ) → Type 0
HasBegunAll before after old items = HasTaken before after (all_tagged old.key old.sent items)

-- a site has dialed, by a hello of this transcript, with this nonce and card of its own: it has read the hello of a peer of this number, and
-- written its own hello and then these bytes; both verdicts are welcomes under the secret's key
pub record HasDialedLink (left_before left_after taken_before taken_after : Option (List ℕ)) (key nonce : List ℕ) (own : Card) (peer : ℕ) (t : Transcript) (bytes : List ℕ) : Type 0 where
  pub nonce_is : t.dialer_nonce ≡ nonce
  pub card_is : t.dialer ≡ own
  pub is_peer : IsPeer own t.acceptor
  pub peer_is : peer ≡ t.acceptor.number
  pub read : Consumes left_before left_after ((opening t.acceptor_nonce ++ offer_bytes key t) ++ verdict_bytes key t 0)
  pub written : Appends taken_before taken_after ((opening nonce ++ answer_bytes key t 0) ++ bytes)

-- a site has dialed, and after its hello it has written these items, each with the tag of its counter, from 0 on, under the hello's key of
-- items
abbrev pub HasSentLink : (left_before left_after taken_before taken_after : Option (List ℕ)) → (key nonce : List ℕ) → Card → ℕ → List (List ℕ) → Type 0
HasSentLink left_before left_after taken_before taken_after key nonce own peer items = (t : Transcript)
    × HasDialedLink left_before left_after taken_before taken_after key nonce own peer t (all_tagged (item_key key t) 0 items)

-- a site has dialed, and after its hello it has written a prefix of these items and their tags
abbrev pub HasBegunLink : (left_before left_after taken_before taken_after : Option (List ℕ)) → (key nonce : List ℕ) → Card → ℕ → List (List ℕ) → Type 0
HasBegunLink left_before left_after taken_before taken_after key nonce own peer items = (t : Transcript) × (front rest : List ℕ)
    × (all_tagged (item_key key t) 0 items ≡ front ++ rest)
    × HasDialedLink left_before left_after taken_before taken_after key nonce own peer t front
