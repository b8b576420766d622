-- A hello, and the items after it.
use Rattle.std.proofs.Common.{◌≡◌, ◌++◌, ℕ, List, Option, subst}
use Rattle.std.specs.Io.KnownBytes.{Appends}
use Rattle.ami_text.proofs.Taking.{taken_grows}
use Rattle.link_hello.specs.Codes.{item_key}
use Rattle.link_hello.specs.Hellos.{answer_bytes, opening}
use Rattle.link_hello.specs.declared.card.Card.{Card}
use Rattle.link_stream.specs.Sending.{SenderState}
use Rattle.link_stream.specs.Sequences.{all_tagged}
use Rattle.site_peers.specs.declared.meeting.Meeting.{Meeting}
use Rattle.site_peers.specs.Meetings.{HasDialed}
use Rattle.site_peers.specs.Sent.{HasBegunAll, HasBegunLink, HasDialedLink, HasSentAll, HasSentLink}

module _ (left_before left_after taken_before taken taken_after : Option (List ℕ)) (key nonce : List ℕ) (own : Card) (meeting : Meeting) (met : HasDialed left_before left_after taken_before taken key nonce own meeting) where
  -- bytes were written after the hello
  after_hello : (bytes : List ℕ) → Appends taken taken_after bytes → HasDialedLink left_before left_after taken_before taken_after key nonce own meeting.site met.transcript bytes
  after_hello bytes written = record {
    nonce_is = met.nonce_is;
    card_is = met.card_is;
    is_peer = met.agreed.peer;
    peer_is = met.agreed.site;
    read = met.read;
    written = taken_grows taken_before taken taken_after (opening nonce ++ answer_bytes key met.transcript 0) bytes met.written written;
  }

  -- all items were sent
  pub link_sent : (old new : SenderState) (items : List (List ℕ)) → old ≡ record { key = meeting.keys.items; sent = 0 } → HasSentAll taken taken_after old items new
      → HasSentLink left_before left_after taken_before taken_after key nonce own meeting.site items
  link_sent old new items begun sent = (
    met.transcript,
    after_hello (all_tagged (item_key key met.transcript) 0 items)
        (subst (λ (k : List ℕ). Appends taken taken_after (all_tagged k 0 items)) met.agreed.items (subst (λ (s : SenderState). Appends taken taken_after (all_tagged s.key s.sent items)) begun sent.written)),
  )

  -- a prefix of the items was sent
  pub link_begun : (old : SenderState) (items : List (List ℕ)) → old ≡ record { key = meeting.keys.items; sent = 0 } → HasBegunAll taken taken_after old items
      → HasBegunLink left_before left_after taken_before taken_after key nonce own meeting.site items
  link_begun old items begun sent = (
    met.transcript,
    sent.front,
    sent.rest,
    subst (λ (k : List ℕ). all_tagged k 0 items ≡ sent.front ++ sent.rest) met.agreed.items (subst (λ (s : SenderState). all_tagged s.key s.sent items ≡ sent.front ++ sent.rest) begun sent.is),
    after_hello sent.front sent.taken,
  )
