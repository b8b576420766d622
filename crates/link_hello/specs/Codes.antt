-- The codes and keys of a hello, under the key of the secret (this project's own).
use Rattle.std.specs.Prelude.{ℕ, List, [], ◌∷◌, ◌++◌, codes}
use Rattle.link_keys.specs.Macs.{mac_of}
use Rattle.link_hello.specs.Cards.{card_bytes}
use Rattle.link_hello.specs.declared.card.Card.{Card}
use Rattle.link_hello.specs.declared.transcript.Transcript.{Transcript}

-- the label of the code of the site that accepts
abbrev pub accepts : List ℕ
accepts = codes "queue sites link 2, accepts"

-- the label of the code of the site that dials
abbrev pub dials : List ℕ
dials = codes "queue sites link 2, dials"

-- the label of the code of a verdict
abbrev pub verdict_label : List ℕ
verdict_label = codes "queue sites link 2, verdict"

-- the label of the key of items
abbrev pub items_label : List ℕ
items_label = codes "queue sites link 2, items"

-- the label of the key of acknowledgements
abbrev pub acknowledgements_label : List ℕ
acknowledgements_label = codes "queue sites link 2, acknowledgements"

-- all of these labels
abbrev pub labels : List (List ℕ)
labels = accepts ∷ dials ∷ verdict_label ∷ items_label ∷ acknowledgements_label ∷ []

-- the bytes of both nonces and both cards
abbrev pub transcript_bytes : Transcript → List ℕ
transcript_bytes t = t.dialer_nonce ++ (t.acceptor_nonce ++ (card_bytes t.acceptor ++ card_bytes t.dialer))

-- the code of the site that accepts: both nonces and its card
abbrev pub acceptor_code : List ℕ → List ℕ → List ℕ → Card → List ℕ
acceptor_code key dialer_nonce acceptor_nonce card =
    mac_of key (accepts ++ (dialer_nonce ++ (acceptor_nonce ++ card_bytes card)))

-- the code of both nonces, both cards and a verdict's byte, under a label
abbrev pub transcript_code : List ℕ → List ℕ → Transcript → ℕ → List ℕ
transcript_code key label t verdict = mac_of key (label ++ (transcript_bytes t ++ verdict ∷ []))

-- the code of the site that dials, with its verdict on the other one's card
abbrev pub dialer_code : List ℕ → Transcript → ℕ → List ℕ
dialer_code key t verdict = transcript_code key dials t verdict

-- the code of the accepting site's verdict on the other one's card
abbrev pub verdict_code : List ℕ → Transcript → ℕ → List ℕ
verdict_code key t verdict = transcript_code key verdict_label t verdict

-- the key of items
abbrev pub item_key : List ℕ → Transcript → List ℕ
item_key key t = mac_of key (items_label ++ transcript_bytes t)

-- the key of acknowledgements
abbrev pub acknowledgement_key : List ℕ → Transcript → List ℕ
acknowledgement_key key t = mac_of key (acknowledgements_label ++ transcript_bytes t)
