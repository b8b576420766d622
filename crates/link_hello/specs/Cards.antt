-- The cards of sites (this project's own).
use Rattle.std.specs.Prelude.{ℕ, ◌≡◌, ◌<◌, List, [], ◌∷◌, ◌++◌, length}
use Rattle.std.specs.Int.{to_be_bytes, w64}
use Rattle.dots.specs.Values.{IsSite}
use Rattle.link_hello.specs.declared.card.Card.{Card}

-- the bytes of a card: number, store, start count, process, digest of the queues
abbrev pub card_bytes : Card → List ℕ
card_bytes card = card.number ∷ (card.store ++ (to_be_bytes w64 card.starts ++ (card.process ++ card.queues)))

-- a card's store, process and digest have their lengths
abbrev pub IsCard : Card → Type 0
IsCard card = (length card.store ≡ 16) × (length card.process ≡ 16) × (length card.queues ≡ 32)

-- the names of queues in their order: of each its length, one byte, and its bytes
abbrev pub queues_bytes : List (List ℕ) → List ℕ
queues_bytes [] = []
queues_bytes (name ∷ names) = length name ∷ (name ++ queues_bytes names)

-- another site's card has this site's number and store, and a smaller start count
abbrev pub IsOlder : Card → Card → Type 0
IsOlder own other = (other.number ≡ own.number) × (other.store ≡ own.store) × (other.starts < own.starts)

-- another site's card has a site's number and this site's queues
abbrev pub IsOfOurs : Card → Card → Type 0
IsOfOurs own other = IsSite other.number × (other.queues ≡ own.queues)
