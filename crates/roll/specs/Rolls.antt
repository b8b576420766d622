-- What a roll keeps of each site number (this project's own).
use Rattle.std.specs.Prelude.{ℕ, ◌≢◌, List, None, Option, slice_index_or}
use Rattle.link_hello.specs.Cards.{IsOfOurs}
use Rattle.link_hello.specs.declared.card.Card.{Card}
use Rattle.roll.specs.declared.roll.Identity.{Identity}

-- what was seen with a number
abbrev pub seen_with : List (Option Identity) → ℕ → Option Identity
seen_with seen number = slice_index_or seen number None

-- the store, start count and process of a card
abbrev pub identity_of : Card → Identity
identity_of card = record { store = card.store; starts = card.starts; process = card.process }

-- another site's card is of this site's queues and has another site's number
abbrev pub IsPeer : Card → Card → Type 0
IsPeer own card = IsOfOurs own card × (card.number ≢ own.number)
