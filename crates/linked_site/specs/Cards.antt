-- The card of a linked site (this project's own).
use Rattle.std.specs.Prelude.{ℕ, List}
use Rattle.sha2.specs.Sha256.{sha256}
use Rattle.link_hello.specs.Cards.{queues_bytes}
use Rattle.link_hello.specs.declared.card.Card.{Card}
use Rattle.linked_site.specs.declared.link_settings.LinkSettings.{LinkSettings}

-- the card of a site of this number, with these queues: the store and the start are those of its settings, and the process has this name
abbrev pub card_of : ℕ → List (List ℕ) → LinkSettings → List ℕ → Card
card_of site names links process =
    record { number = site; store = links.store; starts = links.starts; process = process; queues = sha256 (queues_bytes names) }
