-- The invariant of a link: the sent items are the received ones, followed by those in the channel. At most one pass may send, and
-- it has the list of the sent items; and one may receive.
use Rattle.std.specs.Prelude.{◌≡◌, ◌≤◌, ℕ, Bool, true, List, ◌++◌, length}
use mathlib.Core.Option.{some}
use lib.ListN.{get_elem?}
use Rattle.site_links.specs.declared.limits.TheConstants.{MOST_ITEMS}
use Rattle.site_links.specs.declared.log.Log.{Log}

-- what is sent over a link at once: bytes
abbrev pub Item : Type 0
Item = List ℕ

-- what a pass of a channel knows: whether it may send and receive, and what was sent and received by it
abbrev pub log : Bool → Bool → List Item → List Item → Log
log sends receives sent received = record { sends = sends; receives = receives; sent = sent; received = received }

-- the log `v` of the pass at `port` fits: a pass that may send is at `writer`, and knows all that
-- was `sent`; one that may receive is at `reader`, and knows all that was `received`
abbrev pub Fits : ℕ → ℕ → List Item → List Item → ℕ → Log → Type 0
Fits writer reader sent received port v =
    (v.sends ≡ true → (port ≡ writer) × (v.sent ≡ sent)) × (v.receives ≡ true → (port ≡ reader) × (v.received ≡ received))

-- the channel of a link holds `items`, and its passes know `views`: what was sent, at most
-- MOST_ITEMS items, is what was received and then these
abbrev pub IsRelayed : List Item → List Log → Type 0
IsRelayed items views = (writer : ℕ) × (reader : ℕ) × (sent : List Item) × (received : List Item) × (sent ≡ received ++ items) × (length sent ≤ MOST_ITEMS)
    × ((port : ℕ) (v : Log) → get_elem? views port ≡ some v → Fits writer reader sent received port v)
