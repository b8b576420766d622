-- Whole sequences of items, under counters that begin at a number (this project's own).
use Rattle.std.specs.Prelude.{ℕ, ◌≡◌, ◌+◌, List, Option, [], ◌∷◌, ◌++◌}
use Rattle.std.specs.Io.KnownBytes.{Keeps}
use Rattle.link_keys.specs.Macs.{counted}
use Rattle.link_stream.specs.Sending.{HasSent, SenderState}
use Rattle.link_stream.specs.Tagged.{TaggedState, TakesTagged, tagged}

-- items with their tags, one after another
abbrev pub all_tagged : List ℕ → ℕ → List (List ℕ) → List ℕ
all_tagged key counter [] = []
all_tagged key counter (item ∷ items) = tagged key counter item ++ all_tagged key (counter + 1) items

-- what the tags of items are the codes of
abbrev pub all_counted : ℕ → List (List ℕ) → List (List ℕ)
all_counted counter [] = []
all_counted counter (item ∷ items) = counted counter item ∷ all_counted (counter + 1) items

-- what happens at a receiver: bytes come, or an item or acknowledgement of these bytes is given
pub data Event : Type 0 where
  Came : (bytes : List ℕ) → Event
  Given : (item : List ℕ) → Event

-- all bytes that came
abbrev pub all_came : List Event → List ℕ
all_came [] = []
all_came (Came bytes ∷ events) = bytes ++ all_came events
all_came (Given item ∷ events) = all_came events

-- all items that were given
abbrev pub all_given : List Event → List (List ℕ)
all_given [] = []
all_given (Came bytes ∷ events) = all_given events
all_given (Given item ∷ events) = item ∷ all_given events

-- these events lead a stream from one state to another
abbrev pub HaveHappened : TaggedState → List Event → TaggedState → Type 0
HaveHappened old [] new = new ≡ old
HaveHappened old (Came bytes ∷ events) new = HaveHappened (record old { held = old.held ++ bytes }) events new
HaveHappened old (Given item ∷ events) new = (stream : TaggedState) × TakesTagged old item stream × HaveHappened stream events new

-- sends wrote these items, one after another
abbrev pub HaveSent : Option (List ℕ) → Option (List ℕ) → SenderState → List (List ℕ) → SenderState → Type 0
HaveSent before after old [] new = Keeps before after × (new ≡ old)
HaveSent before after old (item ∷ items) new =
    (between : Option (List ℕ)) × (sender : SenderState) × HasSent before between old item sender × HaveSent between after sender items new
