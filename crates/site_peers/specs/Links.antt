-- What an inlet of a link reads and holds, and what the threads of a site share for its links (this project's own).
use Rattle.link_hello.specs.declared.card.Card.{Card}
use Rattle.link_stream.specs.Tagged.{TaggedState}
use Rattle.std.specs.Prelude.{ℕ, List, Option, vec_len}
use Rattle.site_peers.specs.declared.link_inlet.InletFault.{InletFault}
use Rattle.site_peers.specs.declared.link_inlet.LinkInlet.{LinkInlet}
use Rattle.site_peers.specs.declared.peer_links.PeerLinks.{PeerLinks}

-- the source that it reads
abbrev pub inlet_source : {S A : Type 0} {of_source : _} → LinkInlet S A of_source → S
inlet_source inlet = inlet.source

-- what was read and not yet given
abbrev pub inlet_stream : {S A : Type 0} {of_source : _} → LinkInlet S A of_source → TaggedState
inlet_stream inlet = inlet.receiver.stream

-- why it gives nothing more, once it gives nothing
abbrev pub inlet_fault : {S A : Type 0} {of_source : _} → LinkInlet S A of_source → Option InletFault
inlet_fault inlet = inlet.fault

-- the card that the site shows in its hellos
abbrev pub links_card : {G : Type 0} → PeerLinks G → Card
links_card links = links.card

-- the key of the secret under which its hellos are
abbrev pub links_key : {G : Type 0} → PeerLinks G → List ℕ
links_key links = links.key

-- how many peers a site dials
abbrev pub peer_count : {G : Type 0} → PeerLinks G → ℕ
peer_count links = vec_len links.peers
