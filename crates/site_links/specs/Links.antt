-- What contracts see of the ends of a link.
use Rattle.std.specs.Prelude.{ℕ, Bool, List}
use Rattle.atomic_table.specs.Seated.{TableId}
use Rattle.atomic_table.specs.declared.badge.Badge.{Badge}
use Rattle.crossbeam_channel.specs.Claims.{Pass, view}
use Rattle.crossbeam_channel.specs.Ends.{ruled_capacity}
use Rattle.crossbeam_channel.specs.declared.flavors.array.Key.{Key}
use Rattle.crossbeam_channel.specs.declared.flavors.array.Rows.{Rows}
use Rattle.site_links.specs.declared.log.Log.{Log}

-- the identity of a link, by its tables and its key, and the most items that it holds
pub record LinkIdentity : Type 0 where
  pub table : TableId
  pub key : Badge (Key (List ℕ))
  pub messages : TableId
  pub capacity : ℕ

-- the end of a link that sends: all that was sent, and whether a send returned its bytes
pub record Sending : Type 0 where
  pub link : LinkIdentity
  pub sent : List (List ℕ)
  pub down : Bool

-- the end of a link that receives: all that was received, and whether a receive found the link's end
pub record Receiving : Type 0 where
  pub link : LinkIdentity
  pub received : List (List ℕ)
  pub ended : Bool

-- the link that the channel `c` is
abbrev pub link_of : {D Q M L A : Type 0} → Rows (Badge (Key (List ℕ))) D Q M (Key (List ℕ)) L A → LinkIdentity
link_of c = record { table = c.stamps.shared.table_id; key = c.stamps.shared.key; messages = c.messages.shared.table_id; capacity = ruled_capacity c }

-- what a pass of a channel knows: its log
abbrev pub known_of : Pass (List ℕ) Log → Log
known_of pass = view pass
