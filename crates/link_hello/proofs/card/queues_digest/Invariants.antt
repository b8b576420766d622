use Rattle.std.proofs.Common.{take}
use Rattle.sha2.specs.Hashers.{Holds256}
use Rattle.link_hello.specs.Cards.{queues_bytes}
use Rattle.link_hello.proofs.card.queues_digest.Given as goal

-- the names so far are hashed
abbrev pub invariant-names : goal.invariant-names
invariant-names l = Holds256 l.hasher (queues_bytes (take l.place l.list))
