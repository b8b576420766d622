use Rattle.std.proofs.Common.{take}
use Rattle.std.specs.List.{All}
use Rattle.dots.specs.Values.{IsName}
use Rattle.replica.proofs.queue_list.QueueList.new.Given as goal
use Rattle.replica.proofs.NameLemmas.{HoldsNames}

abbrev pub invariant-loop-name : goal.invariant-loop-name
invariant-loop-name l = HoldsNames l.held.keys (take l.name-index l.names) × All IsName l.held.keys
