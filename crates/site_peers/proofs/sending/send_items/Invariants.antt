use Rattle.std.specs.Prelude.{ℕ, ◌≡◌, List, false}
use Rattle.site_pumps.specs.Inlets.{InletRun}
use Rattle.site_peers.specs.Sent.{HasSentAll}
use Rattle.site_peers.proofs.sending.send_items.Given as goal

-- what the queue has given so far was sent
abbrev pub invariant-loop : goal.invariant-loop
invariant-loop g l = (items : List (List ℕ)) × InletRun g.Q.ItemQueue.gives l.initial.queue items l.queue
    × HasSentAll (g.W.Sink.taken l.initial.sink) (g.W.Sink.taken l.sink) l.initial.sender items l.sender
    × (g.W.Sink.failed l.sink ≡ false)
