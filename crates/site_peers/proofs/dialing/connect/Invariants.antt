use Rattle.site_peers.proofs.dialing.connect.Given as goal

abbrev pub invariant-loop-address : goal.invariant-loop-address
invariant-loop-address g l =
    (goal.iterator-loop-address g).can_next l.address-iterator ×
    (goal.iterator-loop-address g).is_finite l.address-iterator
