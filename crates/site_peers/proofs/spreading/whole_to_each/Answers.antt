use Rattle.std.proofs.Common.{[], ◌∷◌, refl}
use Rattle.site_peers.proofs.Spreads.{spread_made, spread_refused}
use Rattle.site_peers.proofs.spreading.whole_to_each.Goals as goal

-- the port refuses the call
pub returns-in-Err-clause-spread : goal.returns-in-Err-clause-spread
returns-in-Err-clause-spread g c = ([], spread_refused g.P.Port.makes g.P.Port.refuses g.O.Outbox.handed _ _ _ c.in-Err.fault c.in-Err.ensures.refused, tt, refl)

-- the receipt was handed to each
pub returns-clause-spread : goal.returns-clause-spread
returns-clause-spread g c = let receipt = c.in-Ok.receipt in
    (receipt ∷ [], spread_made g.P.Port.makes g.P.Port.refuses g.O.Outbox.handed _ _ _ _ receipt c.in-Ok.ensures.made c.hand_to_each.ensures.handed, (receipt, c.in-Ok.ensures.deed, refl), tt)
