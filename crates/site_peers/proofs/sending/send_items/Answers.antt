use Rattle.std.proofs.Common.{[], ◌∷◌, ◌++◌, refl}
use Rattle.link_stream.specs.Items.{item_bytes}
use Rattle.site_pumps.proofs.InletRuns.{inlet_more}
use Rattle.site_peers.proofs.Items.{begun_more, sent_more, sent_none}
use Rattle.site_peers.proofs.sending.send_items.Goals as goal

pub loop-init : goal.loop-init
loop-init g c = ([], refl, sent_none _ _, c.requires)

-- an item that was not sent whole
pub returns-in-Err-clause-begun : goal.returns-in-Err-clause-begun
returns-in-Err-clause-begun g c = let was = c.loop.invariant in let item = item_bytes c.in-Some-next_item.item in (
  was.0 ++ item ∷ [],
  inlet_more g.Q.ItemQueue.gives was.0 item _ _ _ was.1 c.in-Some-next_item.ensures.given,
  begun_more _ _ _ _ _ was.0 item was.2 c.in-Err.ensures.begun,
)

-- one item more
pub loop-preserved : goal.loop-preserved
loop-preserved g c = let was = c.loop.invariant in let item = item_bytes c.in-Some-next_item.item in (
  was.0 ++ item ∷ [],
  inlet_more g.Q.ItemQueue.gives was.0 item _ _ _ was.1 c.in-Some-next_item.ensures.given,
  sent_more _ _ _ _ _ _ was.0 item was.2 c.in_default-send_item.ensures.sent,
  c.in_default-send_item.ensures.works,
)
