use Rattle.site_peers.proofs.Results.{either}
use Rattle.site_peers.proofs.outbox.put_frame.Goals as goal

pub returns : goal.returns
returns c = record {
  ignored = λ so. (c.put.ensures.ignored so).1;
  full = λ is_open due more. (c.put.ensures.full is_open due more).1;
  kept = λ is_open due room. either c.put.result (c.put.ensures.kept is_open due room) c.put.ensures.memory;
}
