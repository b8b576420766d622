use Rattle.site_peers.proofs.Results.{either}
use Rattle.site_peers.proofs.outbox.give_whole.Goals as goal

pub returns : goal.returns
returns c = record {
  earlier = λ no. (c.give_whole.ensures.earlier no).1;
  same = λ made no. (c.give_whole.ensures.same made no).1;
  given = λ made news. either c.give_whole.result (c.give_whole.ensures.given made news) c.give_whole.ensures.memory;
}
