use Rattle.std.proofs.Common.{◌≡◌, length, ap, arith}
use Rattle.std.specs.FinMap as map
use Rattle.delta_codec.proofs.Counting.{few_totals}
use Rattle.delta_codec.proofs.sizes.count_of.Goals as goal

pub loop-key-init : goal.loop-key-init
loop-key-init c = record {
  value = let items : length c.into_iter-key-iterator.result ≡ length c.iter-key-items.result = ap length c.into_iter-key-iterator.ensures.into_iter_gives in let entries : length c.iter-key-items.result ≡ length (map.entries c.args.totals.now.entries) = ap length c.iter-key-items.ensures.entries in omega (arith, items, entries);
  few = few_totals c.args.totals.now.entries c.iter-key-items.ensures.limits;
}
