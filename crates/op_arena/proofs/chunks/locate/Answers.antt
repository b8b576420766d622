use Rattle.std.proofs.Common.{◌-◌, ◌*◌, ◌%◌, ◌^◌, refl}
use lib.Count.{count_leading_zeros}
use Rattle.op_arena.proofs.Laying.{located}
use Rattle.op_arena.proofs.chunks.locate.Goals as goal

pub overflow_sub-result : goal.overflow_sub-result
overflow_sub-result c = (located c.args.index (63 - count_leading_zeros 64 c.args.index) ((1 * 2 ^ (63 - count_leading_zeros 64 c.args.index)) % 2 ^ 64) c.if-index-lt-FIRST.false c.ranges.index.fits refl refl).0

pub returns : goal.returns
returns c = (located c.args.index (63 - count_leading_zeros 64 c.args.index) ((1 * 2 ^ (63 - count_leading_zeros 64 c.args.index)) % 2 ^ 64) c.if-index-lt-FIRST.false c.ranges.index.fits refl refl).1
