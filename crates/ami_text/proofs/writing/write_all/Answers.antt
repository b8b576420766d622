use Rattle.std.proofs.Common.{arith}
use Rattle.ami_text.proofs.Taking.{front_grows, taken_grows}
use Rattle.ami_text.proofs.writing.write_all.Goals as goal

pub loop-rest-preserved : goal.loop-rest-preserved
loop-rest-preserved g c =
    let was = c.loop-rest.invariant.so_far in
    let more = c.in_ok-count.ensures in
    record {
      works = more.works (omega (arith, c.if-count-eq0.false));
      so_far = (_, front_grows c.args.bytes.now was.0 c.loop-rest.rest.now c.in_ok-count.count was.1, taken_grows _ _ _ was.0 _ was.2 more.bytes);
    }
