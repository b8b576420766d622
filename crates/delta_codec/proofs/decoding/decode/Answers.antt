use Rattle.std.proofs.Common.{ℕ, ◌<◌, get_or, arith}
use Rattle.delta_codec.proofs.FaultAnswers.{front_fault}
use Rattle.delta_codec.proofs.FrameAnswers.{front_frame}
use Rattle.delta_codec.proofs.decoding.decode.Goals as goal

pub returns : goal.returns
returns c =
    let fits : (i : ℕ) → get_or c.args.bytes.now i 0 < 256 = λ i. omega (arith, c.type_inv.bytes i) in
    record {
      front = front_frame c.args.bytes.now c.read_frame.result fits c.read_frame.ensures.value;
      fault = front_fault c.args.bytes.now c.read_frame.result fits c.read_frame.ensures.value c.read_frame.ensures.early;
      retired = c.read_frame.ensures.retired;
    }
