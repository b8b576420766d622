use Rattle.std.proofs.Common.{drop, ap, ◌∙◌}
use Rattle.delta_codec.proofs.FaultAnswers.{next_fails, next_missing, next_taken}
use Rattle.delta_codec.proofs.FrameAnswers.{fault_found, next_found, none_found}
use Rattle.delta_codec.proofs.splitter.Splitter.next_frame.Goals as goal
use Rattle.delta_codec.proofs.splitter.Splitter.next_frame.Goals.{in-Truncated, in_default}

pub returns-in-Ok : goal.returns-in-Ok
returns-in-Ok c =
    let held = c.as_slice.ensures ∙ c.self.view_is in
    let front = rw held at c.in-Ok.ensures.front in
    let fault = rw held at c.in-Ok.ensures.fault in
    record {
      frame = next_found c.args.self.now c.take_front.new.self c.in-Ok.frame c.in-Ok.len front (c.take_front.ensures ∙ ap (drop c.in-Ok.len) c.self.view_is);
      fault = next_taken c.args.self.now c.in-Ok.frame c.in-Ok.len fault;
      retired = c.in-Ok.ensures.retired;
    }

pub returns-after-fault : goal.returns-after-fault
returns-after-fault c =
    let held = c.as_slice.ensures ∙ c.self.view_is in
    let front = rw held at c.in-Err.ensures.front in
    let fault = rw held at c.in-Err.ensures.fault in
    elim c.match-fault.branch [
      | in-Truncated w ↦
          let missing = rw w.in-Truncated.is at front in
          let short = rw w.in-Truncated.is at fault in
          rw w.result-is (record { frame = none_found c.args.self.now missing; fault = next_missing c.args.self.now short; retired = tt })
      | in_default w ↦ rw w.result-is (record { frame = fault_found c.args.self.now c.in-Err.fault front; fault = next_fails c.args.self.now c.in-Err.fault w.in_default.not-Truncated fault; retired = tt })
    ]
