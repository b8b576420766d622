use Rattle.std.proofs.Common.{rules, ◌≡◌, ◌∙◌, ap, sym}
use Rattle.ami_session.specs.Checks.{answer_reply}
use Rattle.serve.proofs.AskSteps.{all_said, ask_done, front_said, none_said}
use Rattle.serve.proofs.replying.answer_ask.Goals as goal

pub returns-in-Ok-answer : goal.returns-in-Ok-answer
returns-in-Ok-answer g c =
    let text : c.deref.result.now ≡ answer_reply c.args.pending c.in-Ok.answer = c.deref.ensures.value ∙ c.in-Ok-answer.ensures.reply in
    let done = ask_done g.D.Desk.answers c.args.ask c.args.pending c.in-Ok.answer c.args.desk.now c.ask.new.self c.deref.result.now c.in-Ok.ensures.answered text in
    record {
      performed = record {
        said = all_said g.D.Desk.answers _ _ _ _ _ c.deref.result.now c.write-in-Ok-answer.result done c.write-in-Ok-answer.ensures.written;
        writer = c.write-in-Ok-answer.ensures.writer;
        fault = front_said g.D.Desk.answers g.D.Desk.refuses _ _ _ _ _ c.deref.result.now c.write-in-Ok-answer.result done c.write-in-Ok-answer.ensures.fault c.write-in-Ok-answer.ensures.begun;
      };
    }

pub returns : goal.returns
returns g c = record {
  performed = record {
    said = tt;
    writer = search rules;
    fault = none_said g.D.Desk.answers c.args.ask c.args.pending c.in-Ok.answer c.args.desk.now c.ask.new.self _ c.in-Ok.ensures.answered;
  };
}

-- a report is the reply
pub returns-in-Report : goal.returns-in-Report
returns-in-Report g c =
    let text : c.as_slice.result.now ≡ answer_reply c.args.pending c.in-Ok.answer = c.as_slice.ensures ∙ ap (answer_reply c.args.pending) (sym c.in-Report.is) in
    let done = ask_done g.D.Desk.answers c.args.ask c.args.pending c.in-Ok.answer c.args.desk.now c.ask.new.self c.as_slice.result.now c.in-Ok.ensures.answered text in
    record {
      performed = record {
        said = all_said g.D.Desk.answers _ _ _ _ _ c.as_slice.result.now c.write.result done c.write.ensures.written;
        writer = c.write.ensures.writer;
        fault = front_said g.D.Desk.answers g.D.Desk.refuses _ _ _ _ _ c.as_slice.result.now c.write.result done c.write.ensures.fault c.write.ensures.begun;
      };
    }
