use Rattle.std.proofs.Common.{◌≡◌, List, ℕ, Result, Err, IfErr, inl, inr, refl, rules, subst, sym}
use Rattle.ask_code.specs.declared.answered.AnsweredCommand.{AnsweredCommand}
use Rattle.ask_code.specs.declared.ask_fault.AskFault.{AskFault}
use Rattle.ask_code.specs.Asks.{HasFault}
use Rattle.ask_code.proofs.coding.read_ask.Goals as goal

pub returns-in_err-command-clause-fault : goal.returns-in_err-command-clause-fault
returns-in_err-command-clause-fault c =
    let same : c.from_residual.result ≡ Err c.in_err-command.field-0.0 = search rules in
    subst (λ (r : Result AnsweredCommand AskFault). IfErr r (λ fault. HasFault fault c.args.bytes.now)) (sym same)
    (subst (λ (l : List ℕ). HasFault c.in_err-command.field-0.0 l) c.new-reader.ensures (inl c.in_err-command.ensures.fault))

pub returns-then-not-is_at_end-clause-fault : goal.returns-then-not-is_at_end-clause-fault
returns-then-not-is_at_end-clause-fault c = inr (record {
  value = (c.in_ok-command.command, c.in_ok-command.answer);
  rest = c.read.new.reader;
  good = search rules;
  spelled = search rules;
  next = (search rules, refl);
})
