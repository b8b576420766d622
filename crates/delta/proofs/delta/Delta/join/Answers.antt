use Rattle.std.proofs.Common.{◌≡◌, Result, Err, ap, ◌∙◌}
use Rattle.member_orset.specs.declared.join_fault.JoinFault.{JoinFault}
use Rattle.delta.specs.DeltaStates.{DeltaState}
use Rattle.delta.specs.Joining.{IsRefusedJoin}
use Rattle.delta.proofs.delta.Delta.join.Goals as goal

abbrev Answer : Type 0
Answer = Result (Unit {0}) JoinFault

one_fault : (r : Answer) (e f : JoinFault) → r ≡ Err e → r ≡ Err f → e ≡ f
one_fault r e f p q = cc

-- the fault that came is the one that the delta is refused for
refused : (d x : DeltaState) (r : Answer) (e : JoinFault) → r ≡ Err e → IsRefusedJoin d x (λ f. r ≡ Err f) → IsRefusedJoin d x (λ f. e ≡ f)
refused d x r e is all = record {
  conflict = (λ h. all.conflict.0 (is ∙ ap Err h), λ h. one_fault r e _ is (all.conflict.1 h));
  cells_full = (λ h. all.cells_full.0 (is ∙ ap Err h), λ h. one_fault r e _ is (all.cells_full.1 h));
  runs_full = (λ h. all.runs_full.0 (is ∙ ap Err h), λ h. one_fault r e _ is (all.runs_full.1 h));
}

pub returns-in-Err-clause-refusals : goal.returns-in-Err-clause-refusals
returns-in-Err-clause-refusals c = refused c.args.self.now c.args.other c.prepare.result c.in-Err.fault c.in-Err.is c.prepare.ensures.refusals
