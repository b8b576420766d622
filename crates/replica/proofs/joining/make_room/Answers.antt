use Rattle.std.proofs.Common.{◌≡◌, Err, refl, ap, inl, inr, ◌∙◌}
use Rattle.member_orset.specs.declared.join_fault.JoinFault.{JoinFault}
use Rattle.member_orset.specs.declared.join_fault.JoinFault.TheVariants.{Conflict, CellsFull, RunsFull, Memory}
use Rattle.member_orset.proofs.Agreeing.{sets_apart}
use Rattle.replica.specs.Fitting.{IsTooFullFor}
use Rattle.replica.proofs.joining.make_room.Goals as goal

-- a delta that agrees is in conflict with nothing, and of the other faults only out of memory isn't reported as full
pub returns-in-Err-clause-full : goal.returns-in-Err-clause-full
returns-in-Err-clause-full c full = by c.in-Err.fault refl
  where
    by : (fault : JoinFault) → c.in-Err.fault ≡ fault → IsTooFullFor c.args.delta.now c.args.change.now
    by Conflict is = absurd (sets_apart c.args.delta.now.members c.args.change.now.members c.requires (c.prepare.ensures.refusals.conflict.0 (c.in-Err.is ∙ ap Err is)))
    by CellsFull is = inl (c.prepare.ensures.refusals.cells_full.0 (c.in-Err.is ∙ ap Err is)).1
    by RunsFull is = inr (c.prepare.ensures.refusals.runs_full.0 (c.in-Err.is ∙ ap Err is)).2
    by Memory is = absurd (let no_memory = c.refusal_of.ensures.memory is in cc (full, no_memory))
