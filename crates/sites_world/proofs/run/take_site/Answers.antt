use Rattle.std.proofs.Common.{refl, inl, sym, ap, subst, ◌∙◌, true≢false}
use Rattle.delta.proofs.StandingDeltas.{same_stands}
use Rattle.replica.specs.Steps.{take}
use Rattle.replica.proofs.PlannedCommands.{itself}
use Rattle.replica.proofs.StandingSites.{equal_same}
use Rattle.sites_world.specs.declared.outcome.Outcome.TheVariants.{Took}
use Rattle.sites_world.specs.Outcomes.{changes_nothing}
use Rattle.sites_world.specs.SiteOutcomes.{IsTakenSo}
use Rattle.sites_world.specs.Worlds.{take_result}
use Rattle.sites_world.proofs.OutcomeAnswers.{reported_fault}
use Rattle.sites_world.specs.Conditions.{ComesOfDelta}
use Rattle.sites_world.proofs.OutcomesByConditions.{fault_comes}
use Rattle.sites_world.proofs.run.take_site.Goals as goal
use Rattle.sites_world.proofs.run.take_site.Goals.{in-Ok-take, in-Err}

-- the copy is taken as the frame is
pub returns-clause-meaning : goal.returns-clause-meaning
returns-clause-meaning c = λ s k stands is may.
    let old = c.args.replica.now in
    let new = c.take.new.self in
    let copied = same_stands c.args.frame.now.delta c.in-Ok.copy.delta k c.in-Ok.ensures.same.delta is in
    elim c.match-take.branch [
      | in-Ok-take w ↦
          let meant = w.in-Ok-take.ensures.meaning s k stands copied may.none_later in
          inl (w.result-is ∙ ap (λ x. Took (take_result x)) (sym meant.1), meant.0)
      | in-Err w ↦
          let refused = w.in-Err.ensures.refusals in
          subst (IsTakenSo new s (take s k)) (sym (w.result-is ∙ w.take_fault_outcome.ensures))
          (reported_fault old new s k c.in-Ok.copy.delta w.in-Err.fault may copied stands w.in-Err.ensures.unchanged
          refused.no_such_queue.0 (λ e. (refused.not_mine.0 e).1) (λ e. (refused.conflict.0 e).1) (w.in-Err.ensures.meaning s k stands copied may.none_later))
    ]

-- a take that joins its frame isn't one that changes nothing
pub returns-clause-unchanged : goal.returns-clause-unchanged
returns-clause-unchanged c = λ nothing. elim c.match-take.branch [
  | in-Ok-take w ↦ absurd (true≢false (sym nothing ∙ ap changes_nothing w.result-is))
  | in-Err w ↦ w.in-Err.ensures.unchanged
]

-- the copy was taken, or is too much
pub returns-clause-conditions : goal.returns-clause-conditions
returns-clause-conditions c = λ k is may.
    let old = c.args.replica.now in
    let new = c.take.new.self in
    let copy = c.in-Ok.copy.delta in
    let copied = same_stands c.args.frame.now.delta copy k c.in-Ok.ensures.same.delta is in
    elim c.match-take.branch [
      | in-Ok-take w ↦ (copy, c.in-Ok.ensures.same.delta, subst (λ o. ComesOfDelta old copy o new) (sym w.result-is) (record { may = w.in-Ok-take.ensures.may; taken = w.in-Ok-take.ensures.joined }))
      | in-Err w ↦ (
        copy,
        c.in-Ok.ensures.same.delta,
        subst (λ o. ComesOfDelta old copy o new) (sym (w.result-is ∙ w.take_fault_outcome.ensures))
            (fault_comes old new k copy w.in-Err.fault may copied w.in-Err.ensures.unchanged w.in-Err.ensures.refusals),
      )
    ]

-- no copy was made
pub returns-in_default-clause-conditions : goal.returns-in_default-clause-conditions
returns-in_default-clause-conditions c = λ k is may. (c.args.frame.now.delta, equal_same c.args.frame.now.delta c.args.frame.now.delta refl, itself c.args.replica.now)
