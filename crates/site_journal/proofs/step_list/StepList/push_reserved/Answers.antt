use Rattle.std.proofs.Common.{◌-◌, ◌^◌, List, min, sym, ap, ◌∙◌}
use Rattle.site_journal.specs.Keeping.{kept_by_steps}
use Rattle.site_journal.specs.declared.step.Step.{Step}
use Rattle.site_journal.proofs.KeptSteps.{kept_more}
use Rattle.site_journal.proofs.step_list.StepList.push_reserved.Goals as goal

-- one step more
pub invariant_of-self : goal.invariant_of-self
invariant_of-self c = let most = 2 ^ 64 - 1 in record {
  counted = c.saturating_add-self.ensures
      ∙ kept_more c.args.self.now.steps.items c.args.step _ _ most c.args.self.now.counted c.kept_by_deed.ensures
      ∙ ap (λ (items : List Step). min (kept_by_steps items) most) (sym c.push_reserved.ensures.items);
}
