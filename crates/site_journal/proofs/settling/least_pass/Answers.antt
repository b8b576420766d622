use Rattle.std.proofs.Common.{rules, subst, sym, refl, ◌∙◌, ap, ◌++◌, ◌∷◌, [], take}
use Rattle.std.proofs.lemmas.List.{take_more}
use Rattle.site_journal.specs.Settling.{IsLeastPass}
use Rattle.site_journal.proofs.settling.least_pass.Goals as goal

pub loop-step-preserved : goal.loop-step-preserved
loop-step-preserved c =
    subst (λ steps. IsLeastPass c.args.from steps c.lesser-found.result) (sym (take_more c.args.steps.now c.loop-step.step-index c.step-item.result (search rules) ∙ ap (λ s. take c.loop-step.step-index c.args.steps.now ++ s ∷ []) (sym c.step-item.is)))
    (c.lesser-found.ensures _ c.step-item.result refl c.loop-step.invariant)
