use Rattle.std.proofs.Common.{◌∙◌, ap, sym, subst}
use Rattle.status_report.specs.Knowing.{answer_in}
use Rattle.sites_world.specs.Outcomes.{changes_nothing}
use Rattle.sites_world.specs.SiteOutcomes.{IsAnsweredSo}
use Rattle.sites_world.proofs.OutcomeAnswers.{reported_answer}
use Rattle.sites_world.proofs.Unchanged.{answered_unchanged}
use Rattle.sites_world.specs.Conditions.{ComesOfAsk}
use Rattle.sites_world.proofs.OutcomesByConditions.{asked_comes}
use Rattle.sites_world.proofs.run.ask_site.Goals as goal

-- the outcome is that of the answer
pub returns-clause-meaning : goal.returns-clause-meaning
returns-clause-meaning c = λ s stands.
    let old = c.args.replica.now in
    let new = c.ask.new.replica in
    subst (IsAnsweredSo new s (answer_in old.site old.names s c.args.asked)) (sym c.answer_outcome.ensures)
    (reported_answer old new s c.args.asked c.ask.result stands (c.ask.ensures.meaning s stands))

pub returns-clause-unchanged : goal.returns-clause-unchanged
returns-clause-unchanged c = λ nothing.
    answered_unchanged c.args.replica.now c.ask.new.replica c.args.asked c.ask.result c.ask.ensures.command c.ask.ensures.status_unchanged
    (ap changes_nothing (sym c.answer_outcome.ensures) ∙ nothing)

-- the outcome meets the conditions of the ask
pub returns-clause-conditions : goal.returns-clause-conditions
returns-clause-conditions c =
    let old = c.args.replica.now in
    let new = c.ask.new.replica in
    subst (λ o. ComesOfAsk old c.args.asked o new) (sym c.answer_outcome.ensures)
    (asked_comes old new c.args.asked c.ask.result c.ask.ensures.command c.ask.ensures.status c.ask.ensures.status_unchanged)
