use Rattle.std.proofs.Common.{refl, sym, ap, ◌∙◌}
use Rattle.status_report.specs.declared.asks.Answer.TheVariants.{Report}
use Rattle.status_report.specs.declared.asks.Ask.TheVariants.{Status}
use Rattle.status_report.proofs.KnowingLemmas.{same_status}
use Rattle.sites_world.specs.declared.event.Event.TheVariants as event
use Rattle.sites_world.specs.declared.outcome.Outcome.TheVariants.{Answered}
use Rattle.sites_world.specs.Histories.{Known}
use Rattle.sites_world.specs.Worlds.{happens_where}
use Rattle.sites_world.proofs.KnownTogether.{alone}
use Rattle.sites_world.proofs.SteppedHistories.{reached_history}
use Rattle.sites_world.proofs.laws.sites_that_know_the_same_have_the_same_status.Goals as goal

pub returns : goal.returns
returns c = record {
  status = λ names sites w k l request reached ik. same_status k l names request (alone names w k (reached_history names sites w reached) ik);
  answers = λ names sites w v site other s t request reached here there same.
      let ok = alone names w s.known (reached_history names sites w reached) (Known site s here refl) in
      ap (λ x. (happens_where names w site x (event.Ask site (Status request))).1) here
      ∙ ap (λ text. Answered (Report text)) (same_status s.known t.known names request ok same)
      ∙ ap (λ x. (happens_where names v other x (event.Ask other (Status request))).1) (sym there);
}
