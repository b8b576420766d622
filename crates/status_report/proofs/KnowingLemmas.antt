-- The status text of a knowledge depends on what it contains alone, and an answer is one step of a site.
use Rattle.std.proofs.Common.{inl, inr, refl}
use Rattle.dots.specs.declared.calls.Calls.TheVariants.{Completed, Abandoned}
use Rattle.operations.proofs.RowLaws.{show_the_same}
use Rattle.replica.specs.Site.{SiteState}
use Rattle.replica.specs.Standing.{StandsFor}
use Rattle.replica.specs.Steps.{SiteKnowledge}
use Rattle.replica.proofs.StandingSites.{unchanged_stands}
use Rattle.status_report.specs.declared.asks.Answer.{Answer}
use Rattle.status_report.specs.Knowing.{IsAnswered, IsOneStep, SameStatusTexts}
use Rattle.status_report.specs.Status.{status_text}

pub same_status : SameStatusTexts
same_status k l names request ok same =
    let shows = show_the_same k l ok same in
    λ i. status_text names (λ queue. record { completed = shows.queue_totals queue Completed i; abandoned = shows.queue_totals queue Abandoned i }) (λ queue. shows.rows queue i) request

-- an answer is one step of the site
pub one_step : (old new : SiteState) (s : SiteKnowledge) (answer : Answer) (reported : SiteKnowledge × Answer) → StandsFor old s → IsAnswered old new answer reported
    → IsOneStep new answer s reported
one_step old new s answer reported stands (inl h) = record { after = reported.0; stands = h.0; comes = inl (λ i. (reported.0, h.1 i)) }
one_step old new s answer reported stands (inr h) = record {
  after = s;
  stands = unchanged_stands old new s stands h.0;
  comes = inr (refl, h.1);
}
