use Rattle.std.proofs.Common.{◌∙◌, ap, subst, sym, List}
use Rattle.replica.specs.Site.{IsSameSite, SiteState}
use Rattle.site_journal.specs.Legal.{LeadAll}
use Rattle.site_journal.specs.declared.step.Step.{Step}
use Rattle.stored_desk.proofs.Recording.{copy_lead}
use Rattle.stored_desk.proofs.recorded_site.RecordedSite.copy.Goals as goal

pub returns-in-Ok-clause-lead : goal.returns-in-Ok-clause-lead
returns-in-Ok-clause-lead g c =
    let is = c.replica.ensures.value ∙ ap (λ j. j.replica) c.journal.ensures.journal in
    let same : IsSameSite c.self.inside.journal.replica c.in-Ok.replica = subst (λ (s : SiteState). IsSameSite s c.in-Ok.replica) is c.in-Ok.ensures.same in
    subst (λ (l : List Step). LeadAll g.L.SiteLedger.base l c.in-Ok.replica) (sym c.again.ensures) (copy_lead g.L.SiteLedger.base c.self.inside.prefix c.self.inside.journal c.in-Ok.replica (c.self.invariant c.if-self.false) same)
