use Rattle.std.proofs.Common.{◌≡◌, ◌∙◌, ◌++◌, [], List, append-nil, false, true≢false, sym, ap, subst}
use Rattle.replica.specs.Site.{IsSameSite, SiteState}
use Rattle.site_journal.specs.Legal.{LeadAll}
use Rattle.site_journal.specs.declared.step.Step.{Step}
use Rattle.stored_desk.specs.Recorded.{IsLegalHistory}
use Rattle.stored_desk.proofs.Recording.{lead_from}
use Rattle.stored_desk.proofs.vault.Vault.put_base.Goals as goal

pub invariant_of-self : goal.invariant_of-self
invariant_of-self g c =
    let list : c.self.inside.prefix ≡ c.args.self.now.list = ap (λ v. v.list) c.self.view_is in
    let well : c.self.inside.is_broken ≡ false = ap (λ v. v.broken) c.self.view_is ∙ c.requires.well in
    let i = c.self.invariant in
    let lead = lead_from (g.S.StepStore.begun c.self.inside.store) g.L.SiteLedger.base c.args.site c.self.inside.prefix i.4 (subst (λ (l : List Step). LeadAll g.L.SiteLedger.base l c.args.site) (sym list) c.requires.lead) in
    let held = i.3 well in
    let both = c.in-Ok-replace_base.ensures.replaced c.self.inside.prefix c.args.site held.0 held.1 c.in-Ok.ensures lead in
    let legal : IsLegalHistory g.L.SiteLedger.base (c.self.inside.prefix ++ []) = subst (λ (l : List Step). IsLegalHistory g.L.SiteLedger.base l) (sym (append-nil c.self.inside.prefix)) i.1 in
    (i.0, i.1, record { more = []; keeps = both.1; legal = legal }, (λ _. both), subst (λ (s : SiteState). IsSameSite s g.L.SiteLedger.base) (sym c.in-Ok-replace_base.ensures.begun) i.4)

pub invariant_of-self-in-Err : goal.invariant_of-self-in-Err
invariant_of-self-in-Err g c =
    let list : c.self.inside.prefix ≡ c.args.self.now.list = ap (λ v. v.list) c.self.view_is in
    let well : c.self.inside.is_broken ≡ false = ap (λ v. v.broken) c.self.view_is ∙ c.requires.well in
    let i = c.self.invariant in
    let lead = lead_from (g.S.StepStore.begun c.self.inside.store) g.L.SiteLedger.base c.args.site c.self.inside.prefix i.4 (subst (λ (l : List Step). LeadAll g.L.SiteLedger.base l c.args.site) (sym list) c.requires.lead) in
    let held = i.3 well in
    let kept = c.in-Err.ensures.kept c.self.inside.prefix c.args.site held.0 held.1 c.in-Ok.ensures lead in
    let legal : IsLegalHistory g.L.SiteLedger.base (c.self.inside.prefix ++ []) = subst (λ (l : List Step). IsLegalHistory g.L.SiteLedger.base l) (sym (append-nil c.self.inside.prefix)) i.1 in
    (i.0, i.1, record { more = []; keeps = kept; legal = legal }, (λ e. absurd (true≢false e)), subst (λ (s : SiteState). IsSameSite s g.L.SiteLedger.base) (sym c.in-Err.ensures.begun) i.4)
