use Rattle.std.proofs.Common.{◌≡◌, ◌∙◌, ◌++◌, [], List, length, append-nil, false, true≢false, sym, ap, subst}
use Rattle.replica.specs.Site.{IsSameSite, SiteState}
use Rattle.site_journal.specs.declared.step.Step.{Step}
use Rattle.stored_desk.specs.Recorded.{IsLegalHistory, IsRest}
use Rattle.stored_desk.proofs.Saving.{legal_rest, rest_whole}
use Rattle.stored_desk.proofs.vault.Vault.save.Goals as goal

pub invariant_of-self-2 : goal.invariant_of-self-2
invariant_of-self-2 g c =
    let list : c.self.inside.prefix ≡ c.args.self.now.list = ap (λ v. v.list) c.self.view_is in
    let rest = c.requires.rest in
    let is_rest : IsRest c.args.history rest.rest (length c.self.inside.prefix) = subst (λ (l : List Step). IsRest c.args.history rest.rest (length l)) (sym list) rest.is_rest in
    let all : c.self.inside.prefix ++ rest.rest ≡ c.args.history = sym (rest_whole c.self.inside.prefix c.args.history rest.rest is_rest c.compare.ensures.this) in
    let well : c.self.inside.is_broken ≡ false = ap (λ v. v.broken) c.self.view_is ∙ c.requires.well in
    let legal = legal_rest (g.S.StepStore.begun c.self.inside.store) g.L.SiteLedger.base c.self.inside.prefix rest.rest c.args.history c.self.invariant.4 all c.requires.legal in
    let held = c.self.invariant.3 well in
    let both = c.in-Ok.ensures.added c.self.inside.prefix rest.rest held.0 held.1 rest.groups legal in
    let keeps : g.S.StepStore.keeps c.commit.new.self c.args.history [] = subst (λ (l : List Step). g.S.StepStore.keeps c.commit.new.self l []) all both.1 in (
      c.raise.ensures ∙ c.len.ensures,
      c.requires.legal,
      record { more = []; keeps = keeps; legal = subst (λ (l : List Step). IsLegalHistory g.L.SiteLedger.base l) (sym (append-nil c.args.history)) c.requires.legal },
      λ _. (subst (λ (l : List Step). g.S.StepStore.holds c.commit.new.self l) all both.0, keeps),
      subst (λ (s : SiteState). IsSameSite s g.L.SiteLedger.base) (sym c.in-Ok.ensures.begun) c.self.invariant.4,
    )

pub invariant_of-self : goal.invariant_of-self
invariant_of-self g c =
    let list : c.self.inside.prefix ≡ c.args.self.now.list = ap (λ v. v.list) c.self.view_is in
    let rest = c.requires.rest in
    let is_rest : IsRest c.args.history rest.rest (length c.self.inside.prefix) = subst (λ (l : List Step). IsRest c.args.history rest.rest (length l)) (sym list) rest.is_rest in
    let all : c.self.inside.prefix ++ rest.rest ≡ c.args.history = sym (rest_whole c.self.inside.prefix c.args.history rest.rest is_rest c.compare.ensures.this) in
    let well : c.self.inside.is_broken ≡ false = ap (λ v. v.broken) c.self.view_is ∙ c.requires.well in
    let i = c.self.invariant in
    let legal = legal_rest (g.S.StepStore.begun c.self.inside.store) g.L.SiteLedger.base c.self.inside.prefix rest.rest c.args.history i.4 all c.requires.legal in
    let held = i.3 well in
    let kept = c.in-Err.ensures.kept c.self.inside.prefix rest.rest held.0 held.1 rest.groups legal in
    let legal_all : IsLegalHistory g.L.SiteLedger.base (c.self.inside.prefix ++ rest.rest) = subst (λ (l : List Step). IsLegalHistory g.L.SiteLedger.base l) (sym all) c.requires.legal in
    (i.0, i.1, record { more = rest.rest; keeps = kept; legal = legal_all }, (λ e. absurd (true≢false e)), subst (λ (s : SiteState). IsSameSite s g.L.SiteLedger.base) (sym c.in-Err.ensures.begun) i.4)
