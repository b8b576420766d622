use Rattle.std.proofs.Common.{◌≡◌, ◌∙◌, ◌-◌, List, length, take, drop, ap, subst, sym, arith}
use Rattle.std.proofs.lemmas.List.{length-drop, take_all}
use Rattle.site_journal.specs.declared.step.Step.{Step}
use Rattle.stored_desk.specs.Recorded.{IsGroupOfRest, IsLegalHistory}
use Rattle.stored_desk.proofs.Recording.{legal_now, rest_behind}
use Rattle.stored_desk.proofs.recorded_site.RecordedSite.rest.Goals as goal

pub returns-in-Ok-clause-rest : goal.returns-in-Ok-clause-rest
returns-in-Ok-clause-rest g c =
    let start = c.start-start.ensures.value ∙ ap (λ s. s.start) c.journal-journal.ensures.journal in
    let steps = c.steps-steps.ensures ∙ ap (λ s. s.steps) c.journal-journal.ensures.journal in
    let list : List Step = c.steps-steps.result.now in
    let behind = c.args.saved - c.start-start.result in
    let rest = rest_behind g.L.SiteLedger.base c.self.inside.prefix list c.self.inside.journal c.start-start.result c.args.saved (c.self.invariant c.if-self.false) start steps c.if-saved-start.false c.if-saved-start-2.false in
    let all : take (length list - behind) (drop behind list) ≡ drop behind list = take_all (length list - behind) (drop behind list) (omega (arith, length-drop behind list)) in
    subst (λ (l : List Step). IsGroupOfRest g.S.StepStore.groups c.in-Ok.group l c.args.saved) (sym c.again.ensures)
    (record { rest = drop behind list; groups = subst (λ (l : List Step). g.S.StepStore.groups c.in-Ok.group l) all c.in-Ok.ensures; is_rest = rest })

pub returns-in-Ok-clause-legal : goal.returns-in-Ok-clause-legal
returns-in-Ok-clause-legal g c = subst (IsLegalHistory g.L.SiteLedger.base) (sym c.again.ensures) (legal_now g.L.SiteLedger.base c.self.inside.prefix c.self.inside.journal (c.self.invariant c.if-self.false))
