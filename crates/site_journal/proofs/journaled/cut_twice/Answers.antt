use Rattle.std.proofs.Common.{IfSome, Some, None, sym, subst, ◌∙◌, true≢false, arith}
use Rattle.delta.specs.DeltaStates.{IsEmpty}
use Rattle.delta_codec.proofs.FrameLaws.{spells_same_in}
use Rattle.replica.specs.Framing.{HasCut}
use Rattle.replica.proofs.SameSites.{site_itself}
use Rattle.replica.proofs.StandingSites.{equal_same}
use Rattle.site_journal.specs.declared.step.StepDeed.TheVariants.{Cut}
use Rattle.site_journal.proofs.Leading.{does}
use Rattle.site_journal.proofs.journaled.cut_twice.Goals as goal

-- there is nothing to cut
pub returns-then-is_empty-clause-leads : goal.returns-then-is_empty-clause-leads
returns-then-is_empty-clause-leads c =
    let old = c.args.replica.now in
    does old old (Cut None) (subst IsEmpty c.pending.ensures.value (c.is_empty.ensures.0 c.if-is_empty.true), site_itself old)

-- the bytes that were made spell what was cut
pub returns-clause-leads : goal.returns-clause-leads
returns-clause-leads c =
    let old = c.args.replica.now in
    let new = c.cut.new.self in
    let frame = c.in-Ok-Some.frame in
    let made : HasCut old frame new = subst (λ x. IfSome x (λ f. HasCut old f new)) c.in-Ok-Some.field-0-is c.in-Ok-Some.ensures.frame in
    let spelled = spells_same_in _ _ frame c.in_ok-kept.kept c.in_ok-kept.ensures.spelled (record {
      maker = c.site.ensures ∙ sym made.heading.maker;
      number = (let e = made.heading.number in let f = c.last-number.ensures.frames in omega (arith, e, f));
      delta = equal_same c.pending-2.result.now frame.delta (made.delta ∙ sym c.pending-2.ensures.value);
    }) in
    let some : IsEmpty old.pending → ⊥ = λ e. true≢false (sym (c.is_empty.ensures.1 (subst IsEmpty (sym c.pending.ensures.value) e)) ∙ c.if-is_empty.false) in
    does old new (Cut (Some c.in_ok-kept.kept)) (record { frame = frame; spelled = spelled; done = record { some = some; left = c.requires some; made = made } })
