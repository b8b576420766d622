use Rattle.delta.specs.Frames.{IsInRanges}
use Rattle.std.proofs.Common.{refl, [], ◌∷◌, ◌++◌, IfSome, Ok, Some, length, sym, ap, subst, ◌∙◌}
use Rattle.replica.specs.Framing.{HasCut, IsMeantCut}
use Rattle.replica.specs.Steps.{cut}
use Rattle.sites_world.specs.declared.outcome.Outcome.TheVariants.{Cut}
use Rattle.sites_world.specs.SiteOutcomes.{IsFramedSo}
use Rattle.sites_world.proofs.OutcomeAnswers.{reported_frame}
use Rattle.sites_world.specs.Conditions.{ComesOfCut}
use Rattle.sites_world.proofs.OutcomesByConditions.{number_left, some_cut}
use Rattle.sites_world.proofs.run.cut_site.Goals as goal

-- the frame is the last of the pool
pub returns-in-Ok-Some-clause-meaning : goal.returns-in-Ok-Some-clause-meaning
returns-in-Ok-Some-clause-meaning c = λ s stands.
    let new = c.cut.new.self in
    let old = c.args.pool.now.items in
    let pool = c.put_frame.new.pool.items in
    let meant = subst (λ made. IsMeantCut new (Ok made) (cut s s.buffer)) c.in-Ok-Some.field-0-is (c.in-Ok-Some.ensures.meaning s stands) in
    let has = subst (λ made. IfSome made (λ frame. HasCut c.args.replica.now frame new)) c.in-Ok-Some.field-0-is c.in-Ok-Some.ensures.frame in
    let ranges = subst (λ made. IfSome made (λ frame. IsInRanges frame)) c.in-Ok-Some.field-0-is c.in-Ok-Some.ensures.in_ranges in
    let grown = c.put_frame.ensures.pool ∙ ap (λ fs. fs ++ c.in-Ok-Some.frame ∷ []) c.make_room.ensures.pool in
    let reported = c.put_frame.ensures.outcome ∙ ap (λ fs. Cut (Ok (Some (length fs)))) c.make_room.ensures.pool in
    subst (IsFramedSo new s old pool (cut s s.buffer)) (sym reported)
    (reported_frame new s old pool (cut s s.buffer) c.in-Ok-Some.frame meant.0 meant.1 (has.heading.maker ∙ sym has.site) ranges grown)

-- the pool has the frame of the cut
pub returns-in-Ok-Some-clause-conditions : goal.returns-in-Ok-Some-clause-conditions
returns-in-Ok-Some-clause-conditions c =
    let replica = c.args.replica.now in
    let new = c.cut.new.self in
    let old = c.args.pool.now.items in
    let frame = c.in-Ok-Some.frame in
    let has = subst (λ made. IfSome made (λ frame. HasCut replica frame new)) c.in-Ok-Some.field-0-is c.in-Ok-Some.ensures.frame in
    let ranges = subst (λ made. IfSome made (λ frame. IsInRanges frame)) c.in-Ok-Some.field-0-is c.in-Ok-Some.ensures.in_ranges in
    let reported = c.put_frame.ensures.outcome ∙ ap (λ fs. Cut (Ok (Some (length fs)))) c.make_room.ensures.pool in
    record {
      added = frame ∷ [];
      comes = subst (λ o. ComesOfCut (length old) replica o new (frame ∷ [])) (sym reported) (
        refl,
        frame,
        refl,
        record {
          some = λ empty. some_cut c.in-Ok-Some.field-0 frame c.in-Ok-Some.field-0-is (c.in-Ok-Some.ensures.nothing.1 empty);
          left = number_left replica frame has.heading ranges;
          made = has;
        },
      );
      is = c.put_frame.ensures.pool ∙ ap (λ fs. fs ++ frame ∷ []) c.make_room.ensures.pool;
    }
