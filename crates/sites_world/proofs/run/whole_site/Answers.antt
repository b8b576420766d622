use Rattle.std.proofs.Common.{refl, [], ◌∷◌, ◌++◌, Ok, Some, length, sym, ap, subst, ◌∙◌}
use Rattle.replica.specs.Steps.{after_frame}
use Rattle.sites_world.specs.declared.outcome.Outcome.TheVariants.{Cut}
use Rattle.sites_world.specs.SiteOutcomes.{IsFramedSo}
use Rattle.sites_world.proofs.OutcomeAnswers.{reported_frame}
use Rattle.sites_world.specs.Conditions.{ComesOfWhole}
use Rattle.sites_world.proofs.OutcomesByConditions.{number_left}
use Rattle.sites_world.proofs.run.whole_site.Goals as goal

-- the frame is the last of the pool
pub returns-in-Ok-clause-meaning : goal.returns-in-Ok-clause-meaning
returns-in-Ok-clause-meaning c = λ s stands.
    let new = c.whole.new.self in
    let old = c.args.pool.now.items in
    let pool = c.put_frame.new.pool.items in
    let meant = c.in-Ok.ensures.meaning s stands in
    let has = c.in-Ok.ensures.frame in
    let grown = c.put_frame.ensures.pool ∙ ap (λ fs. fs ++ c.in-Ok.frame ∷ []) c.make_room.ensures.pool in
    let reported = c.put_frame.ensures.outcome ∙ ap (λ fs. Cut (Ok (Some (length fs)))) c.make_room.ensures.pool in
    subst (IsFramedSo new s old pool (after_frame s s.known s.buffer)) (sym reported)
    (reported_frame new s old pool (after_frame s s.known s.buffer) c.in-Ok.frame meant.0 meant.1 (has.heading.maker ∙ sym has.site) c.in-Ok.ensures.in_ranges grown)

-- the pool has the frame of all
pub returns-in-Ok-clause-conditions : goal.returns-in-Ok-clause-conditions
returns-in-Ok-clause-conditions c =
    let replica = c.args.replica.now in
    let new = c.whole.new.self in
    let old = c.args.pool.now.items in
    let frame = c.in-Ok.frame in
    let has = c.in-Ok.ensures.frame in
    let reported = c.put_frame.ensures.outcome ∙ ap (λ fs. Cut (Ok (Some (length fs)))) c.make_room.ensures.pool in
    record {
      added = frame ∷ [];
      comes = subst (λ o. ComesOfWhole (length old) replica o new (frame ∷ [])) (sym reported)
          (refl, frame, refl, record { left = number_left replica frame has.heading c.in-Ok.ensures.in_ranges; made = has });
      is = c.put_frame.ensures.pool ∙ ap (λ fs. fs ++ frame ∷ []) c.make_room.ensures.pool;
    }
