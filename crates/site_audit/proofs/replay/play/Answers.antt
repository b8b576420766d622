use Rattle.std.proofs.Common.{◌≡◌, ◌<◌, ◌+◌, length, slice_index, refl, ap, sym, ◌∙◌, subst, arith, rules, Some, None}
use Rattle.std.proofs.lemmas.Option.{get_or_from_slice_get, slice_get_read}
use Rattle.site_audit.specs.Replays.{HasPut, event_for, found_in}
use Rattle.site_audit.proofs.Playing.{ended_of, next_of, put_plays, site_at, waits_of}
use Rattle.site_audit.proofs.replay.play.Goals as goal

pub returns-then-at-steps : goal.returns-then-at-steps
returns-then-at-steps c = (
  refl,
  ended_of c.args.journals.now c.args.replay.now c.args.place c.index-at.result.now c.index-journals-place.result c.steps-steps.result.now c.requires.kept c.requires.there
      c.index-journals-place.is c.index-at.ensures c.steps-steps.ensures c.if-at-steps.true,
)

pub put-requires-clause-within : goal.put-requires-clause-within
put-requires-clause-within c =
    let site = c.site-site.ensures ∙ ap (λ r. r.site) c.base.ensures ∙ site_at c.args.journals.now c.args.place c.index-journals-place.result c.requires.sites c.requires.there c.index-journals-place.is in
    let low = c.requires.there in
    let many = c.requires.kept.is.places in
    omega (arith, site, low, many)

pub put-requires-clause-fits : goal.put-requires-clause-fits
put-requires-clause-fits c =
    let site = c.site-site.ensures ∙ ap (λ r. r.site) c.base.ensures ∙ site_at c.args.journals.now c.args.place c.index-journals-place.result c.requires.sites c.requires.there c.index-journals-place.is in
    let many = c.requires.kept.is.places in
    let low = c.requires.there in
    let read : slice_index c.args.replay.now.at.items c.args.place ≡ c.index-at.result.now = get_or_from_slice_get c.args.replay.now.at.items c.args.place c.index-at.result.now 0
    (slice_get_read c.args.replay.now.at.items (length c.args.replay.now.at.items) c.args.place c.index-at.result.now refl (omega (arith, many, low)) c.index-at.ensures) in
    subst (λ n. slice_index c.args.replay.now.at.items n + 1 < 18446744073709551616) (sym site) (subst (λ n. n + 1 < 18446744073709551616) (sym read) (search rules))

pub returns-in_ok-put-in-Some : goal.returns-in_ok-put-in-Some
returns-in_ok-put-in-Some c =
    let site = c.site-site.ensures ∙ ap (λ r. r.site) c.base.ensures ∙ site_at c.args.journals.now c.args.place c.index-journals-place.result c.requires.sites c.requires.there c.index-journals-place.is in
    put_plays c.a_site_may_take_every_entry.ensures.entries c.args.journals.now c.args.replay.now c.put.new.self c.args.place c.in-Some.event c.index-steps-at.result.deed c.requires.kept
    (next_of c.args.journals.now c.args.replay.now c.args.place c.index-at.result.now c.index-journals-place.result c.steps-steps.result.now c.index-steps-at.result c.requires.kept c.requires.there
    c.index-journals-place.is c.index-at.ensures c.steps-steps.ensures c.if-at-steps.false c.index-steps-at.is)
    (subst (λ n. event_for (found_in c.args.replay.now.pool) n c.index-steps-at.result.deed ≡ Some c.in-Some.event) site
    (subst (λ d. event_for (found_in c.args.replay.now.pool) c.site-site.result d ≡ Some c.in-Some.event) (sym (ap (λ s. s.deed) c.index-steps-at.is)) (sym c.in_ok-event.ensures ∙ c.in-Some.is)))
    (subst (λ n. HasPut c.args.replay.now c.put.new.self n c.in-Some.event c.index-steps-at.result.deed) site
    (subst (λ d. HasPut c.args.replay.now c.put.new.self c.site-site.result c.in-Some.event d) (sym (ap (λ s. s.deed) c.index-steps-at.is)) c.in_ok-put-in-Some.ensures))

pub returns-in-None : goal.returns-in-None
returns-in-None c =
    let site = c.site-site.ensures ∙ ap (λ r. r.site) c.base.ensures ∙ site_at c.args.journals.now c.args.place c.index-journals-place.result c.requires.sites c.requires.there c.index-journals-place.is in (
      refl,
      waits_of c.args.journals.now c.args.replay.now c.args.place c.index-steps-at.result.deed
          (next_of c.args.journals.now c.args.replay.now c.args.place c.index-at.result.now c.index-journals-place.result c.steps-steps.result.now c.index-steps-at.result c.requires.kept c.requires.there
          c.index-journals-place.is c.index-at.ensures c.steps-steps.ensures c.if-at-steps.false c.index-steps-at.is)
          (subst (λ n. event_for (found_in c.args.replay.now.pool) n c.index-steps-at.result.deed ≡ None) site
          (subst (λ d. event_for (found_in c.args.replay.now.pool) c.site-site.result d ≡ None) (sym (ap (λ s. s.deed) c.index-steps-at.is)) (sym c.in_ok-event.ensures ∙ c.in-None.is))),
    )
