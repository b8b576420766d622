use Rattle.std.proofs.Common.{◌≡◌, ◌+◌, suc, refl, sym, subst, arith}
use Rattle.delta.specs.DeltaStates.{IsSame}
use Rattle.delta.specs.Frames.{frame_of}
use Rattle.delta.specs.declared.frame.Frame.{Frame}
use Rattle.delta_codec.proofs.FrameLaws.{spells_same_in}
use Rattle.replica.specs.Framing.{HasCopied}
use Rattle.replica.specs.Site.{SiteState}
use Rattle.site_journal.specs.declared.step.StepDeed.TheVariants.{Whole}
use Rattle.site_journal.proofs.Leading.{does}
use Rattle.site_journal.proofs.journaled.whole_twice.Goals as goal

-- the frame of all that a site knows, under its next number
abbrev whole_frame : SiteState → Frame
whole_frame s = frame_of s.site (suc s.frames) (record s.state { members = record s.state.members { retired = 0 } })

-- a site that has used up its next number has put a copy of its state into that frame
copied : (old new : SiteState) → new ≡ record old { frames = old.frames + 1 } → HasCopied old (whole_frame old) new
copied old new used = subst (HasCopied old (whole_frame old)) (sym used) (record {
  heading = record { maker = refl; number = refl };
  delta = record { conditions = λ _. refl; known = refl; totals = refl };
  none_retired = refl;
  site = refl;
  names = refl;
  state = refl;
  pending = refl;
  last_count = refl;
  last_time = refl;
  frames = omega arith;
})

-- the bytes that were made spell the frame of all
pub returns-clause-leads : goal.returns-clause-leads
returns-clause-leads c =
    let old = c.args.replica.now in
    let new = c.use_frame_number.new.self in
    let frame = whole_frame old in
    let made : HasCopied old frame new = copied old new c.in-Ok.ensures.used in
    let spelled = spells_same_in _ _ frame c.in_ok-kept.kept c.in_ok-kept.ensures.spelled (record {
      maker = c.site.ensures;
      number = (let f = c.last-number.ensures.frames in omega (arith, f));
      delta = subst (λ d. IsSame d frame.delta) (sym c.state.ensures.value) made.delta;
    }) in
    does old new (Whole c.in_ok-kept.kept) (record { frame = frame; spelled = spelled; done = record { left = c.requires; made = made } })
