-- The effect of the event of each deed.
use Rattle.std.proofs.Common.{◌≡◌, inl, inr, ℕ, List, [], ◌∷◌, ◌++◌, length, slice_get, Some, None, Result, refl, sym, ap, subst, ◌∙◌}
use Rattle.delta.specs.declared.frame.Frame.{Frame}
use Rattle.delta_codec.specs.Frames.{SpellsIn}
use Rattle.delta_codec.specs.declared.limits.TheConstants.{VERSION}
use Rattle.delta_codec.proofs.FrameLaws.{one_frame}
use Rattle.replica.specs.declared.command.Command.{Command}
use Rattle.replica.specs.declared.refusal.Refusal.{Refusal}
use Rattle.replica.specs.Changes.{Makes, Meaning, Refused, change_of}
use Rattle.replica.specs.Commands.{Follows}
use Rattle.replica.specs.Deeds.{IsTakeDeed}
use Rattle.replica.specs.Framing.{IsFramed}
use Rattle.replica.specs.Site.{IsSameSite, SiteState, meaning_at}
use Rattle.replica.specs.Standing.{StandsFor, result_of}
use Rattle.replica.specs.Steps.{Do, Outcome, SiteKnowledge, after_frame, cut, step, take}
use Rattle.replica.proofs.FramedSites.{cut_means, nothing_cut, whole_means}
use Rattle.replica.proofs.SameSites.{same_site_stands}
use Rattle.replica.proofs.StandingSites.{follows_means}
use Rattle.replica.proofs.TakenCopies.{taken_same}
use Rattle.replica.proofs.TakenSites.{take_meant}
use Rattle.status_report.specs.declared.asks.Answer.{Answer}
use Rattle.status_report.specs.declared.asks.Answer.TheVariants.{Report}
use Rattle.status_report.specs.declared.asks.Ask.{Ask}
use Rattle.status_report.specs.declared.asks.Ask.TheVariants as ask
use Rattle.status_report.specs.Answers.{answer_of}
use Rattle.status_report.specs.Knowing.{answer_in, status_in}
use Rattle.status_report.proofs.AskLemmas.{report_is}
use Rattle.site_journal.specs.declared.step.StepDeed.{StepDeed}
use Rattle.site_journal.specs.declared.step.StepDeed.TheVariants.{Asked, Took, Cut, Whole}
use Rattle.site_journal.specs.Legal.{IsAsked, IsCut, IsTook, IsWhole, Leads}
use Rattle.sites_world.specs.declared.event.Event.{Event}
use Rattle.sites_world.specs.declared.event.Event.TheVariants as event
use Rattle.sites_world.specs.declared.outcome.Outcome.TheVariants as outcome
use Rattle.sites_world.specs.Holding.{MayTakeEntries}
use Rattle.sites_world.specs.Worlds.{Entry, IsReached, World, entries_of, frame_result, framed, happens, happens_at, site_of, take_result, taken}
use Rattle.sites_world.specs.WorldStates.{IsSiteOf}
use Rattle.site_audit.specs.Places.{AreSpelled}
use Rattle.site_audit.specs.Replays.{made_by}
use Rattle.site_audit.specs.Runs.{GivesDeed, IsSpelling, IsSpelledAt, MakesBytes}
use Rattle.site_audit.proofs.Lists.{get_last}
use Rattle.site_audit.proofs.Advance.{happens_known}

-- the effect of an event is that of a deed
pub record Comes (names : List (List ℕ)) (w : World) (s : SiteKnowledge) (e : Event) (deed : StepDeed) (to : SiteState) : Type 0 where
  pub gives : GivesDeed names w e deed
  pub is : IsSiteOf names (site_of e) to (happens_at names w.pool s e).site
  pub added : AreSpelled (made_by deed) (happens_at names w.pool s e).added

-- a site that says the same
pub same_site_of : (names : List (List ℕ)) (site : ℕ) (old new : SiteState) (s : SiteKnowledge) → IsSiteOf names site old s → IsSameSite old new → IsSiteOf names site new s
same_site_of names site old new s is same = record { site = same.site ∙ is.site; names_are = same.names ∙ is.names_are; stands = same_site_stands old new s is.stands same }

-- what follows a meaning is at the same site, with the same queues
follows_site : (old new : SiteState) (meant : Meaning) (result : Result (Unit {0}) Refusal) → Follows old meant new result → (new.site ≡ old.site) × (new.names ≡ old.names)
follows_site old new (Makes o) result f = (f.1.site, f.1.names)
follows_site old new (Refused refusal) result f = (f.1.site, f.1.names)

module _ (names : List (List ℕ)) (w : World) (s : SiteKnowledge) (site : ℕ) (from to : SiteState) (knows : slice_get w.sites site ≡ Some s) (is : IsSiteOf names site from s) where
  -- a site after a step, of the same number and queues
  after : (old new : SiteState) (t : SiteKnowledge) → IsSiteOf names site old s → new.site ≡ old.site → new.names ≡ old.names → StandsFor new t → IsSameSite new to → IsSiteOf names site to t
  after old new t was number list stands same = same_site_of names site new to t (record { site = number ∙ was.site; names_are = list ∙ was.names_are; stands = stands }) same

  -- a frame that was made
  made_comes : (e : Event) (deed : StepDeed) (bytes : List ℕ) (frame : Frame) (done : SiteKnowledge × Outcome) → site_of e ≡ site
      → happens_at names w.pool s e ≡ framed (site_of e) (length w.pool) done → (MakesBytes names w e bytes → GivesDeed names w e deed) → made_by deed ≡ Some bytes
      → IsSiteOf names site to done.0 → IsFramed frame done.1 → frame.maker ≡ site → SpellsIn VERSION frame bytes → Comes names w s e deed to
  made_comes e deed bytes frame done of happening gives made stands said maker spelled =
      let entry : Entry = record { maker = site_of e; number = frame.number; carried = said.says } in
      let spelling : IsSpelling bytes entry = record { frame = frame; maker = maker ∙ sym of; number = refl; says = said.stands; spelled = spelled } in
      let at : slice_get w.sites (site_of e) ≡ Some s = ap (slice_get w.sites) of ∙ knows in
      let added : (happens_at names w.pool s e).added ≡ entry ∷ [] = ap (λ h. h.added) happening ∙ ap (entries_of (site_of e)) said.outcome_is in
      let now : (happens names w e).0.pool ≡ w.pool ++ entry ∷ [] = ap (λ x. x.0.pool) (happens_known names w e s at) ∙ ap (λ a. w.pool ++ a) added in
      record {
        gives = gives (record {
          place = length w.pool;
          outcome = ap (λ x. x.1) (happens_known names w e s at) ∙ ap (λ h. h.outcome) happening ∙ ap (λ o. outcome.Cut (frame_result (length w.pool) o)) said.outcome_is;
          spelled = record { entry = entry; is = ap (λ p. slice_get p (length w.pool)) now ∙ get_last w.pool entry; spelling = spelling };
        });
        is = subst (λ n. IsSiteOf names n to (happens_at names w.pool s e).site) (sym of) (subst (λ h. IsSiteOf names site to h.site) (sym happening) stands);
        added = subst (λ m. AreSpelled m (happens_at names w.pool s e).added) (sym made) (entry, added, spelling);
      }

  -- a cut with a frame
  pub cut_comes : (bytes : List ℕ) → Leads from (Cut (Some bytes)) to → Comes names w s (event.Cut site) (Cut (Some bytes)) to
  cut_comes bytes l =
      let d : IsCut l.old bytes l.new = l.done in
      let was = same_site_of names site from l.old s is l.before in
      let c = cut_means l.old l.old l.new d.frame s refl was.stands d.done.some d.done.left d.done.made in
      made_comes (event.Cut site) (Cut (Some bytes)) bytes d.frame (cut s s.buffer) refl refl (λ m. m) refl
      (after l.old l.new (cut s s.buffer).0 was d.done.made.site d.done.made.names c.0 l.after) c.1 (d.done.made.heading.maker ∙ was.site) d.spelled

  -- a frame of all
  pub whole_comes : (bytes : List ℕ) → Leads from (Whole bytes) to → Comes names w s (event.Whole site) (Whole bytes) to
  whole_comes bytes l =
      let d : IsWhole l.old bytes l.new = l.done in
      let was = same_site_of names site from l.old s is l.before in
      let c = whole_means l.old l.old l.new d.frame s refl was.stands d.done.left d.done.made in
      made_comes (event.Whole site) (Whole bytes) bytes d.frame (after_frame s s.known s.buffer) refl refl (λ m. m) refl
      (after l.old l.new (after_frame s s.known s.buffer).0 was d.done.made.site d.done.made.names c.0 l.after) c.1 (d.done.made.heading.maker ∙ was.site) d.spelled

  -- a cut of nothing
  pub empty_comes : Leads from (Cut None) to → Comes names w s (event.Cut site) (Cut None) to
  empty_comes l =
      let was = same_site_of names site from l.old s is l.before in
      let c = nothing_cut l.old s was.stands l.done.0 in
      let all : IsSiteOf names site to s = same_site_of names site l.new to s (same_site_of names site l.old l.new s was l.done.1) l.after in
      record {
        gives = ap (λ x. x.1) (happens_known names w (event.Cut site) s knows) ∙ ap (λ (a : SiteKnowledge × Outcome). outcome.Cut (frame_result (length w.pool) a.1)) c;
        is = subst (λ (a : SiteKnowledge × Outcome). IsSiteOf names site to a.0) (sym c) all;
        added = ap (λ (a : SiteKnowledge × Outcome). entries_of site a.1) c;
      }

  -- a take of the entry that these bytes spell
  pub take_comes : MayTakeEntries → (sites : ℕ) → IsReached names sites w → (bytes : List ℕ) (place : ℕ) → IsSpelledAt w.pool place bytes → Leads from (Took bytes) to
      → Comes names w s (event.Take site place) (Took bytes) to
  take_comes may sites reached bytes place found l =
      let d : IsTook l.old bytes l.new = l.done in
      let was = same_site_of names site from l.old s is l.before in
      let same = one_frame d.frame found.spelling.frame bytes d.spelled found.spelling.spelled.spells in
      let deed : IsTakeDeed l.old found.spelling.frame.delta l.new = taken_same d.frame.delta found.spelling.frame.delta same.delta l.old l.new d.done in
      let later = (may names sites w site place l.old s found.entry reached knows was found.is).none_later in
      let c = take_meant l.old found.spelling.frame.delta s found.entry.carried was.stands found.spelling.says l.new deed.may deed.taken later in
      record {
        gives = (
          ap (λ x. x.1) (happens_known names w (event.Take site place) s knows) ∙ ap (λ o. (taken s o).outcome) found.is ∙ ap (λ o. outcome.Took (take_result o)) c.1,
          found,
        );
        is = subst (λ o. IsSiteOf names site to (taken s o).site) (sym found.is)
            (after l.old l.new (take s found.entry.carried).0 was d.done.taken.site d.done.taken.names c.0 l.after);
        added = ap (λ o. (taken s o).added) found.is;
      }

  -- an ask
  pub ask_comes : (asked : Ask) (answer : Answer) → Leads from (Asked asked answer) to → Comes names w s (event.Ask site asked) (Asked asked answer) to
  ask_comes asked answer l = record {
    gives = (refl, ap (λ x. x.1) (happens_known names w (event.Ask site asked) s knows) ∙ ap outcome.Answered (by asked l.done).0);
    is = same_site_of names site l.new to _ (by asked l.done).1 l.after;
    added = refl;
  }
    where
      was : IsSiteOf names site l.old s
      was = same_site_of names site from l.old s is l.before

      -- a command that was answered by its meaning
      done : (command : Command) (result : Result (Unit {0}) Refusal) → answer ≡ answer_of result
          → StandsFor l.new (step l.old.site l.old.names s (Do (change_of command))).0 × (result ≡ result_of (step l.old.site l.old.names s (Do (change_of command))).1)
          → l.new.site ≡ l.old.site → l.new.names ≡ l.old.names
          → ((answer_in site names s (ask.Command command)).1 ≡ answer) × IsSiteOf names site l.new (answer_in site names s (ask.Command command)).0
      done command result reported c number list =
          let at : step l.old.site l.old.names s (Do (change_of command)) ≡ step site names s (Do (change_of command)) =
          ap (λ n. step n l.old.names s (Do (change_of command))) was.site ∙ ap (λ n. step site n s (Do (change_of command))) was.names_are in (
            sym (reported ∙ ap answer_of c.1 ∙ ap (λ (x : SiteKnowledge × Outcome). answer_of (result_of x.1)) at),
            record { site = number ∙ was.site; names_are = list ∙ was.names_are; stands = subst (λ (x : SiteKnowledge × Outcome). StandsFor l.new x.0) at c.0 },
          )

      by : (a : Ask) → IsAsked l.old a answer l.new → ((answer_in site names s a).1 ≡ answer) × IsSiteOf names site l.new (answer_in site names s a).0
      by (ask.Command command) (result, reported, some, inl follows) =
          let kept = follows_site l.old l.new (meaning_at l.old (change_of command)) result follows in
          done command result reported (follows_means l.old l.new s (change_of command) result was.stands follows) kept.0 kept.1
      by (ask.Command command) (result, reported, some, inr none) = absurd (some none.1)
      by (ask.Status request) h =
          (sym (h.0 ∙ ap Report (report_is l.old s was.stands request ∙ ap (λ n. status_in s.known n request) was.names_are)), same_site_of names site l.old l.new s was h.1)
