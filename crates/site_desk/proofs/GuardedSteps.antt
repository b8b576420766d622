-- Where a site has come whose journal lies under a lock, and what stays there through each call.
use Rattle.std.proofs.Common.{◌≡◌, ◌∙◌, ◌+◌, ℕ, List, [], ◌∷◌, ◌++◌, length, Result, Ok, Err, OnOk, OnErr, Some, None, inl, inr, sym, ap, subst, arith}
use Rattle.std.proofs.lemmas.List.{length-append}
use Rattle.replica.proofs.SameSites.{equal_site, site_through}
use Rattle.replica.specs.declared.refusal.Refusal.{Refusal}
use Rattle.replica.specs.Changes.{Makes, Meaning, Refused, change_of}
use Rattle.replica.specs.Commands.{Follows, IsDone}
use Rattle.replica.specs.Site.{IsSameSite, SiteState, meaning_at}
use Rattle.status_report.specs.declared.asks.Answer.{Answer}
use Rattle.status_report.specs.declared.asks.Ask.{Ask}
use Rattle.status_report.specs.declared.asks.Ask.TheVariants.{Command as asked_command, Status}
use Rattle.site_journal.specs.Journals.{HasAdded, HasDropped, IsJournal, IsUnchanged, JournalState}
use Rattle.site_journal.specs.Legal.{IsAsked, IsDeed, LeadAll, Leads}
use Rattle.site_journal.specs.declared.step.Step.{Step}
use Rattle.site_journal.specs.declared.step.StepDeed.{StepDeed}
use Rattle.site_journal.specs.declared.step.StepDeed.TheVariants.{Asked, Took, Cut, Whole}
use Rattle.site_desk.specs.Deeds.{IsReached}
use Rattle.site_desk.specs.Guarded.{IsGuarded}

-- steps lead on from a state that says the same
lead_from : (from a to : SiteState) (steps : List Step) → IsSameSite from a → LeadAll a steps to → LeadAll from steps to
lead_from from a to [] same all = site_through from a to same all
lead_from from a to (step ∷ steps) same all =
    (all.0, record { old = all.1.old; new = all.1.new; before = site_through from a all.1.old same all.1.before; done = all.1.done; after = all.1.after }, all.2)

-- steps, and others after them
lead_both : (from mid to : SiteState) (xs ys : List Step) → LeadAll from xs mid → LeadAll mid ys to → LeadAll from (xs ++ ys) to
lead_both from mid to [] ys one two = lead_from from mid to ys one two
lead_both from mid to (x ∷ xs) ys one two = (one.0, one.1, lead_both one.0 mid to xs ys one.2 two)

-- steps lead to a state that says the same
lead_same : (from a b : SiteState) (steps : List Step) → LeadAll from steps a → IsSameSite a b → LeadAll from steps b
lead_same from a b [] all same = site_through from a b all same
lead_same from a b (x ∷ xs) all same = (all.0, all.1, lead_same all.0 a b xs all.2 same)

-- no step leads to another state
no_step : (base s : SiteState) (steps : List Step) → length steps ≡ 0 → LeadAll base steps s → IsSameSite base s
no_step base s [] none all = all
no_step base s (x ∷ xs) none all = absurd (omega (arith, none))

-- a journal that begins
pub reached_new : (base : SiteState) (j : JournalState) → j.base ≡ base → j.count ≡ 0 → IsJournal j → IsReached base j.start j.base
reached_new base j is none legal = record { steps = []; count = omega (arith, legal.counted, none); lead = equal_site base j.base is }

-- the state after a journal's steps
pub reached_now : (base : SiteState) (j : JournalState) → IsJournal j → IsReached base j.start j.base → IsReached base j.count j.replica
reached_now base j legal was = record {
  steps = was.steps ++ j.steps;
  count = omega (arith, length-append was.steps j.steps, was.count, legal.counted);
  lead = lead_both base j.base j.replica was.steps j.steps was.lead legal.legal;
}

-- a journal whose steps were dropped
pub reached_dropped : (base : SiteState) (old new : JournalState) → IsJournal old → HasDropped old new → IsReached base old.start old.base → IsReached base new.start new.base
reached_dropped base old new legal dropped was = let now = reached_now base old legal was in record {
  steps = now.steps;
  count = omega (arith, now.count, dropped.start, legal.counted);
  lead = lead_same base old.replica new.base now.steps now.lead dropped.base;
}

-- a journal of which no steps were dropped
pub begun_dropped : (base : SiteState) (old new : JournalState) → IsJournal old → HasDropped old new → IsReached base old.start old.base → new.start ≡ 0 → IsSameSite base new.base
begun_dropped base old new legal dropped was none = let now = reached_dropped base old new legal dropped was in no_step base new.base now.steps (omega (arith, now.count, none)) now.lead

-- ---- what stays

-- what follows a meaning is at the same site, with the same queues
follows_site : (old new : SiteState) (meant : Meaning) (result : Result (Unit {0}) Refusal) → Follows old meant new result → (new.site ≡ old.site) × (new.names ≡ old.names)
follows_site old new (Makes o) result is = (is.1.site, is.1.names)
follows_site old new (Refused refusal) result is = (is.1.site, is.1.names)

done_site : (old new : SiteState) (meant : Meaning) (result : Result (Unit {0}) Refusal) → IsDone old meant new result → (new.site ≡ old.site) × (new.names ≡ old.names)
done_site old new meant result (inl is) = follows_site old new meant result is
done_site old new meant result (inr is) = (is.0.site, is.0.names)

asked_site : (old new : SiteState) (asked : Ask) (answer : Answer) → IsAsked old asked answer new → (new.site ≡ old.site) × (new.names ≡ old.names)
asked_site old new (asked_command command) answer is = done_site old new (meaning_at old (change_of command)) is.0 is.3
asked_site old new (Status request) answer is = (is.1.site, is.1.names)

deed_site : (old new : SiteState) (deed : StepDeed) → IsDeed old deed new → (new.site ≡ old.site) × (new.names ≡ old.names)
deed_site old new (Asked asked answer) is = asked_site old new asked answer is
deed_site old new (Took bytes) is = (is.done.taken.site, is.done.taken.names)
deed_site old new (Cut None) is = (is.1.site, is.1.names)
deed_site old new (Cut (Some bytes)) is = (is.done.made.site, is.done.made.names)
deed_site old new (Whole bytes) is = (is.done.made.site, is.done.made.names)

-- a deed leads to a state of the same site, with the same queues
led_site : (from to : SiteState) (deed : StepDeed) → Leads from deed to → (to.site ≡ from.site) × (to.names ≡ from.names)
led_site from to deed l = let is = deed_site l.old l.new deed l.done in (l.after.site ∙ (is.0 ∙ l.before.site), l.after.names ∙ (is.1 ∙ l.before.names))

-- the base stays, and how many steps were dropped
module _ (site : ℕ) (names : List (List ℕ)) (limit : ℕ) (base : SiteState) (total : ℕ) (old : JournalState) (legal : IsJournal old) (was : IsGuarded site names limit base total old) where
  guarded_still : (counted : ℕ) (new : JournalState) → new.base ≡ old.base → new.start ≡ old.start → new.limit ≡ old.limit → new.count ≡ counted
      → new.replica.site ≡ old.replica.site → new.replica.names ≡ old.replica.names → IsGuarded site names limit base counted new
  guarded_still counted new begins starts limits counts same_number same_names = record {
    counted = counts;
    of_site = record {
      base_site = ap (λ (s : SiteState). s.site) begins ∙ was.of_site.base_site;
      base_names = ap (λ (s : SiteState). s.names) begins ∙ was.of_site.base_names;
      site_is = same_number ∙ was.of_site.site_is;
      names_are = same_names ∙ was.of_site.names_are;
    };
    limited = limits ∙ was.limited;
    begun = λ none. subst (IsSameSite base) (sym begins) (was.begun (sym starts ∙ none));
    reached = λ _. subst (λ s. IsReached base new.start s) (sym begins) (subst (λ n. IsReached base n old.base) (sym starts) (was.reached legal));
  }

  -- a step more, which was counted
  pub guarded_added : (new : JournalState) (step : Step) → HasAdded old step new → IsGuarded site names limit base (total + 1) new
  guarded_added new step added =
      let led = led_site old.replica new.replica step.deed added.done in
      guarded_still (total + 1) new added.base added.start added.limit (added.count ∙ ap (λ n. n + 1) was.counted) led.0 led.1

  -- nothing but room was changed
  pub guarded_unchanged : (new : JournalState) → IsUnchanged old new → IsGuarded site names limit base total new
  guarded_unchanged new same = guarded_still total new same.base same.start same.limit (same.count ∙ was.counted) same.replica.site same.replica.names

  -- the steps were dropped
  pub guarded_dropped : (new : JournalState) → HasDropped old new → IsGuarded site names limit base total new
  guarded_dropped new dropped = record {
    counted = dropped.count ∙ was.counted;
    of_site = record {
      base_site = dropped.base.site ∙ was.of_site.site_is;
      base_names = dropped.base.names ∙ was.of_site.names_are;
      site_is = ap (λ (s : SiteState). s.site) dropped.replica ∙ was.of_site.site_is;
      names_are = ap (λ (s : SiteState). s.names) dropped.replica ∙ was.of_site.names_are;
    };
    limited = dropped.limit ∙ was.limited;
    begun = begun_dropped base old new legal dropped (was.reached legal);
    reached = λ _. reached_dropped base old new legal dropped (was.reached legal);
  }

  -- the steps were dropped, or nothing was changed
  pub guarded_checkpointed : {T F : Type 0} (new : JournalState) (result : Result T F) → OnOk result (HasDropped old new) → OnErr result (new ≡ old) → IsGuarded site names limit base total new
  guarded_checkpointed new (Ok x) dropped unchanged = guarded_dropped new dropped
  guarded_checkpointed new (Err fault) dropped unchanged = subst (IsGuarded site names limit base total) (sym unchanged) was
