-- Events have their effect by conditions alone.
use Rattle.std.proofs.Common.{◌≡◌, ◌<◌, ◌≤◌, inl, inr, ℕ, List, [], ◌∷◌, ◌++◌, append-nil, length, slice_get, slice_set, Option, Some, None, Result, Ok, Err, refl, sym, ap, subst, ◌∙◌, arith}
use Rattle.dots.specs.declared.limits.TheConstants.{MOST_COUNT}
use Rattle.operations.specs.Knowledge.{Knowledge}
use Rattle.delta.specs.DeltaStates.{DeltaState}
use Rattle.delta.specs.Frames.{IsInRanges}
use Rattle.delta.specs.Standing.{IsDeltaOf}
use Rattle.delta.specs.declared.frame.Frame.{Frame}
use Rattle.replica.specs.declared.cut_fault.CutFault.{CutFault}
use Rattle.replica.specs.declared.command.Command.{Command}
use Rattle.replica.specs.declared.refusal.Refusal.{Refusal}
use Rattle.replica.specs.declared.refusal.Refusal.TheVariants as refusal
use Rattle.replica.specs.declared.take_fault.TakeFault.{TakeFault}
use Rattle.replica.specs.declared.take_fault.TakeFault.TheVariants as take_fault
use Rattle.replica.specs.Changes.{Makes, Meaning, Refused as refused_meaning, change_of}
use Rattle.replica.specs.Commands.{Follows, IsDone, MayWantMemory}
use Rattle.replica.specs.Framing.{IsNextOf}
use Rattle.replica.specs.Site.{IsUnchanged, SiteState, meaning_at}
use Rattle.replica.specs.Taking.{IsRefusedTake}
use Rattle.status_report.specs.declared.asks.Answer.{Answer}
use Rattle.status_report.specs.declared.asks.Answer.TheVariants.{Refused}
use Rattle.status_report.specs.declared.asks.Ask.{Ask}
use Rattle.status_report.specs.declared.asks.Ask.TheVariants.{Command as asked_command, Status}
use Rattle.status_report.specs.Answers.{AnswersCommand, AnswersStatus, KeepsAtStatus, answer_of}
use Rattle.sites_world.specs.declared.event.Event.{Event}
use Rattle.sites_world.specs.declared.event.Event.TheVariants as event
use Rattle.sites_world.specs.declared.outcome.Outcome.{Outcome}
use Rattle.sites_world.specs.declared.outcome.Outcome.TheVariants.{NoMemory, NoSite}
use Rattle.sites_world.specs.Conditions.{ComesAt, ComesOfAsk, ComesOfDelta, GrowsBy, EventsLead, EventLeads, LeadsWhere}
use Rattle.sites_world.specs.SiteOutcomes.{IsAsk, MayBeTaken, answer_outcome, take_fault_outcome}
use Rattle.sites_world.specs.Worlds.{Entry, site_of}
use Rattle.sites_world.specs.WorldStates.{IsSiteOf, IsWorld, WorldState}
use Rattle.sites_world.proofs.Happenings.{may_take_all}
use Rattle.sites_world.proofs.Lists.{correspond_get, set_again, some_within}
use Rattle.sites_world.proofs.SteppedHistories.{reached_history}
use Rattle.sites_world.proofs.OutcomeAnswers.{reported_cases}
use Rattle.sites_world.proofs.Unchanged.{equal_unchanged}
use Rattle.replica.proofs.PlannedCommands.{itself}
use Rattle.std.proofs.lemmas.Option.{slice_get_past}

-- ---- asks

-- a command that is refused as it means changes nothing
pub refused_follows : (old new : SiteState) (m : Meaning) (r : Refusal) → Follows old m new (Err r) → IsUnchanged old new
refused_follows old new (Makes o) r follows = absurd (no_ok follows.0)
  where
    no_ok : ◌≡◌ {A = Result (Unit {0}) Refusal} (Err r) (Ok tt) → ⊥
    no_ok e = (cc)
refused_follows old new (refused_meaning x) r follows = follows.1

-- a command that is refused as out of memory has a meaning that takes memory
no_memory_follows : (old new : SiteState) (m : Meaning) (r : Refusal) → Refused r ≡ Refused refusal.Memory → Follows old m new (Err r) → MayWantMemory m
no_memory_follows old new (Makes o) r is follows = tt
no_memory_follows old new (refused_meaning x) r is follows = subst (λ y. MayWantMemory (refused_meaning y)) same tt
  where
    same : refusal.Memory ≡ x
    same = let reported = follows.0 in cc

-- the outcome of an answer meets the conditions of its ask
pub asked_comes : (old new : SiteState) (asked : Ask) (answer : Answer) → AnswersCommand old asked new answer → AnswersStatus old asked answer → KeepsAtStatus old asked new
    → ComesOfAsk old asked (answer_outcome answer) new
asked_comes old new (Status request) answer command (inl report) kept = subst (λ a. ComesOfAsk old (Status request) (answer_outcome a) new) (sym report) (refl, kept)
asked_comes old new (Status request) answer command (inr refused) kept = subst (λ a. ComesOfAsk old (Status request) (answer_outcome a) new) (sym refused) (equal_unchanged old new kept)
asked_comes old new (asked_command command) answer (result, is, done) status kept = subst (λ a. ComesOfAsk old (asked_command command) (answer_outcome a) new) (sym is) (by result done)
  where
    by : (result : Result (Unit {0}) Refusal) → IsDone old (meaning_at old (change_of command)) new result → ComesOfAsk old (asked_command command) (answer_outcome (answer_of result)) new
    by (Ok u) (inl follows) = (Ok u, refl, follows)
    by (Err r) (inl follows) = elim (reported_cases (Refused r)) [
      | inl reported ↦ subst (λ o. ComesOfAsk old (asked_command command) o new) (sym reported) (Err r, refl, follows)
      | inr none ↦ subst (λ o. ComesOfAsk old (asked_command command) o new) (sym none.0) (
        refused_follows old new (meaning_at old (change_of command)) r follows,
        no_memory_follows old new (meaning_at old (change_of command)) r none.1 follows,
      )
    ]
    by result (inr other) = subst (λ r. ComesOfAsk old (asked_command command) (answer_outcome (answer_of r)) new) (sym other.1) (other.0, other.2)

-- ---- takes

-- the outcome of a fault meets the conditions of the take
pub fault_comes : (old new : SiteState) (k : Knowledge) (d : DeltaState) (fault : TakeFault) → MayBeTaken old k → IsDeltaOf d k → IsUnchanged old new
    → IsRefusedTake old d (λ f. fault ≡ f) → ComesOfDelta old d (take_fault_outcome fault) new
fault_comes old new k d take_fault.NoSuchQueue may is same refused = absurd (may.queues d is (refused.no_such_queue.0 refl))
fault_comes old new k d take_fault.NotMine may is same refused = absurd (may.own d is (refused.not_mine.0 refl).1)
fault_comes old new k d take_fault.Conflict may is same refused = absurd (may.agrees d is (refused.conflict.0 refl).1)
fault_comes old new k d take_fault.CellsFull may is same refused = let w = refused.cells_full.0 refl in (w.0, w.1, same)
fault_comes old new k d take_fault.RunsFull may is same refused = let w = refused.runs_full.0 refl in (w.0, w.1, w.2, same)
fault_comes old new k d take_fault.Memory may is same refused = same

-- ---- frames

-- a frame within the ranges of the format that is a site's next one had a number left
pub number_left : (s : SiteState) (frame : Frame) → IsNextOf s frame → IsInRanges frame → s.frames < MOST_COUNT
number_left s frame next ranges = let few = ranges.number.1 in let is = next.number in omega (arith, few, is)

-- a cut that made a frame had something to cut
pub some_cut : (cut : Option Frame) (frame : Frame) → cut ≡ Some frame → ◌≡◌ {A = Result (Option Frame) CutFault} (Ok cut) (Ok None) → ⊥
some_cut cut frame is none = (cc)

-- ---- in a world

module _ (names : List (List ℕ)) (sites : List SiteState) (pool : List Frame) (is : IsWorld (record { names = names; sites = sites; pool = pool })) where
  abbrev from : WorldState
  from = record { names = names; sites = sites; pool = pool }

  -- the conditions at a site give those in its world
  pub leads_at : (e : Event) (at : ℕ) (old new : SiteState) (grown : List Frame) (o : Outcome) → at ≡ site_of e → slice_get sites at ≡ Some old
      → (((place : ℕ) (entry : Entry) → slice_get is.world.pool place ≡ Some entry → MayBeTaken old entry.carried) → GrowsBy (ComesAt pool old e o new) pool grown)
      → EventLeads from e o (record { names = names; sites = slice_set sites at new; pool = grown })
  leads_at e at old new grown o at_is here come =
      let knows = correspond_get (IsSiteOf names) sites is.world.sites is.stands.sites at old here in
      let may = may_take_all names sites pool is.world is.stands (reached_history names (length sites) is.world is.reached) at old knows.0 here knows.1 in
      subst (λ n. EventLeads from e o (record { names = names; sites = slice_set sites n new; pool = grown })) (sym at_is)
      (subst (LeadsWhere from e o (record { names = names; sites = slice_set sites (site_of e) new; pool = grown })) (sym (ap (slice_get sites) (sym at_is) ∙ here))
      (record { new = new; comes = come may; sites = refl; names = refl }))

-- an event at no site changes nothing
pub leads_nowhere : (from : WorldState) (e : Event) → length from.sites ≤ site_of e → EventLeads from e NoSite from
leads_nowhere from e past = subst (LeadsWhere from e NoSite from) (sym (slice_get_past from.sites (site_of e) past)) (refl, refl)

-- `NoMemory` meets the conditions of a status ask where nothing is changed
no_memory_comes : (old : SiteState) (site : ℕ) (asked : Ask) → ((command : Command) → event.Ask site asked ≡ event.Ask site (asked_command command) → ⊥) → ComesOfAsk old asked NoMemory old
no_memory_comes old site (asked_command command) status = absurd (status command refl)
no_memory_comes old site (Status request) status = itself old

-- `NoMemory` meets the conditions of an event whose copy ran out of memory, which no command's does
pub leads_no_memory : (from : WorldState) (e : Event) → IsAsk e → ((site : ℕ) (command : Command) → e ≡ event.Ask site (asked_command command) → ⊥) → site_of e < length from.sites
    → EventLeads from e NoMemory from
leads_no_memory from (event.Ask site asked) is status within = by (slice_get from.sites site) refl
  where
    by : (found : Option SiteState) → slice_get from.sites site ≡ found → LeadsWhere from (event.Ask site asked) NoMemory from found
    by None none = absurd (some_within from.sites site within none)
    by (Some old) here = record {
      new = old;
      comes = record { added = []; comes = (no_memory_comes old site asked (status site), refl); is = sym (append-nil from.pool) };
      sites = sym (set_again from.sites site old here);
      names = refl;
    }
leads_no_memory from (event.Cut site) is status within = absurd is
leads_no_memory from (event.Whole site) is status within = absurd is
leads_no_memory from (event.Take site place) is status within = absurd is

-- ---- events in turn

-- events lead on with one more
pub lead_on : (from : WorldState) (es : List Event) (os : List Outcome) (mid to : WorldState) (e : Event) (o : Outcome) → EventsLead from es os mid → EventLeads mid e o to
    → EventsLead from (es ++ e ∷ []) (os ++ o ∷ []) to
lead_on from [] [] mid to e o all one = (to, subst (λ w. EventLeads w e o to) all one, refl)
lead_on from [] (p ∷ os) mid to e o all one = absurd all
lead_on from (f ∷ es) [] mid to e o all one = absurd all
lead_on from (f ∷ es) (p ∷ os) mid to e o (next, first, rest) one = (next, first, lead_on next es os mid to e o rest one)
