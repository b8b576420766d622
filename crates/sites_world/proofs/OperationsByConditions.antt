-- The conditions of events imply their meaning in the world of operations.
use Rattle.std.proofs.Common.{◌≡◌, ◌<◌, ◌≤◌, inl, inr, ℕ, true, false, List, [], ◌∷◌, ◌++◌, append-nil, length, slice_get, slice_set, Option, Some, None, Result, Ok, Err, refl, sym, ap, subst, ◌∙◌, if◌then◌else◌, ◌&&◌, arith}
use Rattle.std.specs.List.{All, AllByRecursion}
use Rattle.std.proofs.lemmas.List.Elements.{recursion_from_All}
use Rattle.std.proofs.lemmas.Option.{slice_get_within}
use Rattle.dots.specs.declared.limits.TheConstants.{MOST_COUNT, MOST_LIVE, MOST_RUNS, QUEUES}
use Rattle.operations.specs.Knowledge.{Knowledge}
use Rattle.member_orset.specs.Members.{cells_joined, runs_joined}
use Rattle.delta.specs.DeltaStates.{DeltaState, IsEmpty}
use Rattle.delta.specs.Frames.{IsInRanges}
use Rattle.delta.specs.Standing.{IsDeltaOf}
use Rattle.delta.specs.declared.frame.Frame.{Frame}
use Rattle.delta.proofs.StandingDeltas.{same_stands}
use Rattle.replica.specs.declared.cut_fault.CutFault.TheVariants.{Exhausted}
use Rattle.replica.specs.declared.refusal.Refusal.{Refusal}
use Rattle.replica.specs.declared.take_fault.TakeFault.TheVariants as take_fault
use Rattle.replica.specs.Changes.{Change, change_of}
use Rattle.replica.specs.Commands.{Follows}
use Rattle.replica.specs.Deeds.{IsCutDeed, IsTakeDeed, IsWholeDeed}
use Rattle.replica.specs.Framing.{IsFramed, IsNextOf}
use Rattle.replica.specs.Queues.{AreQueues}
use Rattle.replica.specs.Site.{SiteState, meaning_at}
use Rattle.replica.specs.Standing.{StandsFor, result_of}
use Rattle.replica.specs.Steps as steps
use Rattle.replica.specs.Steps.{SiteKnowledge, step}
use Rattle.replica.specs.Taking.{HasNoneLater}
use Rattle.replica.proofs.StandingSites.{unchanged_stands}
use Rattle.status_report.specs.declared.asks.Ask.{Ask}
use Rattle.status_report.specs.declared.asks.Ask.TheVariants.{Command as asked_command, Status}
use Rattle.status_report.specs.declared.asks.Answer.TheVariants.{Report}
use Rattle.status_report.specs.declared.request.StatusRequest.{StatusRequest}
use Rattle.status_report.specs.Answers.{answer_of}
use Rattle.status_report.specs.Knowing.{answer_in, status_in}
use Rattle.status_report.specs.Status.{report_of}
use Rattle.sites_world.specs.declared.event.Event.{Event}
use Rattle.sites_world.specs.declared.event.Event.TheVariants as event
use Rattle.sites_world.specs.declared.outcome.Outcome.{Outcome}
use Rattle.sites_world.specs.declared.outcome.Outcome.TheVariants.{Answered, Cut, NoEntry, NoMemory, NoSite, Took}
use Rattle.sites_world.specs.Conditions.{ComesAt, ComesOfAsk, ComesOfCut, ComesOfDelta, ComesOfEntry, ComesOfWhole, EventsLead, EventLeads, LeadsWhere}
use Rattle.sites_world.specs.SiteOutcomes.{HasEntry, HasHappenedAt, IsAnsweredSo, IsFramedSo, IsTakenSo, MayBeTaken}
use Rattle.sites_world.specs.WithinLimits.{HasValuesWithinLimits}
use Rattle.sites_world.specs.Worlds.{Entry, Happening, IsReached, World, answered, done_of, happens, happens_at, is_done, is_there, outcomes_of, run, site_of, take_result, taken}
use Rattle.sites_world.specs.WorldStates.{Correspond, HasHappened, HaveHappened, IsFrameOf, IsWorld, StandsForWorld, WorldState, are_there}
use Rattle.sites_world.proofs.GrowingStates.{at_grows, lead_all_grows, leads_grow}
use Rattle.sites_world.proofs.Happenings.{asked_happened, at_site_happened, framed_happened, may_take_all, missing_happened, no_site_happened, none_happened, reached_more, taken_found, taken_happened}
use Rattle.sites_world.proofs.KeptWorlds.{world_after_event}
use Rattle.sites_world.proofs.Lists.{at_least, correspond_get, correspond_none_get, some_within}
use Rattle.sites_world.proofs.MayTake.{may_take}
use Rattle.sites_world.proofs.SteppedHistories.{reached_history}
use Rattle.sites_world.proofs.OutcomeAnswers.{reported_frame}

-- the laws of one site of which the others follow: what is done at a replica is the step of the site that it stands for, be it done or refused, and its report is the
-- status text of what that knows
pub record StandForSteps : Type 0 where
  pub command : (old new : SiteState) (s : SiteKnowledge) (change : Change) (result : Result (Unit {0}) Refusal) → StandsFor old s → Follows old (meaning_at old change) new result
      → StandsFor new (step old.site old.names s (steps.Do change)).0 × (result ≡ result_of (step old.site old.names s (steps.Do change)).1)
  pub report : (state : SiteState) (s : SiteKnowledge) (request : StatusRequest) → StandsFor state s → report_of state request ≡ status_in s.known state.names request
  pub nothing : (state : SiteState) (s : SiteKnowledge) → StandsFor state s → IsEmpty state.pending → step state.site state.names s steps.Cut ≡ (s, steps.Nothing)
  pub cut : (old new : SiteState) (frame : Frame) (s : SiteKnowledge) → StandsFor old s → IsCutDeed old frame new
      → StandsFor new (step old.site old.names s steps.Cut).0 × IsFramed frame (step old.site old.names s steps.Cut).1
  pub no_cut : (state : SiteState) (s : SiteKnowledge) → StandsFor state s → (IsEmpty state.pending → ⊥) → state.frames ≡ MOST_COUNT
      → step state.site state.names s steps.Cut ≡ (s, steps.NoNumber)
  pub whole : (old new : SiteState) (frame : Frame) (s : SiteKnowledge) → StandsFor old s → IsWholeDeed old frame new
      → StandsFor new (step old.site old.names s steps.Whole).0 × IsFramed frame (step old.site old.names s steps.Whole).1
  pub no_whole : (state : SiteState) (s : SiteKnowledge) → StandsFor state s → state.frames ≡ MOST_COUNT → step state.site state.names s steps.Whole ≡ (s, steps.NoNumber)
  pub take : (old new : SiteState) (d : DeltaState) (s : SiteKnowledge) (k : Knowledge) → StandsFor old s → IsDeltaOf d k → HasNoneLater old k → IsTakeDeed old d new
      → StandsFor new (step old.site old.names s (steps.Take k)).0 × ((step old.site old.names s (steps.Take k)).1 ≡ steps.Taken)
  pub cells_full : (state : SiteState) (d : DeltaState) (s : SiteKnowledge) (k : Knowledge) → StandsFor state s → IsDeltaOf d k → MOST_LIVE < cells_joined state.state.members d.members
      → step state.site state.names s (steps.Take k) ≡ (s, steps.CellsFull)
  pub runs_full : (state : SiteState) (d : DeltaState) (s : SiteKnowledge) (k : Knowledge) → StandsFor state s → IsDeltaOf d k → cells_joined state.state.members d.members ≤ MOST_LIVE
      → MOST_RUNS < runs_joined state.state.members d.members → step state.site state.names s (steps.Take k) ≡ (s, steps.RunsFull)

-- a pool that gets nothing is as it was
same_pool : (pool added : List Frame) → added ≡ [] → pool ++ added ≡ pool
same_pool pool added none = ap (λ frames. pool ++ frames) none ∙ append-nil pool

-- a site's next frame of what may be taken is within the ranges of the format, while a number is left
next_in_ranges : (old : SiteState) (k : Knowledge) (frame : Frame) → AreQueues old.names → old.frames < MOST_COUNT → IsNextOf old frame → MayBeTaken old k → IsDeltaOf frame.delta k → IsInRanges frame
next_in_ranges old k frame queues left next may says = record {
  number = let is = next.number in (omega (arith, is), omega (arith, is, left));
  queues = λ dot held live. at held.0.queue (λ past. may.queues frame.delta says (inl (record { dot = dot; held = held; live = live; strange = past })));
}
  where
    below : (n m : ℕ) → (m ≤ n → ⊥) → n < m
    below n m less = omega arith

    at : (queue : ℕ) → (length old.names ≤ queue → ⊥) → queue < QUEUES
    at queue listed = let within = below queue (length old.names) listed in let few = queues.few in omega (arith, within, few)

module _ (laws : StandForSteps) where
  -- ---- at one site

  -- the conditions of an ask give its answer in the world of operations
  ask_reported : (old new : SiteState) (s : SiteKnowledge) (asked : Ask) (o : Outcome) → StandsFor old s → ComesOfAsk old asked o new → IsAnsweredSo new s (answer_in old.site old.names s asked) o
  ask_reported old new s (asked_command command) (Answered answer) stands (result, is, follows) =
      let after = laws.command old new s (change_of command) result stands follows in inl (ap Answered (is ∙ ap answer_of after.1), after.0)
  ask_reported old new s (asked_command command) NoMemory stands comes = inr (refl, unchanged_stands old new s stands comes.0)
  ask_reported old new s (asked_command command) (Cut r) stands comes = absurd comes
  ask_reported old new s (asked_command command) (Took r) stands comes = absurd comes
  ask_reported old new s (asked_command command) NoSite stands comes = absurd comes
  ask_reported old new s (asked_command command) NoEntry stands comes = absurd comes
  ask_reported old new s (Status request) (Answered answer) stands (is, same) =
      inl (ap Answered (is ∙ ap Report (laws.report old s request stands)), subst (λ (t : SiteState). StandsFor t s) (sym same) stands)
  ask_reported old new s (Status request) NoMemory stands comes = inr (refl, unchanged_stands old new s stands comes)
  ask_reported old new s (Status request) (Cut r) stands comes = absurd comes
  ask_reported old new s (Status request) (Took r) stands comes = absurd comes
  ask_reported old new s (Status request) NoSite stands comes = absurd comes
  ask_reported old new s (Status request) NoEntry stands comes = absurd comes

  module _ (old new : SiteState) (s : SiteKnowledge) (pool added : List Frame) (stands : StandsFor old s) (queues : AreQueues old.names) where
    -- where nothing is changed the site stands for what it stood for
    stands_still : new ≡ old → StandsFor new s
    stands_still same = subst (λ (t : SiteState). StandsFor t s) (sym same) stands

    -- no frame was made where the step made none
    framed_nothing : (after : SiteKnowledge × steps.Outcome) → after ≡ (s, steps.Nothing) → new ≡ old → added ≡ [] → IsFramedSo new s pool (pool ++ added) after (Cut (Ok None))
    framed_nothing after is same none =
        subst (λ x. IsFramedSo new s pool (pool ++ added) x (Cut (Ok None))) (sym is) (inl (refl, stands_still same, same_pool pool added none))

    framed_exhausted : (after : SiteKnowledge × steps.Outcome) → after ≡ (s, steps.NoNumber) → new ≡ old → added ≡ [] → IsFramedSo new s pool (pool ++ added) after (Cut (Err Exhausted))
    framed_exhausted after is same none =
        subst (λ x. IsFramedSo new s pool (pool ++ added) x (Cut (Err Exhausted))) (sym is) (inl (refl, stands_still same, same_pool pool added none))

    -- the conditions of a cut give its outcome in the world of operations
    cut_reported : (o : Outcome) → MayBeTaken old s.buffer → ComesOfCut (length pool) old o new added → IsFramedSo new s pool (pool ++ added) (step old.site old.names s steps.Cut) o
    cut_reported (Cut (Ok None)) may (empty, same, none) = framed_nothing (step old.site old.names s steps.Cut) (laws.nothing old s stands empty) same none
    cut_reported (Cut (Ok (Some place))) may (at, frame, is, deed) =
        let after = laws.cut old new frame s stands deed in
        let says = subst (λ d. IsDeltaOf d s.buffer) (sym deed.made.delta) stands.buffer in
        subst (λ n. IsFramedSo new s pool (pool ++ added) (step old.site old.names s steps.Cut) (Cut (Ok (Some n)))) (sym at)
        (reported_frame new s pool (pool ++ added) (step old.site old.names s steps.Cut) frame after.0 after.1 (deed.made.heading.maker ∙ sym deed.made.site)
        (next_in_ranges old s.buffer frame queues deed.left deed.made.heading may says) (ap (λ frames. pool ++ frames) is))
    cut_reported (Cut (Err fault)) may (is, some, most, same, none) =
        subst (λ f. IsFramedSo new s pool (pool ++ added) (step old.site old.names s steps.Cut) (Cut (Err f))) (sym is) (framed_exhausted (step old.site old.names s steps.Cut) (laws.no_cut old s stands some most) same none)
    cut_reported NoMemory may (same, none) = inr (refl, stands_still same, same_pool pool added none)
    cut_reported (Answered answer) may comes = absurd comes
    cut_reported (Took r) may comes = absurd comes
    cut_reported NoSite may comes = absurd comes
    cut_reported NoEntry may comes = absurd comes

    -- the conditions of a whole give its outcome in the world of operations
    whole_reported : (o : Outcome) → MayBeTaken old s.known → ComesOfWhole (length pool) old o new added → IsFramedSo new s pool (pool ++ added) (step old.site old.names s steps.Whole) o
    whole_reported (Cut (Ok None)) may comes = absurd comes
    whole_reported (Cut (Ok (Some place))) may (at, frame, is, deed) =
        let after = laws.whole old new frame s stands deed in
        let says = same_stands old.state frame.delta s.known deed.made.delta stands.known in
        subst (λ n. IsFramedSo new s pool (pool ++ added) (step old.site old.names s steps.Whole) (Cut (Ok (Some n)))) (sym at)
        (reported_frame new s pool (pool ++ added) (step old.site old.names s steps.Whole) frame after.0 after.1 (deed.made.heading.maker ∙ sym deed.made.site)
        (next_in_ranges old s.known frame queues deed.left deed.made.heading may says) (ap (λ frames. pool ++ frames) is))
    whole_reported (Cut (Err fault)) may (is, most, same, none) =
        subst (λ f. IsFramedSo new s pool (pool ++ added) (step old.site old.names s steps.Whole) (Cut (Err f))) (sym is) (framed_exhausted (step old.site old.names s steps.Whole) (laws.no_whole old s stands most) same none)
    whole_reported NoMemory may (same, none) = inr (refl, stands_still same, same_pool pool added none)
    whole_reported (Answered answer) may comes = absurd comes
    whole_reported (Took r) may comes = absurd comes
    whole_reported NoSite may comes = absurd comes
    whole_reported NoEntry may comes = absurd comes

  -- the conditions of a take give its outcome in the world of operations
  delta_reported : (old new : SiteState) (s : SiteKnowledge) (d : DeltaState) (k : Knowledge) (o : Outcome) → StandsFor old s → IsDeltaOf d k → MayBeTaken old k → ComesOfDelta old d o new
      → IsTakenSo new s (steps.take s k) o
  delta_reported old new s d k (Took (Ok u)) stands says may deed =
      let after = laws.take old new d s k stands says may.none_later deed in inl (ap (λ x. Took (take_result x)) (sym after.1), after.0)
  delta_reported old new s d k (Took (Err take_fault.CellsFull)) stands says may (joins, many, same) =
      subst (λ x. IsTakenSo new s x (Took (Err take_fault.CellsFull))) (sym (laws.cells_full old d s k stands says many)) (inl (refl, unchanged_stands old new s stands same))
  delta_reported old new s d k (Took (Err take_fault.RunsFull)) stands says may (joins, few, many, same) =
      subst (λ x. IsTakenSo new s x (Took (Err take_fault.RunsFull))) (sym (laws.runs_full old d s k stands says few many)) (inl (refl, unchanged_stands old new s stands same))
  delta_reported old new s d k (Took (Err take_fault.NoSuchQueue)) stands says may comes = absurd comes
  delta_reported old new s d k (Took (Err take_fault.NotMine)) stands says may comes = absurd comes
  delta_reported old new s d k (Took (Err take_fault.Conflict)) stands says may comes = absurd comes
  delta_reported old new s d k (Took (Err take_fault.Memory)) stands says may comes = absurd comes
  delta_reported old new s d k NoMemory stands says may comes = inr (refl, unchanged_stands old new s stands comes)
  delta_reported old new s d k (Answered answer) stands says may comes = absurd comes
  delta_reported old new s d k (Cut r) stands says may comes = absurd comes
  delta_reported old new s d k NoSite stands says may comes = absurd comes
  delta_reported old new s d k NoEntry stands says may comes = absurd comes

  -- the conditions of an event at a site give its effect in the world of operations
  module _ (old new : SiteState) (s : SiteKnowledge) (pool : List Frame) (entries : List Entry) (stands : StandsFor old s) (queues : AreQueues old.names)
      (corresponds : Correspond IsFrameOf pool entries) (may : (place : ℕ) (entry : Entry) → slice_get entries place ≡ Some entry → MayBeTaken old entry.carried)
      (may_known : MayBeTaken old s.known) (may_buffer : MayBeTaken old s.buffer) where
    -- an event that adds no entry
    nothing_more : (h : Happening) (o : Outcome) (added : List Frame) → added ≡ [] → HasHappenedAt new s pool pool entries h o → HasHappenedAt new s pool (pool ++ added) entries h o
    nothing_more h o added none = subst (λ grown. HasHappenedAt new s pool grown entries h o) (sym (same_pool pool added none))

    entry_reported : (place : ℕ) (found : Option Frame) (o : Outcome) → slice_get pool place ≡ found → ComesOfEntry found old o new
        → HasHappenedAt new s pool pool entries (taken s (slice_get entries place)) o
    entry_reported place None o here (is, same) =
        subst (λ found. HasHappenedAt new s pool pool entries (taken s found) o) (sym (correspond_none_get IsFrameOf pool entries corresponds place here))
        (subst (λ x. HasHappenedAt new s pool pool entries (taken s None) x) (sym is)
        (missing_happened new s pool entries corresponds (subst (λ (t : SiteState). StandsFor t s) (sym same) stands)))
    entry_reported place (Some frame) o here (copy, alike, comes) =
        let found = correspond_get IsFrameOf pool entries corresponds place frame here in
        let says = same_stands frame.delta copy found.0.carried alike found.2.delta in
        subst (λ x. HasHappenedAt new s pool pool entries (taken s x) o) (sym found.1)
        (taken_happened new s pool entries found.0 o corresponds (delta_reported old new s copy found.0.carried o stands says (may place found.0 found.1) comes))

    at_reported : (e : Event) (o : Outcome) (added : List Frame) → old.site ≡ site_of e → ComesAt pool old e o new added
        → HasHappenedAt new s pool (pool ++ added) entries (happens_at old.names entries s e) o
    at_reported (event.Ask site asked) o added at (comes, none) =
        nothing_more (answered (answer_in site old.names s asked)) o added none
        (asked_happened new s pool entries (answer_in site old.names s asked) o corresponds
        (subst (λ n. IsAnsweredSo new s (answer_in n old.names s asked) o) at (ask_reported old new s asked o stands comes)))
    at_reported (event.Cut site) o added at comes =
        framed_happened new s pool (pool ++ added) entries site (steps.cut s s.buffer) o ((at_grows pool old new (event.Cut site) o added comes).site ∙ at) corresponds
        (cut_reported old new s pool added stands queues o may_buffer comes)
    at_reported (event.Whole site) o added at comes =
        framed_happened new s pool (pool ++ added) entries site (steps.after_frame s s.known s.buffer) o ((at_grows pool old new (event.Whole site) o added comes).site ∙ at) corresponds
        (whole_reported old new s pool added stands queues o may_known comes)
    at_reported (event.Take site place) o added at (comes, none) = nothing_more (taken s (slice_get entries place)) o added none (entry_reported place (slice_get pool place) o refl comes)

  -- a take that ran out of memory has its entry
  no_memory_entry : (pool : List Frame) (old new : SiteState) (e : Event) (o : Outcome) (added : List Frame) → ComesAt pool old e o new added → o ≡ NoMemory → HasEntry pool e
  no_memory_entry pool old new (event.Ask site asked) o added comes no_memory = tt
  no_memory_entry pool old new (event.Cut site) o added comes no_memory = tt
  no_memory_entry pool old new (event.Whole site) o added comes no_memory = tt
  no_memory_entry pool old new (event.Take site place) o added comes no_memory = by (slice_get pool place) refl comes.0
    where
      no : o ≡ NoEntry → ⊥
      no other = (cc)

      by : (found : Option Frame) → slice_get pool place ≡ found → ComesOfEntry found old o new → place < length pool
      by None here reported = absurd (no reported.0)
      by (Some frame) here reported = slice_get_within pool place frame here

  -- ---- in a world

  module _ (from to : WorldState) (w : World) (queues : AreQueues from.names) (reached : IsReached from.names (length from.sites) w) (stands : StandsForWorld from w) where
    -- an event that leads from what stands for a world has happened there
    pub event_happens : (e : Event) (o : Outcome) → EventLeads from e o to → HasHappened to w e o
    event_happens e o leads = by (slice_get from.sites (site_of e)) refl leads
      where
        by : (found : Option SiteState) → slice_get from.sites (site_of e) ≡ found → LeadsWhere from e o to found → HasHappened to w e o
        by None here (is, same) =
            subst (λ (t : WorldState). HasHappened t w e o) (sym same)
            (subst (λ x. HasHappened from w e x) (sym is)
            (no_site_happened from.names from.sites from.pool w stands e (at_least (site_of e) (length from.sites) (λ within. some_within from.sites (site_of e) within here))))
        by (Some old) here at =
            let comes = at.comes.comes in
            let grows = at_grows from.pool old at.new e o at.comes.added comes in
            let there : WorldState = record { names = from.names; sites = slice_set from.sites (site_of e) at.new; pool = from.pool ++ at.comes.added } in
            let same : to ≡ there = λ i. record { names = at.names i; sites = at.sites i; pool = at.comes.is i } in
            subst (λ (t : WorldState). HasHappened t w e o) (sym same)
            (at_site_happened from.names from.sites from.pool w stands e (site_of e) old at.new (from.pool ++ at.comes.added) o refl here grows.site grows.names
            (λ no_memory. taken_found e from.pool w stands.pool (no_memory_entry from.pool old at.new e o at.comes.added comes no_memory)) (happened at.new at.comes.added comes))
          where
            happened : (new : SiteState) (added : List Frame) → ComesAt from.pool old e o new added → (s : SiteKnowledge) → slice_get w.sites (site_of e) ≡ Some s
                → HasHappenedAt new s from.pool (from.pool ++ added) w.pool (happens_at old.names w.pool s e) o
            happened new added comes s known =
                let has = reached_history from.names (length from.sites) w reached in
                let of = stands.sites.each (site_of e) old s here known in
                let own = has.is.sites (site_of e) s known in
                let there = slice_get_within w.sites (site_of e) s known in
                let part = may_take from.names (length w.sites) (site_of e) has.made s old in
                at_reported old new s from.pool w.pool of.stands (subst AreQueues (sym of.names_are) queues) stands.pool (may_take_all from.names from.sites from.pool w stands has (site_of e) old s here known)
                (part s.known has.is.history own there of own.known) (part s.buffer has.is.history own there of (λ p is. own.known p (own.buffer p is))) e o added of.site comes

  -- an event that was done comes before others
  done_before : (new : WorldState) (w : World) (e : Event) (o : Outcome) (es : List Event) (os : List Outcome) → is_done o ≡ true → (happens new.names w e).1 ≡ o
      → HaveHappened new (happens new.names w e).0 es os → HaveHappened new w (e ∷ es) (o ∷ os)
  done_before new w e o es os done reported rest = record {
    one_each = let same = rest.one_each in omega (arith, same);
    there = ap (λ b. if b then are_there new.names (happens new.names w e).0 es os else is_there w e && are_there new.names w es os) done ∙ rest.there;
    outcomes_are = ap (λ b. if b then o ∷ outcomes_of os else outcomes_of os) done
        ∙ (λ i. sym reported i ∷ rest.outcomes_are i)
        ∙ ap (λ b. (run new.names w (if b then e ∷ done_of es os else done_of es os)).1) (sym done);
    stands = subst (λ b. StandsForWorld new (run new.names w (if b then e ∷ done_of es os else done_of es os)).0) (sym done) rest.stands;
  }

  -- an event that ran out of memory, followed by events that have happened
  no_memory_before : (new : WorldState) (w : World) (e : Event) (o : Outcome) (es : List Event) (os : List Outcome) → is_done o ≡ false → is_there w e ≡ true → HaveHappened new w es os
      → HaveHappened new w (e ∷ es) (o ∷ os)
  no_memory_before new w e o es os undone here rest = record {
    one_each = let same = rest.one_each in omega (arith, same);
    there = ap (λ b. if b then are_there new.names (happens new.names w e).0 es os else is_there w e && are_there new.names w es os) undone ∙ (λ i. here i && rest.there i);
    outcomes_are = ap (λ b. if b then o ∷ outcomes_of os else outcomes_of os) undone
        ∙ rest.outcomes_are
        ∙ ap (λ b. (run new.names w (if b then e ∷ done_of es os else done_of es os)).1) (sym undone);
    stands = subst (λ b. StandsForWorld new (run new.names w (if b then e ∷ done_of es os else done_of es os)).0) (sym undone) rest.stands;
  }

  -- events that lead from what stands for a world have happened there
  pub events_happen : (from to : WorldState) (w : World) (es : List Event) (os : List Outcome) → AreQueues from.names → IsReached from.names (length from.sites) w → StandsForWorld from w
      → EventsLead from es os to → HaveHappened to w es os
  events_happen from to w [] [] queues reached stands all = subst (λ (t : WorldState). HaveHappened t w [] []) (sym all) (none_happened from w [] refl stands)
  events_happen from to w [] (o ∷ os) queues reached stands all = absurd all
  events_happen from to w (e ∷ es) [] queues reached stands all = absurd all
  events_happen from to w (e ∷ es) (o ∷ os) queues reached stands (mid, first, rest) =
      by (λ v there standing. events_happen mid to v es os (subst AreQueues (sym kept) queues) (reached_there v there) standing rest)
      (event_happens from mid w queues reached stands e o first)
    where
      kept : mid.names ≡ from.names
      kept = (leads_grow from mid e o first).names

      after : to.names ≡ mid.names
      after = (lead_all_grows mid to es os rest).names

      reached_there : (v : World) → IsReached from.names (length from.sites) v → IsReached mid.names (length mid.sites) v
      reached_there v there =
          subst (λ names. IsReached names (length mid.sites) v) (sym kept) (subst (λ n. IsReached from.names n v) (leads_grow from mid e o first).sites.lengths there)

      by : ((v : World) → IsReached from.names (length from.sites) v → StandsForWorld mid v → HaveHappened to v es os) → HasHappened mid w e o → HaveHappened to w (e ∷ es) (o ∷ os)
      by others (inl (done, reported, standing)) =
          let next = reached_more from.names (length from.sites) w (e ∷ []) reached in
          done_before to w e o es os done (subst (λ names. (happens names w e).1 ≡ o) (sym after) reported)
          (subst (λ names. HaveHappened to (happens names w e).0 es os) (sym (after ∙ kept))
          (others (happens from.names w e).0 next (subst (λ names. StandsForWorld mid (happens names w e).0) kept standing)))
      by others (inr (is, here, standing)) = no_memory_before to w e o es os (ap is_done is) here (others w reached standing)

  -- an event of values within their limits leads from the states of a reached world to those of a reached world
  pub world_leads : (from to : WorldState) (e : Event) (o : Outcome) → IsWorld from → HasValuesWithinLimits e → EventLeads from e o to → IsWorld to
  world_leads from to e o is values leads =
      let grows = leads_grow from to e o leads in
      let there : WorldState = record { names = from.names; sites = to.sites; pool = to.pool } in
      let same : to ≡ there = λ i. record { names = grows.names i; sites = to.sites; pool = to.pool } in
      subst IsWorld (sym same)
      (world_after_event from.names from.sites to.sites from.pool to.pool e o is (sym grows.sites.lengths) values
      (λ w reached stands. event_happens from there w is.queues reached stands e o (subst (EventLeads from e o) same leads)))

  -- events in turn lead from the states of a reached world to those of a reached world
  worlds_lead_by : (from to : WorldState) (es : List Event) (os : List Outcome) → IsWorld from → AllByRecursion HasValuesWithinLimits es → EventsLead from es os to → IsWorld to
  worlds_lead_by from to [] [] is values all = subst IsWorld (sym all) is
  worlds_lead_by from to [] (o ∷ os) is values all = absurd all
  worlds_lead_by from to (e ∷ es) [] is values all = absurd all
  worlds_lead_by from to (e ∷ es) (o ∷ os) is values (mid, first, rest) = worlds_lead_by mid to es os (world_leads from mid e o is values.0 first) values.1 rest

  pub worlds_lead : (from to : WorldState) (es : List Event) (os : List Outcome) → IsWorld from → All HasValuesWithinLimits es → EventsLead from es os to → IsWorld to
  worlds_lead from to es os is values = worlds_lead_by from to es os is (recursion_from_All HasValuesWithinLimits es values)
