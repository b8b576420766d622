-- What has happened at a site, and at the sites of a world.
use Rattle.std.specs.Option.{option_map}
use Rattle.delta.specs.Frames.{IsInRanges}
use Rattle.std.proofs.lemmas.Bool.{and_from, and_parts}
use Rattle.std.proofs.Common.{◌≡◌, ◌<◌, ◌≤◌, ◌+◌, inl, inr, ℕ, Bool, true, false, List, [], ◌∷◌, ◌++◌, append-nil, length, slice_get, slice_set, Some, None, refl, sym, ap, subst, ◌∙◌, if◌then◌else◌, arith, ◌&&◌, is_some, true≢false, Option, IfSome}
use Rattle.std.proofs.lemmas.List.{length-append, length-replicate}
use Rattle.std.proofs.lemmas.Option.{slice_get_within}
use Rattle.delta.specs.declared.frame.Frame.{Frame}
use Rattle.replica.specs.Site.{SiteState}
use Rattle.replica.specs.Standing.{StandsFor}
use Rattle.replica.specs.Steps as steps
use Rattle.replica.specs.Steps.{Framed, SiteKnowledge, take}
use Rattle.status_report.specs.declared.asks.Answer.{Answer}
use Rattle.sites_world.specs.declared.event.Event.{Event}
use Rattle.sites_world.specs.declared.event.Event.TheVariants as event
use Rattle.sites_world.specs.declared.outcome.Outcome.{Outcome}
use Rattle.sites_world.specs.declared.outcome.Outcome.TheVariants.{Cut, NoEntry, NoSite, NoMemory}
use Rattle.sites_world.specs.Histories.{HasHistory}
use Rattle.sites_world.specs.SiteOutcomes.{HasAddedFrame, HasHappenedAt, IsAnsweredSo, IsFramedSo, IsTakenSo, MayBeTaken, HasEntry}
use Rattle.sites_world.specs.Worlds.{Entry, IsReached, World, answered, done_of, entries_of, framed, frame_result, happens, happens_at, happens_where, is_done, new_world, outcomes_of, run, site_of, taken, has_entry, is_there}
use Rattle.sites_world.specs.WorldStates.{Correspond, HasHappened, HaveHappened, IsFrameOf, IsSiteOf, IsWorld, StandsForWorld, WorldState, are_there}
use Rattle.sites_world.proofs.KnownTogether.{in_parts}
use Rattle.sites_world.proofs.Lists.{correspond_get, correspond_none, correspond_push, correspond_set, get_replicate, none_some, place_in, set_again, some_within}
use Rattle.sites_world.proofs.MayTake.{may_take}

-- ---- at one site

-- a pool to which nothing is added
nothing_added : (pool : List Frame) (entries : List Entry) → Correspond IsFrameOf pool entries → Correspond IsFrameOf pool (entries ++ [])
nothing_added pool entries c = subst (Correspond IsFrameOf pool) (sym (append-nil entries)) c

-- a frame was asked for
pub framed_happened : (new : SiteState) (s : SiteKnowledge) (old pool : List Frame) (entries : List Entry) (maker : ℕ) (after : SiteKnowledge × steps.Outcome) (o : Outcome) → new.site ≡ maker
    → Correspond IsFrameOf old entries → IsFramedSo new s old pool after o → HasHappenedAt new s old pool entries (framed maker (length entries) after) o
framed_happened new s old pool entries maker after o site c (inr none) = inr none
framed_happened new s old pool entries maker after o site c (inl (e, stands, added)) = inl (
  ap is_done e,
  ap (λ n. Cut (frame_result n after.1)) (sym c.lengths) ∙ sym e,
  stands,
  grown after.1 added,
)
  where
    same_pool : pool ≡ old → Correspond IsFrameOf pool (entries ++ [])
    same_pool is = subst (λ p. Correspond IsFrameOf p (entries ++ [])) (sym is) (nothing_added old entries c)

    grown : (x : steps.Outcome) → HasAddedFrame new.site old pool x → Correspond IsFrameOf pool (entries ++ entries_of maker x)
    grown (Framed number carried) (frame, is, of) =
        subst (λ p. Correspond IsFrameOf p (entries ++ entries_of maker (Framed number carried))) (sym is)
        (correspond_push IsFrameOf old entries c frame (record { maker = maker; number = number; carried = carried })
        (record { maker = of.maker ∙ site; number = of.number; delta = of.delta; ranges = of.ranges }))
    grown steps.Done is = same_pool is
    grown (steps.Denied refusal) is = same_pool is
    grown steps.Nothing is = same_pool is
    grown steps.NoNumber is = same_pool is
    grown steps.Taken is = same_pool is
    grown steps.CellsFull is = same_pool is
    grown steps.RunsFull is = same_pool is

-- an ask was answered
pub asked_happened : (new : SiteState) (s : SiteKnowledge) (pool : List Frame) (entries : List Entry) (after : SiteKnowledge × Answer) (o : Outcome)
    → Correspond IsFrameOf pool entries → IsAnsweredSo new s after o → HasHappenedAt new s pool pool entries (answered after) o
asked_happened new s pool entries after o c (inl (e, stands)) = inl (ap is_done e, sym e, stands, nothing_added pool entries c)
asked_happened new s pool entries after o c (inr (e, stands)) = inr (e, stands, refl)

-- a frame was taken
pub taken_happened : (new : SiteState) (s : SiteKnowledge) (pool : List Frame) (entries : List Entry) (entry : Entry) (o : Outcome)
    → Correspond IsFrameOf pool entries → IsTakenSo new s (take s entry.carried) o → HasHappenedAt new s pool pool entries (taken s (Some entry)) o
taken_happened new s pool entries entry o c (inl (e, stands)) = inl (ap is_done e, sym e, stands, nothing_added pool entries c)
taken_happened new s pool entries entry o c (inr (e, stands)) = inr (e, stands, refl)

-- there is no such entry
pub missing_happened : (state : SiteState) (s : SiteKnowledge) (pool : List Frame) (entries : List Entry) → Correspond IsFrameOf pool entries → StandsFor state s
    → HasHappenedAt state s pool pool entries (taken s None) NoEntry
missing_happened state s pool entries c stands = inl (refl, refl, stands, nothing_added pool entries c)

-- an entry whose frame is in the pool is there
pub taken_found : (e : Event) (pool : List Frame) (w : World) → Correspond IsFrameOf pool w.pool → HasEntry pool e → has_entry w e ≡ true
taken_found (event.Ask site asked) pool w c within = refl
taken_found (event.Cut site) pool w c within = refl
taken_found (event.Whole site) pool w c within = refl
taken_found (event.Take site entry) pool w c within = by (slice_get w.pool entry) refl
  where
    by : (o : Option Entry) → slice_get w.pool entry ≡ o → is_some o ≡ true
    by (Some x) is = refl
    by None is = absurd (some_within w.pool entry (let same = c.lengths in omega (arith, within, same)) is)

-- ---- at the sites of a world

module _ (names_of_queues : List (List ℕ)) (sites : List SiteState) (pool : List Frame) (w : World)
    (stands : StandsForWorld (record { names = names_of_queues; sites = sites; pool = pool }) w) where
  -- each site of it may take each of its entries
  pub may_take_all : HasHistory names_of_queues w → (site : ℕ) (state : SiteState) (s : SiteKnowledge) → slice_get sites site ≡ Some state → slice_get w.sites site ≡ Some s
      → (place : ℕ) (entry : Entry) → slice_get w.pool place ≡ Some entry → MayBeTaken state entry.carried
  may_take_all has site state s here known place entry found =
      may_take names_of_queues (length w.sites) site has.made s state entry.carried has.is.history (has.is.sites site s known) (slice_get_within w.sites site s known)
      (stands.sites.each site state s here known) (has.is.pool entry (place_in w.pool place entry found))

  -- what has happened at a site has happened in the world
  at-site : (e : Event) (state new : SiteState) (s : SiteKnowledge) (grown : List Frame) (o : Outcome) → slice_get sites (site_of e) ≡ Some state → slice_get w.sites (site_of e) ≡ Some s
      → new.site ≡ state.site → new.names ≡ state.names → (o ≡ NoMemory → has_entry w e ≡ true) → HasHappenedAt new s pool grown w.pool (happens_at names_of_queues w.pool s e) o
      → HasHappened (record { names = names_of_queues; sites = slice_set sites (site_of e) new; pool = grown }) w e o
  at-site e state new s grown o here known site names_are found happened = by happened
    where
      of : IsSiteOf names_of_queues (site_of e) state s
      of = stands.sites.each (site_of e) state s here known

      within : site_of e < length sites
      within = slice_get_within sites (site_of e) state here

      stands_there : (t : SiteKnowledge) → StandsFor new t → IsSiteOf names_of_queues (site_of e) new t
      stands_there t known_so = record { site = site ∙ of.site; names_are = names_are ∙ of.names_are; stands = known_so }

      there : o ≡ NoMemory → is_there w e ≡ true
      there is = (λ i. is_some (known i) && found is i)

      done : happens names_of_queues w e ≡ happens_where names_of_queues w (site_of e) (Some s) e
      done = ap (λ x. happens_where names_of_queues w (site_of e) x e) known

      by : HasHappenedAt new s pool grown w.pool (happens_at names_of_queues w.pool s e) o
          → HasHappened (record { names = names_of_queues; sites = slice_set sites (site_of e) new; pool = grown }) w e o
      by (inl (is, reported, known_so, carried)) = inl (
        is,
        ap (λ x. x.1) done ∙ reported,
        subst (λ x. StandsForWorld (record { names = names_of_queues; sites = slice_set sites (site_of e) new; pool = grown }) x.0) (sym done)
            (record { sites = correspond_set (IsSiteOf names_of_queues) sites w.sites stands.sites (site_of e) new _ within (stands_there _ known_so); pool = carried }),
      )
      by (inr (is, known_so, same)) = inr (is, there is, record { sites = kept; pool = subst (λ p. Correspond IsFrameOf p w.pool) (sym same) stands.pool })
        where
          kept : Correspond (IsSiteOf names_of_queues) (slice_set sites (site_of e) new) w.sites
          kept = subst (Correspond (IsSiteOf names_of_queues) (slice_set sites (site_of e) new)) (set_again w.sites (site_of e) s known)
              (correspond_set (IsSiteOf names_of_queues) sites w.sites stands.sites (site_of e) new s within (stands_there s known_so))

  pub at_site_happened : (e : Event) (at : ℕ) (state new : SiteState) (grown : List Frame) (o : Outcome) → at ≡ site_of e → slice_get sites at ≡ Some state
      → new.site ≡ state.site → new.names ≡ state.names → (o ≡ NoMemory → has_entry w e ≡ true)
      → ((s : SiteKnowledge) → slice_get w.sites at ≡ Some s → HasHappenedAt new s pool grown w.pool (happens_at state.names w.pool s e) o)
      → HasHappened (record { names = names_of_queues; sites = slice_set sites at new; pool = grown }) w e o
  at_site_happened e at state new grown o is here site names_are found happened =
      let known = correspond_get (IsSiteOf names_of_queues) sites w.sites stands.sites at state here in
      subst (λ n. HasHappened (record { names = names_of_queues; sites = slice_set sites n new; pool = grown }) w e o) (sym is)
      (at-site e state new known.0 grown o (ap (slice_get sites) (sym is) ∙ here) (ap (slice_get w.sites) (sym is) ∙ known.1) site names_are found
      (subst (λ names. HasHappenedAt new known.0 pool grown w.pool (happens_at names w.pool known.0 e) o) known.2.names_are (happened known.0 known.1)))

  -- there is no such site
  pub no_site_happened : (e : Event) → length sites ≤ site_of e → HasHappened (record { names = names_of_queues; sites = sites; pool = pool }) w e NoSite
  no_site_happened e past =
      let done : happens names_of_queues w e ≡ (w, NoSite) = ap (λ x. happens_where names_of_queues w (site_of e) x e) (correspond_none (IsSiteOf names_of_queues) sites w.sites stands.sites (site_of e) past) in
      inl (refl, ap (λ x. x.1) done, subst (λ x. StandsForWorld (record { names = names_of_queues; sites = sites; pool = pool }) x.0) (sym done) stands)

-- ---- events in turn

-- the events that were done, with one more
done_push : (es : List Event) (os : List Outcome) (e : Event) (o : Outcome) → length os ≡ length es → done_of (es ++ e ∷ []) (os ++ o ∷ []) ≡ done_of es os ++ (if is_done o then e ∷ [] else [])
done_push [] [] e o same = refl
done_push [] (p ∷ os) e o same = absurd (omega (arith, same))
done_push (f ∷ es) [] e o same = absurd (omega (arith, same))
done_push (f ∷ es) (p ∷ os) e o same = by (is_done p) (done_push es os e o (omega (arith, same)))
  where
    by : (b : Bool) → done_of (es ++ e ∷ []) (os ++ o ∷ []) ≡ done_of es os ++ (if is_done o then e ∷ [] else [])
        → (if b then f ∷ done_of (es ++ e ∷ []) (os ++ o ∷ []) else done_of (es ++ e ∷ []) (os ++ o ∷ [])) ≡ (if b then f ∷ done_of es os else done_of es os) ++ (if is_done o then e ∷ [] else [])
    by true h = ap (λ xs. f ∷ xs) h
    by false h = h

outcomes_push : (os : List Outcome) (o : Outcome) → outcomes_of (os ++ o ∷ []) ≡ outcomes_of os ++ (if is_done o then o ∷ [] else [])
outcomes_push [] o = refl
outcomes_push (p ∷ os) o = by (is_done p) (outcomes_push os o)
  where
    by : (b : Bool) → outcomes_of (os ++ o ∷ []) ≡ outcomes_of os ++ (if is_done o then o ∷ [] else [])
        → (if b then p ∷ outcomes_of (os ++ o ∷ []) else outcomes_of (os ++ o ∷ [])) ≡ (if b then p ∷ outcomes_of os else outcomes_of os) ++ (if is_done o then o ∷ [] else [])
    by true h = ap (λ xs. p ∷ xs) h
    by false h = h

-- what is to be shown of one event more, from a world on
abbrev Goes : List (List ℕ) → List Event → List Outcome → Event → Outcome → World → Type 0
Goes names es os e o v = are_there names v es os ≡ true → (is_done o ≡ false → is_there (run names v (done_of es os)).0 e ≡ true) → are_there names v (es ++ e ∷ []) (os ++ o ∷ []) ≡ true

-- if one further event ran out of memory, its site and its entry are there too
there_push : (names_of_queues : List (List ℕ)) (w : World) (es : List Event) (os : List Outcome) (e : Event) (o : Outcome) → length os ≡ length es → are_there names_of_queues w es os ≡ true
    → (is_done o ≡ false → is_there (run names_of_queues w (done_of es os)).0 e ≡ true) → are_there names_of_queues w (es ++ e ∷ []) (os ++ o ∷ []) ≡ true
there_push names_of_queues w [] [] e o same all last = by (is_done o) refl
  where
    by : (b : Bool) → is_done o ≡ b → (if b then true else is_there w e && true) ≡ true
    by true is = refl
    by false is = and_from (is_there w e) true (last is) refl
there_push names_of_queues w [] (p ∷ os) e o same all last = absurd (omega (arith, same))
there_push names_of_queues w (f ∷ es) [] e o same all last = absurd (omega (arith, same))
there_push names_of_queues w (f ∷ es) (p ∷ os) e o same all last =
    by (is_done p) (there_push names_of_queues (happens names_of_queues w f).0 es os e o (omega (arith, same))) (there_push names_of_queues w es os e o (omega (arith, same))) all last
  where
    by : (b : Bool) → Goes names_of_queues es os e o (happens names_of_queues w f).0 → Goes names_of_queues es os e o w
        → (if b then are_there names_of_queues (happens names_of_queues w f).0 es os else is_there w f && are_there names_of_queues w es os) ≡ true
        → (is_done o ≡ false → is_there (run names_of_queues w (if b then f ∷ done_of es os else done_of es os)).0 e ≡ true)
        → (if b then are_there names_of_queues (happens names_of_queues w f).0 (es ++ e ∷ []) (os ++ o ∷ []) else is_there w f && are_there names_of_queues w (es ++ e ∷ []) (os ++ o ∷ [])) ≡ true
    by true after_it before_it so_far at_last = after_it so_far at_last
    by false after_it before_it so_far at_last = let parts = and_parts (is_there w f) _ so_far in and_from (is_there w f) _ parts.0 (before_it parts.1 at_last)

module _ (names_of_queues : List (List ℕ)) (sites : ℕ) (w : World) where
  -- a world that was reached leads to others that are
  pub reached_more : (events : List Event) → IsReached names_of_queues sites w → IsReached names_of_queues sites (run names_of_queues w events).0
  reached_more events reached = record {
    events = reached.events ++ events;
    is = (in_parts names_of_queues (new_world sites) reached.events events).world ∙ ap (λ x. (run names_of_queues x events).0) reached.is;
  }

module _ (names_of_queues : List (List ℕ)) (w : World) (es : List Event) (os : List Outcome) (e : Event) (o : Outcome) (new_sites : List SiteState) (new_pool : List Frame) where
  abbrev new : WorldState
  new = record { names = names_of_queues; sites = new_sites; pool = new_pool }

  -- one event more has happened
  pub happened_more : (old_sites : List SiteState) (old_pool : List Frame) → HaveHappened (record { names = names_of_queues; sites = old_sites; pool = old_pool }) w es os
      → HasHappened new (run names_of_queues w (done_of es os)).0 e o → HaveHappened new w (es ++ e ∷ []) (os ++ o ∷ [])
  happened_more old_sites old_pool before happened = by happened
    where
      lengths : length (os ++ o ∷ []) ≡ length (es ++ e ∷ [])
      lengths = length-append os (o ∷ []) ∙ ap (λ n. n + 1) before.one_each ∙ sym (length-append es (e ∷ []))

      pushed : (b : Bool) → is_done o ≡ b → done_of (es ++ e ∷ []) (os ++ o ∷ []) ≡ done_of es os ++ (if b then e ∷ [] else [])
      pushed b is = done_push es os e o before.one_each ∙ ap (λ c. done_of es os ++ (if c then e ∷ [] else [])) is

      reported : (b : Bool) → is_done o ≡ b → outcomes_of (os ++ o ∷ []) ≡ outcomes_of os ++ (if b then o ∷ [] else [])
      reported b is = outcomes_push os o ∙ ap (λ c. outcomes_of os ++ (if c then o ∷ [] else [])) is

      by : HasHappened new (run names_of_queues w (done_of es os)).0 e o → HaveHappened new w (es ++ e ∷ []) (os ++ o ∷ [])
      by (inl (is, outcome_is, stands)) =
          let events = pushed true is in
          let parts = in_parts names_of_queues w (done_of es os) (e ∷ []) in
          record {
            one_each = lengths;
            there = there_push names_of_queues w es os e o before.one_each before.there (λ undone. absurd (true≢false (sym is ∙ undone)));
            outcomes_are = reported true is ∙ (λ i. before.outcomes_are i ++ sym outcome_is i ∷ []) ∙ sym parts.outcomes ∙ ap (λ xs. (run names_of_queues w xs).1) (sym events);
            stands = subst (StandsForWorld new) (sym parts.world ∙ ap (λ xs. (run names_of_queues w xs).0) (sym events)) stands;
          }
      by (inr (is, here, stands)) =
          let undone : is_done o ≡ false = ap is_done is in
          let events = pushed false undone ∙ append-nil (done_of es os) in
          record {
            one_each = lengths;
            there = there_push names_of_queues w es os e o before.one_each before.there (λ again. here);
            outcomes_are = reported false undone ∙ append-nil (outcomes_of os) ∙ before.outcomes_are ∙ ap (λ xs. (run names_of_queues w xs).1) (sym events);
            stands = subst (λ xs. StandsForWorld new (run names_of_queues w xs).0) (sym events) stands;
          }

-- no event has happened
pub none_happened : (state : WorldState) (w : World) (outcomes : List Outcome) → outcomes ≡ [] → StandsForWorld state w → HaveHappened state w [] outcomes
none_happened state w outcomes none stands = subst (HaveHappened state w []) (sym none) (record { one_each = refl; there = refl; outcomes_are = refl; stands = stands })

-- ---- new sites

-- new sites stand for a new world
pub new_stands : (names_of_queues : List (List ℕ)) (count : ℕ) (sites : List SiteState) (pool : List Frame) → length sites ≡ count → pool ≡ []
    → ((site : ℕ) (state : SiteState) → slice_get sites site ≡ Some state → IsSiteOf names_of_queues site state steps.new_site)
    → StandsForWorld (record { names = names_of_queues; sites = sites; pool = pool }) (new_world count)
new_stands names_of_queues count sites pool long none each = record {
  sites = record {
    lengths = long ∙ sym (length-replicate count steps.new_site);
    each = λ site state s here known. subst (IsSiteOf names_of_queues site state) (sym (get_replicate count steps.new_site site s known)) (each site state here);
  };
  pool = subst (λ p. Correspond IsFrameOf p []) (sym none) (record { lengths = refl; each = λ place frame entry here found. absurd (none_some frame here) });
}

-- the frame of an entry is within the ranges of the format
pub entry_in_ranges : {T : Type 0} (now : T → Frame) (found : Option T) (state : WorldState) (entry : ℕ) → IsWorld state → option_map now found ≡ slice_get state.pool entry → IfSome found (λ x. IsInRanges (now x))
entry_in_ranges now None state entry is same = tt
entry_in_ranges now (Some x) state entry is same = (correspond_get IsFrameOf state.pool is.world.pool is.stands.pool entry (now x) (sym same)).2.ranges
