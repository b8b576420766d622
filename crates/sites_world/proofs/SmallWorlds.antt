-- A world that events lead to is small, so each of its entries fits in a frame where its operations are within their limits.
use Rattle.std.proofs.Common.{◌≡◌, ◌<◌, ◌⊎◌, inl, inr, ℕ, Bool, true, false, if◌then◌else◌, List, [], ◌∷◌, ◌++◌, Contains, length, slice_get, slice_set, Option, Some, None, refl, sym, ap, subst, ◌∙◌, arith}
use Rattle.std.specs.FinMap as map
use Rattle.std.specs.Option.{option_map}
use Rattle.std.proofs.lemmas.List.Elements.{Contains-append_cases}
use Rattle.std.proofs.lemmas.List.{length-replicate, length-set}
use Rattle.std.proofs.lemmas.Option.{slice_get_within}
use Rattle.general_lemmas.proofs.Membership.{nothing_in, only_in}
use Rattle.dots.specs.declared.limits.TheConstants.{QUEUES}
use Rattle.dots.specs.declared.member.Member.{Member}
use Rattle.dots.specs.Values.{Dot, IsCount, IsSite}
use Rattle.operations.specs.Conditions.{fields_in}
use Rattle.operations.specs.FrameLimits.{IsSmallEnough}
use Rattle.operations.specs.Knowledge.{Knowledge, is_named, member_of}
use Rattle.operations.proofs.WithinLimitsLaws.{member_of_is}
use Rattle.member_orset.specs.Members.{Holding}
use Rattle.delta.specs.DeltaStates.{DeltaState}
use Rattle.delta.specs.Standing.{IsDeltaOf}
use Rattle.delta.proofs.ShownDeltas.{live_is}
use Rattle.replica.specs.FrameSteps.{IsSmallFrame, IsSmallSite, StaysSmall, StepsStaySmall}
use Rattle.replica.specs.Changes.{change_of}
use Rattle.replica.specs.Steps as steps
use Rattle.replica.specs.Steps.{SiteKnowledge, Cut, Do, Framed, Take, Whole, new_site, step}
use Rattle.status_report.specs.declared.asks.Ask.TheVariants.{Command as asked_command, Status}
use Rattle.sites_world.specs.declared.event.Event.{Event}
use Rattle.sites_world.specs.declared.event.Event.TheVariants as event
use Rattle.sites_world.specs.Fitting.{EntriesFit, EntriesHaveFrames, FramesFit, HoldWhatFits, IsSmallEntry, IsSmallWorld, WorldsAreSmall}
use Rattle.sites_world.specs.Histories.{Buffered, Carried, IsIn, Known}
use Rattle.sites_world.specs.WorldStates.{IsFrameOf}
use Rattle.sites_world.specs.Worlds.{Entry, Happening, World, entries_of, framed, happens, happens_at, happens_where, new_world, run, site_of, taken}
use Rattle.sites_world.proofs.Held.{held_in}
use Rattle.sites_world.proofs.Lists.{get_replicate, get_set_other, get_set_same, correspond_get, one_some, place_in, same_place}

-- ---- at one site

-- the effect of an event at one of `sites` sites is small: the site, and the entries that the pool gets
record IsSmallHappening (sites : ℕ) (h : Happening) : Type 0 where
  site : IsSmallSite h.site
  added : (entry : Entry) → Contains h.added entry → IsSmallEntry sites entry

no_entry : (sites : ℕ) (entry : Entry) → Contains [] entry → IsSmallEntry sites entry
no_entry sites entry here = absurd (nothing_in entry here)

-- the entry of a frame that was made
entry_small : (sites maker : ℕ) (o : steps.Outcome) → maker < sites → IsSmallFrame o → (entry : Entry) → Contains (entries_of maker o) entry → IsSmallEntry sites entry
entry_small sites maker (Framed number carried) at small entry here = subst (IsSmallEntry sites) (only_in _ entry here) (record { maker = at; number = small.0; carried = small.1 })
entry_small sites maker steps.Done at small entry here = no_entry sites entry here
entry_small sites maker (steps.Denied refusal) at small entry here = no_entry sites entry here
entry_small sites maker steps.Nothing at small entry here = no_entry sites entry here
entry_small sites maker steps.NoNumber at small entry here = no_entry sites entry here
entry_small sites maker steps.Taken at small entry here = no_entry sites entry here
entry_small sites maker steps.CellsFull at small entry here = no_entry sites entry here
entry_small sites maker steps.RunsFull at small entry here = no_entry sites entry here

framed_small : (sites site entries : ℕ) (after : SiteKnowledge × steps.Outcome) → site < sites → StaysSmall after → IsSmallHappening sites (framed site entries after)
framed_small sites site entries after at stays = record { site = stays.site; added = entry_small sites site after.1 at stays.frame }

module _ (stay : StepsStaySmall) where
  taken_small : (sites site : ℕ) (names : List (List ℕ)) (s : SiteKnowledge) (found : Option Entry) → IsSmallSite s → IsSmallHappening sites (taken s found)
  taken_small sites site names s None small = record { site = small; added = no_entry sites }
  taken_small sites site names s (Some entry) small = record { site = (stay site names s (Take entry.carried) small).site; added = no_entry sites }

  at_small : (sites : ℕ) (names : List (List ℕ)) (pool : List Entry) (s : SiteKnowledge) (e : Event) → site_of e < sites → IsSmallSite s → IsSmallHappening sites (happens_at names pool s e)
  at_small sites names pool s (event.Ask site (Status request)) at small = record { site = small; added = no_entry sites }
  at_small sites names pool s (event.Ask site (asked_command command)) at small = record { site = (stay site names s (Do (change_of command)) small).site; added = no_entry sites }
  at_small sites names pool s (event.Cut site) at small = framed_small sites site (length pool) (step site names s Cut) at (stay site names s Cut small)
  at_small sites names pool s (event.Whole site) at small = framed_small sites site (length pool) (step site names s Whole) at (stay site names s Whole small)
  at_small sites names pool s (event.Take site place) at small = taken_small sites site names s (slice_get pool place) small

-- ---- worlds

-- each knowledge of a small world is small
small_in : (sites : ℕ) (w : World) (k : Knowledge) → IsSmallWorld sites w → IsIn w k → IsSmallEnough k
small_in sites w k all (Known site s here same) = subst IsSmallEnough (sym same) (all.known site s here).known
small_in sites w k all (Buffered site s here same) = subst IsSmallEnough (sym same) (all.known site s here).buffer
small_in sites w k all (Carried entry here same) = subst IsSmallEnough (sym same) (all.pool entry here).carried

-- a world with a site put in, and entries at the end of its pool
put_small : (sites : ℕ) (w : World) (at : ℕ) (h : Happening) → at < length w.sites → IsSmallWorld sites w → IsSmallHappening sites h
    → IsSmallWorld sites (record { sites = slice_set w.sites at h.site; pool = w.pool ++ h.added })
put_small sites w at h there all now = record {
  count = length-set w.sites at h.site ∙ all.count;
  known = λ site s here. by site s here (same_place at site);
  pool = λ entry here. elim (Contains-append_cases w.pool h.added entry here) [ inl was ↦ all.pool entry was | inr new ↦ now.added entry new ];
}
  where
    by : (site : ℕ) (s : SiteKnowledge) → slice_get (slice_set w.sites at h.site) site ≡ Some s → ((site ≡ at) ⊎ (site ≡ at → ⊥)) → IsSmallSite s
    by site s here (inl same) =
        subst IsSmallSite (one_some h.site s (sym (get_set_same w.sites at h.site there) ∙ ap (slice_get (slice_set w.sites at h.site)) (sym same) ∙ here)) now.site
    by site s here (inr apart) = all.known site s (sym (get_set_other w.sites at site h.site apart) ∙ here)

module _ (stay : StepsStaySmall) where
  event_small : (sites : ℕ) (names : List (List ℕ)) (w : World) (e : Event) → IsSmallWorld sites w → IsSmallWorld sites (happens names w e).0
  event_small sites names w e all = by (slice_get w.sites (site_of e)) refl
    where
      by : (found : Option SiteKnowledge) → slice_get w.sites (site_of e) ≡ found → IsSmallWorld sites (happens_where names w (site_of e) found e).0
      by None here = all
      by (Some s) here =
          let there = slice_get_within w.sites (site_of e) s here in
          put_small sites w (site_of e) (happens_at names w.pool s e) there all
          (at_small stay sites names w.pool s e (subst (λ n. site_of e < n) all.count there) (all.known (site_of e) s here))

  run_small : (sites : ℕ) (names : List (List ℕ)) (w : World) (events : List Event) → IsSmallWorld sites w → IsSmallWorld sites (run names w events).0
  run_small sites names w [] all = all
  run_small sites names w (e ∷ es) all = run_small sites names (happens names w e).0 es (event_small sites names w e all)

  module _ (new : IsSmallSite new_site) where
    new_small : (sites : ℕ) → IsSmallWorld sites (new_world sites)
    new_small sites = record {
      count = length-replicate sites new_site;
      known = λ site s here. subst IsSmallSite (sym (get_replicate sites new_site site s here)) new;
      pool = λ entry here. no_entry sites entry here;
    }

    pub worlds_small : WorldsAreSmall
    worlds_small names sites w reached = subst (IsSmallWorld sites) reached.is (run_small sites names (new_world sites) reached.events (new_small sites))

    pub entries_fit : EntriesFit
    entries_fit names sites w entry reached few within here =
        let small = (worlds_small names sites w reached).pool entry here in
        let maker = small.maker in
        record { maker = omega (arith, maker, few); number = small.number; carried = record { small = small.carried; within = within entry.carried (Carried entry here refl) } }

    pub held_fits : HoldWhatFits
    held_fits state d is held =
        let k = held_in state is.world d is.stands held in
        (k.0, k.2, record { small = small_in (length state.sites) is.world k.0 (worlds_small state.names (length state.sites) is.world is.reached) k.1; within = is.within k.0 k.1 })

    pub frames_fit : FramesFit
    frames_fit state place frame is here =
        let entry = correspond_get IsFrameOf state.pool is.world.pool is.stands.pool place frame here in
        let fits =
        entries_fit state.names (length state.sites) is.world entry.0 is.reached is.few is.within (place_in is.world.pool place entry.0 entry.1) in
        record {
          knowledge = entry.0.carried;
          stands = entry.2.delta;
          fits = fits.carried;
          maker = subst IsSite (sym entry.2.maker) fits.maker;
          number = subst IsCount (sym entry.2.number) fits.number;
        }

-- ---- frames of entries

-- an entry that fits has a frame, where each knowledge has a delta
pub has_frame : ((k : Knowledge) → (x : DeltaState) × IsDeltaOf x k) → EntriesHaveFrames
has_frame delta place entry fits =
    let x = delta entry.carried in (
      record { maker = entry.maker; number = entry.number; delta = x.0 },
      record {
        maker = refl;
        number = refl;
        delta = x.1;
        ranges = record { number = fits.number; queues = λ dot held h. queue x.0 x.1 dot held h };
      },
    )
  where
    one : (x y : Holding) → Some x ≡ Some y → x ≡ y
    one x y e = cc

    queue : (x : DeltaState) → IsDeltaOf x entry.carried → (dot : Dot) (held : Holding) → map.get x.members.live dot ≡ Some held → held.0.queue < QUEUES
    queue x is dot held h = by (is_named entry.carried dot) (member_of entry.carried dot) refl (sym (live_is x entry.carried is dot) ∙ h)
      where
        by : (n : Bool) (m : Option Member) → member_of entry.carried dot ≡ m → (if n then None else option_map (λ m. (m, fields_in entry.carried dot)) m) ≡ Some held → held.0.queue < QUEUES
        by true m e l = absurd (cc)
        by false None e l = absurd (cc)
        by false (Some m) e l =
            subst (λ n. n < QUEUES) (ap (λ (held : Holding). held.0.queue) (one (m, fields_in entry.carried dot) held l)) (member_of_is entry.carried fits.carried.within dot m e).1.queue
