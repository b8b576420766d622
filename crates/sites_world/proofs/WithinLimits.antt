-- Each operation of a world that events of values within their limits lead to is within its limits.
use Rattle.std.proofs.Common.{◌≡◌, ◌<◌, ◌≤◌, ◌⊎◌, inl, inr, ℕ, suc, Bool, true, false, nat_lt, List, [], ◌∷◌, ◌++◌, Contains, length, slice_get, slice_set, Option, Some, None, refl, sym, ap, subst, ◌∙◌, arith}
use Rattle.std.specs.FinSet as set
use Rattle.std.specs.List.{AllByRecursion}
use Rattle.std.proofs.lemmas.List.Elements.{Contains-append_cases, recursion_from_All}
use Rattle.std.proofs.lemmas.List.{length-replicate}
use Rattle.std.proofs.lemmas.Option.{slice_get_within}
use Rattle.dots.specs.declared.limits.TheConstants.{MOST_COUNT, MOST_LIVE, MOST_RUNS, SITES}
use Rattle.dots.specs.Values.{IsSite}
use Rattle.dots.specs.DotSets.{run_count}
use Rattle.operations.specs.Operations.{Operation}
use Rattle.operations.specs.Knowledge.{Knowledge, known_dots, visible_dots}
use Rattle.operations.specs.OperationLimits.{AreWithinLimits, IsWithinLimits}
use Rattle.general_lemmas.proofs.Membership.{cases_in, nothing_in, only_in}
use Rattle.replica.specs.Changes.{Makes, Meaning, Refused, change_of, meaning}
use Rattle.replica.specs.Queues.{AreQueues}
use Rattle.replica.specs.SiteViews.{site_view}
use Rattle.replica.specs.Steps.{SiteKnowledge, after_frame, after_meaning, cut, new_site, take}
use Rattle.replica.proofs.MadeLimits.{makes_within_limits}
use Rattle.status_report.specs.declared.asks.Ask.{Ask}
use Rattle.status_report.specs.declared.asks.Ask.TheVariants.{Command as asked_command, Status}
use Rattle.status_report.specs.Knowing.{answer_in}
use Rattle.sites_world.specs.declared.event.Event.{Event}
use Rattle.sites_world.specs.declared.event.Event.TheVariants as event
use Rattle.sites_world.specs.Histories.{Buffered, Carried, IsIn, Known}
use Rattle.sites_world.specs.Promises.{EventsKeepLimits, WorldsAreWithinLimits}
use Rattle.sites_world.specs.WithinLimits.{HasValuesWithinLimits, KnowsWithinLimits}
use Rattle.sites_world.specs.Worlds.{Entry, Happening, World, answered, framed, happens, happens_at, happens_where, new_world, run, site_of, taken}
use Rattle.sites_world.proofs.Growing.{event_grows}
use Rattle.sites_world.proofs.Lists.{get_replicate, get_set_other, get_set_same, one_some, place_in, same_place}
use Rattle.sites_world.proofs.OutcomeLaws.{frame_by, take_by}

-- ---- at one site

-- what a site knows and has in its buffer is within limits
record IsSiteWithin (s : SiteKnowledge) : Type 0 where
  known : AreWithinLimits s.known
  buffer : AreWithinLimits s.buffer

-- the effect of an event is within the limits: what the site knows, and the entries that the pool gets
record IsHappeningWithin (h : Happening) : Type 0 where
  site : IsSiteWithin h.site
  added : (entry : Entry) → Contains h.added entry → AreWithinLimits entry.carried

-- nothing is within limits
none_within : AreWithinLimits []
none_within o here = absurd (nothing_in o here)

no_entry : (entry : Entry) → Contains [] entry → AreWithinLimits entry.carried
no_entry entry here = absurd (nothing_in entry here)

-- one operation more
one_more : (o : Operation) (k : Knowledge) → IsWithinLimits o → AreWithinLimits k → AreWithinLimits (o ∷ k)
one_more o k is are p here = elim (cases_in o k p here) [
  | inl same ↦ subst IsWithinLimits same is
  | inr later ↦ are p later
]

-- two parts
both_within : (k l : Knowledge) → AreWithinLimits k → AreWithinLimits l → AreWithinLimits (k ++ l)
both_within k l first second o here = elim (Contains-append_cases k l o here) [ inl a ↦ first o a | inr b ↦ second o b ]

ask_within : (site : ℕ) (names : List (List ℕ)) (s : SiteKnowledge) (asked : Ask) → IsSite site → AreQueues names → HasValuesWithinLimits (event.Ask site asked) → IsSiteWithin s
    → IsHappeningWithin (answered (answer_in site names s asked))
ask_within site names s (Status request) at queues values within = record { site = within; added = no_entry }
ask_within site names s (asked_command command) at queues values within =
    record { site = by (meaning site names (site_view site s.known) (site_view site s.buffer) (change_of command)) refl; added = no_entry }
  where
    by : (m : Meaning) → meaning site names (site_view site s.known) (site_view site s.buffer) (change_of command) ≡ m → IsSiteWithin (after_meaning s m).0
    by (Refused refusal) is = within
    by (Makes o) is =
        let made = makes_within_limits site names (change_of command) s.known s.buffer o at queues values within.known is in
        record { known = one_more o s.known made within.known; buffer = one_more o s.buffer made within.buffer }

frame_within : (site entries : ℕ) (s : SiteKnowledge) (frame buffer : Knowledge) → IsSiteWithin s → AreWithinLimits frame → AreWithinLimits buffer
    → IsHappeningWithin (framed site entries (after_frame s frame buffer))
frame_within site entries s frame buffer within says rest = by (nat_lt MOST_COUNT (suc s.frames))
  where
    by : (b : Bool) → IsHappeningWithin (framed site entries (frame_by s frame buffer b))
    by true = record { site = within; added = no_entry }
    by false = record {
      site = record { known = within.known; buffer = rest };
      added = λ entry here. subst (λ e. AreWithinLimits e.carried) (only_in _ entry here) says;
    }

cut_within : (site entries : ℕ) (s : SiteKnowledge) (buffer : Knowledge) → IsSiteWithin s → AreWithinLimits buffer → IsHappeningWithin (framed site entries (cut s buffer))
cut_within site entries s [] within says = record { site = within; added = no_entry }
cut_within site entries s (o ∷ os) within says = frame_within site entries s (o ∷ os) [] within says none_within

take_within : (s : SiteKnowledge) (frame : Knowledge) → IsSiteWithin s → AreWithinLimits frame → IsSiteWithin (take s frame).0
take_within s frame within says = by (nat_lt MOST_LIVE (set.len (visible_dots (frame ++ s.known)))) (nat_lt MOST_RUNS (run_count (known_dots (frame ++ s.known))))
  where
    by : (cells runs : Bool) → IsSiteWithin (take_by s frame cells runs).0
    by true runs = within
    by false true = within
    by false false = record { known = both_within frame s.known says within.known; buffer = within.buffer }

taken_within : (s : SiteKnowledge) (found : Option Entry) → IsSiteWithin s → ((entry : Entry) → found ≡ Some entry → AreWithinLimits entry.carried) → IsHappeningWithin (taken s found)
taken_within s None within says = record { site = within; added = no_entry }
taken_within s (Some entry) within says = record { site = take_within s entry.carried within (says entry refl); added = no_entry }

at_within : (names : List (List ℕ)) (pool : List Entry) (s : SiteKnowledge) (e : Event) → IsSite (site_of e) → AreQueues names → HasValuesWithinLimits e → IsSiteWithin s
    → ((entry : Entry) → Contains pool entry → AreWithinLimits entry.carried) → IsHappeningWithin (happens_at names pool s e)
at_within names pool s (event.Ask site asked) at queues values within carried = ask_within site names s asked at queues values within
at_within names pool s (event.Cut site) at queues values within carried = cut_within site (length pool) s s.buffer within within.buffer
at_within names pool s (event.Whole site) at queues values within carried = frame_within site (length pool) s s.known s.buffer within within.known within.buffer
at_within names pool s (event.Take site place) at queues values within carried =
    taken_within s (slice_get pool place) within (λ entry found. carried entry (place_in pool place entry found))

-- ---- worlds

-- a world with a site put in, and entries at the end of its pool
put_within : (w : World) (at : ℕ) (h : Happening) → at < length w.sites → KnowsWithinLimits w → IsHappeningWithin h
    → KnowsWithinLimits (record { sites = slice_set w.sites at h.site; pool = w.pool ++ h.added })
put_within w at h there all now k is = by is
  where
    site_within : (site : ℕ) (s : SiteKnowledge) → slice_get (slice_set w.sites at h.site) site ≡ Some s → ((site ≡ at) ⊎ (site ≡ at → ⊥)) → IsSiteWithin s
    site_within site s here (inl same) =
        subst IsSiteWithin (one_some h.site s (sym (get_set_same w.sites at h.site there) ∙ ap (slice_get (slice_set w.sites at h.site)) (sym same) ∙ here)) now.site
    site_within site s here (inr apart) =
        let was = sym (get_set_other w.sites at site h.site apart) ∙ here in
        record { known = all s.known (Known site s was refl); buffer = all s.buffer (Buffered site s was refl) }

    by : IsIn (record { sites = slice_set w.sites at h.site; pool = w.pool ++ h.added }) k → AreWithinLimits k
    by (Known site s here same) = subst AreWithinLimits (sym same) (site_within site s here (same_place at site)).known
    by (Buffered site s here same) = subst AreWithinLimits (sym same) (site_within site s here (same_place at site)).buffer
    by (Carried entry here same) = subst AreWithinLimits (sym same) (elim (Contains-append_cases w.pool h.added entry here) [
      | inl was ↦ all entry.carried (Carried entry was refl)
      | inr new ↦ now.added entry new
    ])

pub events_keep_limits : EventsKeepLimits
events_keep_limits names w e queues few values all = by (slice_get w.sites (site_of e)) refl
  where
    by : (found : Option SiteKnowledge) → slice_get w.sites (site_of e) ≡ found → KnowsWithinLimits (happens_where names w (site_of e) found e).0
    by None here = all
    by (Some s) here =
        let there = slice_get_within w.sites (site_of e) s here in
        put_within w (site_of e) (happens_at names w.pool s e) there all
        (at_within names w.pool s e (omega (arith, there, few)) queues values
        (record { known = all s.known (Known (site_of e) s here refl); buffer = all s.buffer (Buffered (site_of e) s here refl) })
        (λ entry carried. all entry.carried (Carried entry carried refl)))

-- events in turn
run_within : (names : List (List ℕ)) (w : World) (events : List Event) → AreQueues names → length w.sites ≤ SITES → AllByRecursion HasValuesWithinLimits events → KnowsWithinLimits w
    → KnowsWithinLimits (run names w events).0
run_within names w [] queues few values all = all
run_within names w (e ∷ es) queues few values all =
    run_within names (happens names w e).0 es queues (subst (λ n. n ≤ SITES) (sym (event_grows names w e).count) few) values.1
    (events_keep_limits names w e queues few values.0 all)

-- a new world has no operation
pub new_within : (sites : ℕ) → KnowsWithinLimits (new_world sites)
new_within sites k is o here = by is
  where
    nothing : (l : Knowledge) → k ≡ l → l ≡ [] → IsWithinLimits o
    nothing l same none = absurd (nothing_in o (subst (λ x. Contains x o) (same ∙ none) here))

    by : IsIn (new_world sites) k → IsWithinLimits o
    by (Known site s found same) = nothing s.known same (ap (λ x. x.known) (get_replicate sites new_site site s found))
    by (Buffered site s found same) = nothing s.buffer same (ap (λ x. x.buffer) (get_replicate sites new_site site s found))
    by (Carried entry none same) = absurd (nothing_in entry none)

pub worlds_within_limits : WorldsAreWithinLimits
worlds_within_limits names sites events queues few values =
    run_within names (new_world sites) events queues (subst (λ n. n ≤ SITES) (sym (length-replicate sites new_site)) few) (recursion_from_All HasValuesWithinLimits events values) (new_within sites)
