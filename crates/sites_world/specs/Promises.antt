-- Promises of the definition of the world, as statements that the laws prove.
use Rattle.sites_world.specs.Outcomes.{IsOutcomeOf, changes_nothing}
use Rattle.sites_world.specs.declared.outcome.Outcome.TheVariants.{Answered, NoEntry, NoSite, Took}
use Rattle.status_report.specs.declared.asks.Answer.TheVariants.{Report}
use Rattle.std.specs.Prelude.{ℕ, ◌≡◌, ◌≢◌, ◌↔◌, ◌≤◌, ◌*◌, ◌++◌, true, false, Contains, List, Some, None, Ok, length, slice_get}
use Rattle.std.specs.FinMap as map
use Rattle.std.specs.FinSet as set
use Rattle.std.specs.List.{All, filter_map}
use Rattle.dots.specs.declared.limits.TheConstants.{SITES}
use Rattle.replica.specs.Queues.{AreQueues}
use Rattle.dots.specs.declared.member.Member.{Member}
use Rattle.dots.specs.Orders.{member_cmp}
use Rattle.dots.specs.Values.{Dot}
use Rattle.operations.specs.Operations.{Operation}
use Rattle.operations.specs.Rows.{DotView, dot_view}
use Rattle.operations.specs.Knowledge.{IsConsistent, Knowledge, SameOperations, member_of, visible_dots}
use Rattle.delta.specs.DeltaStates.{DeltaState, IsSame}
use Rattle.delta.specs.Joining.{DeltasAgree, IsJoinOf}
use Rattle.delta.specs.Standing.{IsDeltaOf}
use Rattle.replica.specs.Steps.{SiteKnowledge}
use Rattle.status_report.specs.declared.asks.Ask.TheVariants.{Status}
use Rattle.status_report.specs.declared.request.StatusRequest.{StatusRequest}
use Rattle.status_report.specs.Knowing.{status_in}
use Rattle.sites_world.specs.declared.event.Event.{Event}
use Rattle.sites_world.specs.declared.event.Event.TheVariants as event
use Rattle.sites_world.specs.Histories.{HasHistory, IsIn, IsOf, IsPartOf, Makes}
use Rattle.sites_world.specs.WithinLimits.{HasValuesWithinLimits, KnowsWithinLimits}
use Rattle.sites_world.specs.Worlds.{Entry, IsReached, World, happens, has_entry, is_done, new_world, run, site_of}

-- each world that events lead to has a history
abbrev pub HaveHistories : Type 0
HaveHistories = (names : List (List ℕ)) (sites : ℕ) (w : World) → IsReached names sites w → HasHistory names w

-- adds of one dot, in any two knowledges of one world, are one operation
abbrev pub HaveOneAddADot : Type 0
HaveOneAddADot = (names : List (List ℕ)) (sites : ℕ) (w : World) (k l : Knowledge) (o p : Operation) (dot : Dot) → IsReached names sites w → IsIn w k → IsIn w l
    → Contains k o → Contains l p → Makes dot o → Makes dot p → o ≡ p

-- an add that is in a knowledge of a world was made at the site of the dot that it makes
abbrev pub AddAtTheirSites : Type 0
AddAtTheirSites = (names : List (List ℕ)) (sites : ℕ) (w : World) (k : Knowledge) (o : Operation) (dot : Dot) → IsReached names sites w → IsIn w k
    → Contains k o → Makes dot o → IsOf dot.site o

-- any two knowledges of one world are consistent together
abbrev pub AreConsistentTogether : Type 0
AreConsistentTogether = (names : List (List ℕ)) (sites : ℕ) (w : World) (k l : Knowledge) → IsReached names sites w → IsIn w k → IsIn w l → IsConsistent (k ++ l)

-- deltas of any two knowledges of one world agree
abbrev pub WorldDeltasAgree : Type 0
WorldDeltasAgree = (names : List (List ℕ)) (sites : ℕ) (w : World) (k l : Knowledge) (x y : DeltaState) → IsReached names sites w → IsIn w k → IsIn w l
    → IsDeltaOf x k → IsDeltaOf y l → DeltasAgree x y

-- deltas of any two knowledges of one world are joined in either order, with the same result
abbrev pub DeltasCommute : Type 0
DeltasCommute = (names : List (List ℕ)) (sites : ℕ) (w : World) (k l : Knowledge) (x y joint turned : DeltaState) → IsReached names sites w → IsIn w k → IsIn w l
    → IsDeltaOf x k → IsDeltaOf y l → IsJoinOf x y joint → IsJoinOf y x turned → IsSame joint turned

-- a knowledge that has the same operations as one of a world has the same status
abbrev pub HaveSameStatus : Type 0
HaveSameStatus = (names : List (List ℕ)) (sites : ℕ) (w : World) (k l : Knowledge) (request : StatusRequest) → IsReached names sites w → IsIn w k
    → SameOperations k l → status_in k names request ≡ status_in l names request

-- two sites that know the same operations, be it in one world or in two with the same queues, give
-- the same answer to one status request
abbrev pub GiveSameAnswer : Type 0
GiveSameAnswer = (names : List (List ℕ)) (sites : ℕ) (w v : World) (site other : ℕ) (s t : SiteKnowledge) (request : StatusRequest) → IsReached names sites w
    → slice_get w.sites site ≡ Some s → slice_get v.sites other ≡ Some t → SameOperations s.known t.known
    → (happens names w (event.Ask site (Status request))).1 ≡ (happens names v (event.Ask other (Status request))).1

-- an ask for a status is answered by the status text of what its site knows
abbrev pub ReportsAreReadings : Type 0
ReportsAreReadings = (names : List (List ℕ)) (w : World) (site : ℕ) (s : SiteKnowledge) (request : StatusRequest) → slice_get w.sites site ≡ Some s
    → (happens names w (event.Ask site (Status request))).1 ≡ Answered (Report (status_in s.known names request))

-- a world that events lead to from new sites leads, by further events, to worlds of the same kind
abbrev pub LeadsOn : Type 0
LeadsOn = (names : List (List ℕ)) (sites : ℕ) (w : World) (events : List Event) → IsReached names sites w → IsReached names sites (run names w events).0

-- `dot` is visible in knowledge `k`, and its member there is `m`
pub record IsVisibleDotOf (k : Knowledge) (m : Member) (dot : Dot) : Type 0 where
  pub visible : set.contains (visible_dots k) dot ≡ true
  pub member : member_of k dot ≡ Some m

-- in each knowledge of a world, a member has at most one visible dot of a site
abbrev pub HaveOneDotASite : Type 0
HaveOneDotASite = (names : List (List ℕ)) (sites : ℕ) (w : World) (k : Knowledge) (m : Member) (dot other : Dot) → IsReached names sites w → IsIn w k
    → IsVisibleDotOf k m dot → IsVisibleDotOf k m other → dot.site ≡ other.site → dot ≡ other

-- the members that the visible dots of view `r` are of
unfoldable pub members_seen : DotView → set.FinSet member_cmp
members_seen r = set.from_list (filter_map r.member (set.items r.visible))

-- the members that have a visible dot in knowledge `k`
abbrev pub visible_members : Knowledge → set.FinSet member_cmp
visible_members k = members_seen (dot_view k)

-- each knowledge of a world has at most as many visible dots as the world has sites, times the
-- members that have one
abbrev pub HaveFewVisibleDots : Type 0
HaveFewVisibleDots = (names : List (List ℕ)) (sites : ℕ) (w : World) (k : Knowledge) → IsReached names sites w → IsIn w k
    → set.len (visible_dots k) ≤ set.len (visible_members k) * length w.sites

-- what stands for a knowledge of a world has at most as many live dots as the world has sites,
-- times the members that have a visible dot
abbrev pub HaveFewLiveDots : Type 0
HaveFewLiveDots = (names : List (List ℕ)) (sites : ℕ) (w : World) (k : Knowledge) (x : DeltaState) → IsReached names sites w → IsIn w k → IsDeltaOf x k
    → map.len x.members.live ≤ set.len (visible_members k) * length w.sites

-- from world `w` to world `after` the site of the number `site` has taken the entry at `place` of
-- the pool: it knows what the entry carries and what it knew before, and nothing else
pub record HasTakenEntry (w after : World) (site place : ℕ) : Type 0 where
  pub before : SiteKnowledge
  pub entry : Entry
  pub now : SiteKnowledge
  pub was : slice_get w.sites site ≡ Some before
  pub carried : slice_get w.pool place ≡ Some entry
  pub is : slice_get after.sites site ≡ Some now
  pub given : IsPartOf entry.carried now.known
  pub kept : IsPartOf before.known now.known
  pub no_more : IsPartOf now.known (entry.carried ++ before.known)

-- a take whose outcome is that the frame was taken has given its site every operation of the entry, and nothing else
abbrev pub TakesGive : Type 0
TakesGive = (names : List (List ℕ)) (w : World) (site place : ℕ) → (happens names w (event.Take site place)).1 ≡ Took (Ok tt)
    → HasTakenEntry w (happens names w (event.Take site place)).0 site place

-- to run `first` and then `rest` leads to the same world, with the same outcomes, as to run both at once
pub record RunsInParts (names : List (List ℕ)) (w : World) (first rest : List Event) : Type 0 where
  pub world : (run names w (first ++ rest)).0 ≡ (run names (run names w first).0 rest).0
  pub outcomes : (run names w (first ++ rest)).1 ≡ (run names w first).1 ++ (run names (run names w first).0 rest).1

-- the outcome of each event is one that it may have, so it is never `NoMemory`, and a take fails only as too large
abbrev pub AreOfTheirEvents : Type 0
AreOfTheirEvents = (names : List (List ℕ)) (w : World) (e : Event) → IsOutcomeOf e (happens names w e).1

-- the outcome of an event is `NoSite` exactly where there is no such site
abbrev pub NoSiteIsExact : Type 0
NoSiteIsExact = (names : List (List ℕ)) (w : World) (e : Event) → ((happens names w e).1 ≡ NoSite) ↔ (slice_get w.sites (site_of e) ≡ None)

-- the outcome of an event is `NoEntry` exactly where there is its site, and not the entry that it takes
abbrev pub NoEntryIsExact : Type 0
NoEntryIsExact = (names : List (List ℕ)) (w : World) (e : Event) → ((happens names w e).1 ≡ NoEntry) ↔ ((slice_get w.sites (site_of e) ≢ None) × (has_entry w e ≡ false))

-- an event whose outcome is one that changes nothing leaves the world as it was
abbrev pub RefusalsChangeNothing : Type 0
RefusalsChangeNothing = (names : List (List ℕ)) (w : World) (e : Event) → changes_nothing (happens names w e).1 ≡ true → (happens names w e).0 ≡ w

-- events that are run have one outcome each, and none of these is `NoMemory`
pub record HaveOutcomes (names : List (List ℕ)) (w : World) (events : List Event) : Type 0 where
  pub one_each : length (run names w events).1 ≡ length events
  pub done : All (λ o. is_done o ≡ true) (run names w events).1

-- ---- limits

-- an event of values within their limits keeps what is known in a world within limits, where there
-- are at most 64 sites and the queues are a queue list
abbrev pub EventsKeepLimits : Type 0
EventsKeepLimits = (names : List (List ℕ)) (w : World) (e : Event) → AreQueues names → length w.sites ≤ SITES → HasValuesWithinLimits e → KnowsWithinLimits w
    → KnowsWithinLimits (happens names w e).0

-- in each world that events of values within their limits lead to, from at most 64 new sites, what is known is within limits
abbrev pub WorldsAreWithinLimits : Type 0
WorldsAreWithinLimits = (names : List (List ℕ)) (sites : ℕ) (events : List Event) → AreQueues names → sites ≤ SITES → All HasValuesWithinLimits events
    → KnowsWithinLimits (run names (new_world sites) events).0
