-- Which outcomes each event may have, and that refused ones change nothing.
use Rattle.replica.specs.Queues.{number_of}
use Rattle.std.proofs.Common.{◌≡◌, ◌≢◌, ◌↔◌, inl, inr, ℕ, suc, Bool, true, false, ◌||◌, nat_lt, List, [], ◌∷◌, ◌++◌, append-nil, length, slice_get, slice_set, Option, Some, None, Ok, Err, refl, sym, ap, ◌∙◌, true≢false, if◌then◌else◌, is_some}
use Rattle.std.specs.FinSet as set
use Rattle.std.specs.List.{AllByRecursion}
use Rattle.std.proofs.lemmas.List.Elements.{All-from_recursion}
use Rattle.std.specs.Prelude.{⊤}
use Rattle.dots.specs.declared.limits.TheConstants.{MOST_COUNT, MOST_LIVE, MOST_RUNS}
use Rattle.dots.specs.declared.member.Member.{Member}
use Rattle.dots.specs.Values.{Dot}
use Rattle.dots.specs.DotSets.{run_count}
use Rattle.operations.specs.Operations.{Operation}
use Rattle.operations.specs.Knowledge.{Knowledge, known_dots, visible_dots}
use Rattle.replica.specs.declared.cut_fault.CutFault.TheVariants.{Exhausted}
use Rattle.replica.specs.declared.refusal.Refusal.TheVariants as refusal
use Rattle.replica.specs.Changes.{AddMember, Change, CountCall, Makes, Meaning, Refused as refused_meaning, RemoveMember, SetField, change_of, in_queue, is_exhausted, is_full, is_past_total, is_too_long, meaning, meaning_of_setting, where_absent, where_present, within_limits, add_at, count_at, remove_of, write_at}
use Rattle.replica.specs.SiteViews.{SiteView, site_view, dots_seen}
use Rattle.replica.specs.Standing.{result_of}
use Rattle.replica.specs.Steps as steps
use Rattle.replica.specs.Steps.{SiteKnowledge, Framed, after_frame, after_meaning, cut, take}
use Rattle.status_report.specs.declared.asks.Ask.{Ask}
use Rattle.status_report.specs.declared.asks.Ask.TheVariants.{Command as asked_command, Status}
use Rattle.status_report.specs.Answers.{answer_of}
use Rattle.status_report.specs.Knowing.{answer_in}
use Rattle.sites_world.specs.declared.event.Event.{Event}
use Rattle.sites_world.specs.declared.event.Event.TheVariants as event
use Rattle.sites_world.specs.declared.outcome.Outcome.{Outcome}
use Rattle.sites_world.specs.declared.outcome.Outcome.TheVariants as outcome
use Rattle.sites_world.specs.Outcomes.{MayAnswer, IsOutcomeOf, IsRefusalOfMeaning, changes_nothing}
use Rattle.sites_world.specs.Worlds.{Entry, Happening, World, answered, framed, happens, happens_at, happens_where, has_entry, is_done, run, site_of, take_result, taken}
use Rattle.sites_world.specs.Promises.{HaveOutcomes, NoEntryIsExact, NoSiteIsExact}
use Rattle.sites_world.proofs.Lists.{none_some, set_again}

-- ---- which outcomes

-- a meaning is no refusal as out of memory
abbrev pub DecidesAgreement : Meaning → Type 0
DecidesAgreement (refused_meaning r) = IsRefusalOfMeaning r
DecidesAgreement (Makes o) = ⊤

-- the meaning of an operation, by whether a site is full, its numbers are used up, or a total is
abbrev pub by_limits : Operation → Bool → Bool → Bool → Meaning
by_limits o full exhausted past = if full then refused_meaning refusal.MembersFull else if exhausted then refused_meaning refusal.Exhausted else if past then refused_meaning refusal.TotalFull else Makes o

limits_reported : (r buffer : SiteView) (o : Operation) → DecidesAgreement (within_limits r buffer o)
limits_reported r buffer o = by (is_full r o || (is_full buffer o || is_too_long o)) (is_exhausted o) (is_past_total o)
  where
    by : (a b c : Bool) → DecidesAgreement (by_limits o a b c)
    by true b c = tt
    by false true c = tt
    by false false true = tt
    by false false false = tt

queue_reported : (found : Option ℕ) (go : ℕ → Meaning) → ((queue : ℕ) → DecidesAgreement (go queue)) → DecidesAgreement (in_queue found go)
queue_reported None go all = tt
queue_reported (Some queue) go all = all queue

absent_reported : (dots : List (Dot × Member)) (made : Meaning) → DecidesAgreement made → DecidesAgreement (where_absent dots made)
absent_reported [] made reported = reported
absent_reported (d ∷ ds) made reported = tt

present_reported : (dots : List (Dot × Member)) (made : Meaning) → DecidesAgreement made → DecidesAgreement (where_present dots made)
present_reported [] made reported = tt
present_reported (d ∷ ds) made reported = reported

meaning_reported : (site : ℕ) (names : List (List ℕ)) (r buffer : SiteView) (change : Change) → DecidesAgreement (meaning site names r buffer change)
meaning_reported site names r buffer (AddMember queue interface penalty paused label) =
    queue_reported (number_of names queue) (λ q. where_absent (dots_seen r.dots (Some q) interface) (within_limits r buffer (add_at site r (record { queue = q; interface = interface }) penalty paused label)))
    (λ q. absent_reported (dots_seen r.dots (Some q) interface) _ (limits_reported r buffer (add_at site r (record { queue = q; interface = interface }) penalty paused label)))
meaning_reported site names r buffer (RemoveMember queue interface) =
    queue_reported (number_of names queue) (λ q. where_present (dots_seen r.dots (Some q) interface) (within_limits r buffer (remove_of (dots_seen r.dots (Some q) interface))))
    (λ q. present_reported (dots_seen r.dots (Some q) interface) _ (limits_reported r buffer (remove_of (dots_seen r.dots (Some q) interface))))
meaning_reported site names r buffer (SetField None interface setting) =
    present_reported (dots_seen r.dots None interface) _ (limits_reported r buffer (write_at site r setting (dots_seen r.dots None interface)))
meaning_reported site names r buffer (SetField (Some queue) interface setting) =
    queue_reported (number_of names queue) (λ q. meaning_of_setting site r buffer setting (dots_seen r.dots (Some q) interface))
    (λ q. present_reported (dots_seen r.dots (Some q) interface) _ (limits_reported r buffer (write_at site r setting (dots_seen r.dots (Some q) interface))))
meaning_reported site names r buffer (CountCall queue calls) =
    queue_reported (number_of names queue) (λ q. within_limits r buffer (count_at site r q calls)) (λ q. limits_reported r buffer (count_at site r q calls))

-- a frame that is asked for, by whether no number is left
abbrev pub frame_by : SiteKnowledge → Knowledge → Knowledge → Bool → SiteKnowledge × steps.Outcome
frame_by s frame buffer none = if none then (s, steps.NoNumber) else (record { known = s.known; buffer = buffer; frames = suc s.frames }, Framed (suc s.frames) frame)

-- a take, by whether there would be too many dots, or too many runs
abbrev pub take_by : SiteKnowledge → Knowledge → Bool → Bool → SiteKnowledge × steps.Outcome
take_by s frame cells runs =
    if cells then (s, steps.CellsFull) else if runs then (s, steps.RunsFull) else (record { known = frame ++ s.known; buffer = s.buffer; frames = s.frames }, steps.Taken)

-- the outcome of an ask
ask_reported : (site : ℕ) (names : List (List ℕ)) (s : SiteKnowledge) (asked : Ask) → MayAnswer asked (answer_in site names s asked).1
ask_reported site names s (Status request) = tt
ask_reported site names s (asked_command command) = by (meaning site names (site_view site s.known) (site_view site s.buffer) (change_of command)) (meaning_reported site names _ _ (change_of command))
  where
    by : (m : Meaning) → DecidesAgreement m → MayAnswer (asked_command command) (answer_of (result_of (after_meaning s m).1))
    by (Makes o) reported = tt
    by (refused_meaning r) reported = reported

frame_result : (e : Event) (site entries : ℕ) (s : SiteKnowledge) (frame buffer : Knowledge)
    → ((n : ℕ) → IsOutcomeOf e (outcome.Cut (Ok (Some n)))) → IsOutcomeOf e (outcome.Cut (Err Exhausted)) → IsOutcomeOf e (framed site entries (after_frame s frame buffer)).outcome
frame_result e site entries s frame buffer made none = by (nat_lt MOST_COUNT (suc s.frames))
  where
    by : (b : Bool) → IsOutcomeOf e (framed site entries (frame_by s frame buffer b)).outcome
    by true = none
    by false = made entries

cut_reported : (site entries : ℕ) (s : SiteKnowledge) (buffer : Knowledge) → IsOutcomeOf (event.Cut site) (framed site entries (cut s buffer)).outcome
cut_reported site entries s [] = tt
cut_reported site entries s (o ∷ os) = frame_result (event.Cut site) site entries s (o ∷ os) [] (λ n. tt) refl

take-reported : (site place : ℕ) (s : SiteKnowledge) (found : Option Entry) → IsOutcomeOf (event.Take site place) (taken s found).outcome
take-reported site place s None = tt
take-reported site place s (Some entry) = by (nat_lt MOST_LIVE (set.len (visible_dots (entry.carried ++ s.known)))) (nat_lt MOST_RUNS (run_count (known_dots (entry.carried ++ s.known))))
  where
    by : (a b : Bool) → IsOutcomeOf (event.Take site place) (outcome.Took (take_result (take_by s entry.carried a b).1))
    by true b = inl refl
    by false true = inr refl
    by false false = tt

at_reported : (names : List (List ℕ)) (pool : List Entry) (s : SiteKnowledge) (e : Event) → IsOutcomeOf e (happens_at names pool s e).outcome
at_reported names pool s (event.Ask site asked) = ask_reported site names s asked
at_reported names pool s (event.Cut site) = cut_reported site (length pool) s s.buffer
at_reported names pool s (event.Whole site) = frame_result (event.Whole site) site (length pool) s s.known s.buffer (λ n. tt) refl
at_reported names pool s (event.Take site place) = take-reported site place s (slice_get pool place)

no_site_reported : (e : Event) → IsOutcomeOf e outcome.NoSite
no_site_reported (event.Ask site asked) = tt
no_site_reported (event.Cut site) = tt
no_site_reported (event.Whole site) = tt
no_site_reported (event.Take site place) = tt

pub of_their_events : (names : List (List ℕ)) (w : World) (e : Event) → IsOutcomeOf e (happens names w e).1
of_their_events names w e = by (slice_get w.sites (site_of e))
  where
    by : (found : Option SiteKnowledge) → IsOutcomeOf e (happens_where names w (site_of e) found e).1
    by None = no_site_reported e
    by (Some s) = at_reported names w.pool s e

-- ---- no such site, and no such entry

-- no event at a site that is there has the outcome `NoSite`
there_reported : (names : List (List ℕ)) (pool : List Entry) (s : SiteKnowledge) (e : Event) → (happens_at names pool s e).outcome ≡ outcome.NoSite → ⊥
there_reported names pool s (event.Ask site asked) reported = (cc)
there_reported names pool s (event.Cut site) reported = (cc)
there_reported names pool s (event.Whole site) reported = (cc)
there_reported names pool s (event.Take site place) reported = by (slice_get pool place) reported
  where
    by : (found : Option Entry) → (taken s found).outcome ≡ outcome.NoSite → ⊥
    by None reported = (cc)
    by (Some entry) reported = (cc)

pub no_site_is_exact : NoSiteIsExact
no_site_is_exact names w e = by (slice_get w.sites (site_of e))
  where
    by : (found : Option SiteKnowledge) → ((happens_where names w (site_of e) found e).1 ≡ outcome.NoSite) ↔ (found ≡ None)
    by None = ((λ reported. refl), (λ is. refl))
    by (Some s) = ((λ reported. absurd (there_reported names w.pool s e reported)), (λ is. absurd (none_some s (sym is))))

-- an event at a site that is there has the outcome `NoEntry` exactly where it takes an entry that isn't there
entry_reported : (names : List (List ℕ)) (w : World) (s : SiteKnowledge) (e : Event) → ((happens_at names w.pool s e).outcome ≡ outcome.NoEntry) ↔ (has_entry w e ≡ false)
entry_reported names w s (event.Ask site asked) = ((λ reported. absurd (cc)), (λ is. absurd (true≢false is)))
entry_reported names w s (event.Cut site) = ((λ reported. absurd (cc)), (λ is. absurd (true≢false is)))
entry_reported names w s (event.Whole site) = ((λ reported. absurd (cc)), (λ is. absurd (true≢false is)))
entry_reported names w s (event.Take site place) = by (slice_get w.pool place)
  where
    by : (found : Option Entry) → ((taken s found).outcome ≡ outcome.NoEntry) ↔ (is_some found ≡ false)
    by None = ((λ reported. refl), (λ is. refl))
    by (Some entry) = ((λ reported. absurd (cc)), (λ is. absurd (true≢false is)))

pub no_entry_is_exact : NoEntryIsExact
no_entry_is_exact names w e = by (slice_get w.sites (site_of e))
  where
    by : (found : Option SiteKnowledge) → ((happens_where names w (site_of e) found e).1 ≡ outcome.NoEntry) ↔ ((found ≢ None) × (has_entry w e ≡ false))
    by None = ((λ reported. absurd (cc)), (λ is. absurd (is.0 refl)))
    by (Some s) = let at = entry_reported names w s e in ((λ reported. ((λ none. none_some s (sym none)), at.0 reported)), (λ is. at.1 is.1))

-- ---- what changes nothing

-- an effect that leaves the site, and adds nothing, where its outcome is one that changes nothing
record Stays (s : SiteKnowledge) (h : Happening) : Type 0 where
  site : h.site ≡ s
  added : h.added ≡ []

ask_stays : (site : ℕ) (names : List (List ℕ)) (s : SiteKnowledge) (asked : Ask) → changes_nothing (outcome.Answered (answer_in site names s asked).1) ≡ true → Stays s (answered (answer_in site names s asked))
ask_stays site names s (Status request) h = record { site = refl; added = refl }
ask_stays site names s (asked_command command) h = by (meaning site names (site_view site s.known) (site_view site s.buffer) (change_of command)) h
  where
    by : (m : Meaning) → changes_nothing (outcome.Answered (answer_of (result_of (after_meaning s m).1))) ≡ true → Stays s (answered ((after_meaning s m).0, answer_of (result_of (after_meaning s m).1)))
    by (Makes o) h = absurd (true≢false (sym h))
    by (refused_meaning r) h = record { site = refl; added = refl }

frame_stays : (site entries : ℕ) (s : SiteKnowledge) (frame buffer : Knowledge) → changes_nothing (framed site entries (after_frame s frame buffer)).outcome ≡ true → Stays s (framed site entries (after_frame s frame buffer))
frame_stays site entries s frame buffer h = by (nat_lt MOST_COUNT (suc s.frames)) h
  where
    by : (b : Bool) → changes_nothing (framed site entries (frame_by s frame buffer b)).outcome ≡ true → Stays s (framed site entries (frame_by s frame buffer b))
    by true h = record { site = refl; added = refl }
    by false h = absurd (true≢false (sym h))

cut_stays : (site entries : ℕ) (s : SiteKnowledge) (buffer : Knowledge) → changes_nothing (framed site entries (cut s buffer)).outcome ≡ true → Stays s (framed site entries (cut s buffer))
cut_stays site entries s [] h = record { site = refl; added = refl }
cut_stays site entries s (o ∷ os) h = frame_stays site entries s (o ∷ os) [] h

take_stays : (s : SiteKnowledge) (found : Option Entry) → changes_nothing (taken s found).outcome ≡ true → Stays s (taken s found)
take_stays s None h = record { site = refl; added = refl }
take_stays s (Some entry) h = by (nat_lt MOST_LIVE (set.len (visible_dots (entry.carried ++ s.known)))) (nat_lt MOST_RUNS (run_count (known_dots (entry.carried ++ s.known)))) h
  where
    by : (a b : Bool) → changes_nothing (outcome.Took (take_result (take_by s entry.carried a b).1)) ≡ true
        → Stays s (record { site = (take_by s entry.carried a b).0; added = []; outcome = outcome.Took (take_result (take_by s entry.carried a b).1) })
    by true b h = record { site = refl; added = refl }
    by false true h = record { site = refl; added = refl }
    by false false h = absurd (true≢false (sym h))

at_stays : (names : List (List ℕ)) (pool : List Entry) (s : SiteKnowledge) (e : Event) → changes_nothing (happens_at names pool s e).outcome ≡ true → Stays s (happens_at names pool s e)
at_stays names pool s (event.Ask site asked) h = ask_stays site names s asked h
at_stays names pool s (event.Cut site) h = cut_stays site (length pool) s s.buffer h
at_stays names pool s (event.Whole site) h = frame_stays site (length pool) s s.known s.buffer h
at_stays names pool s (event.Take site place) h = take_stays s (slice_get pool place) h

pub refusals_change_nothing : (names : List (List ℕ)) (w : World) (e : Event) → changes_nothing (happens names w e).1 ≡ true → (happens names w e).0 ≡ w
refusals_change_nothing names w e h = by (slice_get w.sites (site_of e)) refl h
  where
    by : (found : Option SiteKnowledge) → slice_get w.sites (site_of e) ≡ found → changes_nothing (happens_where names w (site_of e) found e).1 ≡ true → (happens_where names w (site_of e) found e).0 ≡ w
    by None is h = refl
    by (Some s) is h =
        let stays = at_stays names w.pool s e h in
        let sites = ap (slice_set w.sites (site_of e)) stays.site ∙ set_again w.sites (site_of e) s is in
        let pool = ap (λ added. w.pool ++ added) stays.added ∙ append-nil w.pool in
        λ i. record { sites = sites i; pool = pool i }

-- ---- outcomes of events in turn

-- an outcome that an event may have isn't `NoMemory`
reported_done : (e : Event) (o : Outcome) → IsOutcomeOf e o → is_done o ≡ true
reported_done e (outcome.Answered answer) is = refl
reported_done e (outcome.Cut result) is = refl
reported_done e (outcome.Took result) is = refl
reported_done e outcome.NoSite is = refl
reported_done e outcome.NoEntry is = refl
reported_done (event.Ask site asked) outcome.NoMemory is = absurd is
reported_done (event.Cut site) outcome.NoMemory is = absurd is
reported_done (event.Whole site) outcome.NoMemory is = absurd is
reported_done (event.Take site place) outcome.NoMemory is = absurd is

all_done : (names : List (List ℕ)) (w : World) (events : List Event) → AllByRecursion (λ o. is_done o ≡ true) (run names w events).1
all_done names w [] = tt
all_done names w (e ∷ es) = (reported_done e (happens names w e).1 (of_their_events names w e), all_done names (happens names w e).0 es)

one-each : (names : List (List ℕ)) (w : World) (events : List Event) → length (run names w events).1 ≡ length events
one-each names w [] = refl
one-each names w (e ∷ es) = ap suc (one-each names (happens names w e).0 es)

pub have_outcomes : (names : List (List ℕ)) (w : World) (events : List Event) → HaveOutcomes names w events
have_outcomes names w events = record {
  one_each = one-each names w events;
  done = All-from_recursion (λ o. is_done o ≡ true) (run names w events).1 (all_done names w events);
}
