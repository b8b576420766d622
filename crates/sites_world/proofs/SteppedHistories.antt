-- Each event keeps the history of a world, or makes it longer by one operation.
use Rattle.std.proofs.Common.{◌≡◌, ◌<◌, ◌⊎◌, inl, inr, ℕ, suc, Bool, true, false, nat_lt, List, [], ◌∷◌, ◌++◌, Contains, length, slice_get, slice_set, Option, Some, None, refl, sym, ap, subst, ◌∙◌, true≢false, if◌then◌else◌, arith}
use Rattle.std.specs.FinSet as set
use Rattle.std.proofs.lemmas.List.{length-set}
use Rattle.std.proofs.lemmas.List.Elements.{Contains-append_cases, Contains-append_right}
use Rattle.std.proofs.lemmas.Option.{slice_get_within}
use Rattle.dots.specs.declared.limits.TheConstants.{MOST_COUNT, MOST_LIVE, MOST_RUNS}
use Rattle.dots.specs.Values.{Dot}
use Rattle.dots.specs.DotSets.{run_count}
use Rattle.operations.specs.Operations.{Operation, Add, Write, Remove, Count}
use Rattle.operations.specs.Knowledge.{Knowledge, known_dots, visible_dots}
use Rattle.operations.proofs.KnownLaws.{known_dot}
use Rattle.general_lemmas.proofs.Membership.{cases_in, first_in, later_in, nothing_in, only_in}
use Rattle.replica.specs.Changes.{Change, Makes as makes_operation, Meaning, Refused, change_of, meaning}
use Rattle.replica.specs.SiteViews.{site_view}
use Rattle.replica.specs.Steps as steps
use Rattle.replica.specs.Steps.{SiteKnowledge, Framed, Take, Whole, Cut, after_frame, after_meaning, cut, new_site, step, take}
use Rattle.replica.proofs.MadeOperationLaws.{makes_what_it_may}
use Rattle.status_report.specs.declared.asks.Ask.{Ask}
use Rattle.status_report.specs.declared.asks.Ask.TheVariants.{Command as asked_command, Status}
use Rattle.status_report.specs.Knowing.{answer_in}
use Rattle.replica.specs.MadeOperations.{IsMadeAt}
use Rattle.sites_world.specs.declared.event.Event.{Event}
use Rattle.sites_world.specs.declared.event.Event.TheVariants as event
use Rattle.sites_world.specs.Histories.{HasHistory, IsHistory, IsHistoryOf, IsKnown, IsOf, IsPartOf, IsSiteIn}
use Rattle.sites_world.specs.Worlds.{Entry, IsReached, World, after_happening, answered, entries_of, framed, happens, happens_at, happens_where, new_world, run, site_of, taken}
use Rattle.sites_world.proofs.Lists.{get_replicate, get_set_other, get_set_same, one_some, place_in}
use Rattle.sites_world.proofs.Parts.{both_part, more_part, none_part, part_through, second_part}
use Rattle.sites_world.proofs.GrownHistories.{grows}
use Rattle.sites_world.proofs.MadeHistories.{made_next}

-- ---- a new world

-- nothing is asserted, and no dot known, of no operation
nothing_known : (dot : Dot) → set.contains (known_dots []) dot ≡ true → ⊥
nothing_known dot is = true≢false (sym is ∙ known_dot [] dot)

-- the history of no operation
empty_history : (names_of_queues : List (List ℕ)) (sites : ℕ) → IsHistory names_of_queues sites []
empty_history names_of_queues sites = record {
  stamps = λ o p stamp ho hp eo ep. absurd (nothing_in o ho);
  members = λ dot m n hm hn. absurd (nothing_in (dot, m) hm);
  made = λ dot is. absurd (nothing_known dot is);
  adds = λ o p dot ho hp makes again. absurd (nothing_in o ho);
  sites_are = λ dot is. absurd (nothing_known dot is);
  queues = λ dot m here. absurd (nothing_in (dot, m) here);
  counts = λ site queue calls total here. absurd (nothing_in (Count site queue calls total) here);
  older = λ o dot earlier m here asserts before same less. absurd (nothing_in o here);
}

-- a new site has a part of it
new_site_in : (site : ℕ) (s : SiteKnowledge) → s ≡ new_site → IsSiteIn [] site s
new_site_in site s e = subst (IsSiteIn [] site) (sym e) (record { known = none_part []; buffer = none_part []; own = λ o here of. absurd (nothing_in o here) })

pub new_history : (names_of_queues : List (List ℕ)) (sites : ℕ) → IsHistoryOf names_of_queues (new_world sites) []
new_history names_of_queues sites = record {
  history = empty_history names_of_queues _;
  sites = λ site s is. new_site_in site s (get_replicate sites new_site site s is);
  pool = λ entry here. absurd (nothing_in entry here);
  known = λ o here. absurd (nothing_in o here);
}

-- a site after a step knows a part of the history, and what it knew
pub record KeepsSite (h : Knowledge) (site : ℕ) (s t : SiteKnowledge) : Type 0 where
  pub site_in : IsSiteIn h site t
  pub more : IsPartOf s.known t.known

-- a site that stays does
same_site : (h : Knowledge) (site : ℕ) (s : SiteKnowledge) → IsSiteIn h site s → KeepsSite h site s s
same_site h site s known = record { site_in = known; more = λ o here. here }

-- ---- the site of a step

module _ (names_of_queues : List (List ℕ)) (w : World) (h : Knowledge) (site : ℕ) (s : SiteKnowledge) (all : IsHistoryOf names_of_queues w h) (is : slice_get w.sites site ≡ Some s) where
  within : site < length w.sites
  within = slice_get_within w.sites site s is

  same_place : (j : ℕ) → (j ≡ site) ⊎ (j ≡ site → ⊥)
  same_place j = grind arith

  -- the site that was put in, and the others
  pub put_cases : (t : SiteKnowledge) (j : ℕ) (u : SiteKnowledge) → slice_get (slice_set w.sites site t) j ≡ Some u → ((j ≡ site) × (u ≡ t)) ⊎ ((j ≡ site → ⊥) × (slice_get w.sites j ≡ Some u))
  put_cases t j u here = by (same_place j)
    where
      by : ((j ≡ site) ⊎ (j ≡ site → ⊥)) → ((j ≡ site) × (u ≡ t)) ⊎ ((j ≡ site → ⊥) × (slice_get w.sites j ≡ Some u))
      by (inl e) = inl (e, one_some u t (sym here ∙ ap (slice_get (slice_set w.sites site t)) e ∙ get_set_same w.sites site t within))
      by (inr apart) = inr (apart, sym (get_set_other w.sites site j t apart) ∙ here)

  -- what a site knows stays known where this one knows as much
  still_known : (t : SiteKnowledge) (added : List Entry) → IsPartOf s.known t.known → (o : Operation) → IsKnown w o → IsKnown (record { sites = slice_set w.sites site t; pool = w.pool ++ added }) o
  still_known t added more o k = by (same_place k.site)
    where
      by : ((k.site ≡ site) ⊎ (k.site ≡ site → ⊥)) → IsKnown (record { sites = slice_set w.sites site t; pool = w.pool ++ added }) o
      by (inl e) = record {
        site = site;
        knows = t;
        is = get_set_same w.sites site t within;
        known = more o (subst (λ u. Contains u.known o) (one_some k.knows s (sym k.is ∙ ap (slice_get w.sites) e ∙ is)) k.known);
      }
      by (inr apart) = record { site = k.site; knows = k.knows; is = get_set_other w.sites site k.site t apart ∙ k.is; known = k.known }

  -- where no operation is made the history stays
  pub kept_history : (t : SiteKnowledge) (added : List Entry) → KeepsSite h site s t → ((entry : Entry) → Contains added entry → IsPartOf entry.carried h)
      → IsHistoryOf names_of_queues (record { sites = slice_set w.sites site t; pool = w.pool ++ added }) h
  kept_history t added keeps carried = record {
    history = subst (λ n. IsHistory names_of_queues n h) (sym (length-set w.sites site t)) all.history;
    sites = λ j u here. by j u (put_cases t j u here);
    pool = λ entry here. elim (Contains-append_cases w.pool added entry here) [ inl a ↦ all.pool entry a | inr b ↦ carried entry b ];
    known = λ o here. still_known t added keeps.more o (all.known o here);
  }
    where
      by : (j : ℕ) (u : SiteKnowledge) → (((j ≡ site) × (u ≡ t)) ⊎ ((j ≡ site → ⊥) × (slice_get w.sites j ≡ Some u))) → IsSiteIn h j u
      by j u (inl p) = subst (λ n. IsSiteIn h n u) (sym p.0) (subst (IsSiteIn h site) (sym p.1) keeps.site_in)
      by j u (inr p) = all.sites j u p.1

  -- an operation that the site makes is its own alone
  made_of : (o : Operation) (j : ℕ) → IsMadeAt site names_of_queues s.known o → IsOf j o → j ≡ site
  made_of (Add dot member stamp penalty pause label older) j a of = sym of ∙ ap (λ x. x.site) a.stamp_is
  made_of (Write dots setting stamp older) j a of = sym of ∙ a.site_is
  made_of (Remove dots) j a of = absurd of
  made_of (Count s queue calls total) j a of = sym of ∙ a.site_is

  -- the site once it has made an operation
  abbrev after : Operation → SiteKnowledge
  after o = record { known = o ∷ s.known; buffer = o ∷ s.buffer; frames = s.frames }

  longer : (o : Operation) (k : Knowledge) → IsPartOf k h → IsPartOf k (o ∷ h)
  longer o k part p here = later_in o h p (part p here)

  -- an operation that a site makes is the last of the history
  pub made_history : (o : Operation) → IsMadeAt site names_of_queues s.known o → IsHistoryOf names_of_queues (record { sites = slice_set w.sites site (after o); pool = w.pool ++ [] }) (o ∷ h)
  made_history o made = record {
    history = subst (λ n. IsHistory names_of_queues n (o ∷ h)) (sym (length-set w.sites site (after o)))
        (grows names_of_queues (length w.sites) h o all.history (made_next names_of_queues (length w.sites) site h s all.history (all.sites site s is) within o made));
    sites = λ j u here. by j u (put_cases (after o) j u here);
    pool = λ entry here. elim (Contains-append_cases w.pool [] entry here) [
      | inl a ↦ longer o entry.carried (all.pool entry a)
      | inr b ↦ absurd (nothing_in entry b)
    ];
    known = λ p here. elim (cases_in o h p here) [
      | inl e ↦ record { site = site; knows = after o; is = get_set_same w.sites site (after o) within; known = subst (Contains (o ∷ s.known)) e (first_in o s.known) }
      | inr r ↦ still_known (after o) [] (later_in o s.known) p (all.known p r)
    ];
  }
    where
      own_of : (p : Operation) → Contains (o ∷ h) p → IsOf site p → Contains (o ∷ s.known) p
      own_of p here of = elim (cases_in o h p here) [
        | inl e ↦ subst (Contains (o ∷ s.known)) e (first_in o s.known)
        | inr r ↦ later_in o s.known p ((all.sites site s is).own p r of)
      ]

      others : (j : ℕ) (u : SiteKnowledge) → (j ≡ site → ⊥) → IsSiteIn h j u → (p : Operation) → Contains (o ∷ h) p → IsOf j p → Contains u.known p
      others j u apart known p here of = elim (cases_in o h p here) [
        | inl e ↦ absurd (apart (made_of o j made (subst (IsOf j) (sym e) of)))
        | inr r ↦ known.own p r of
      ]

      there : IsSiteIn (o ∷ h) site (after o)
      there = let known = all.sites site s is in record {
        known = more_part o s.known (o ∷ h) (first_in o h) (longer o s.known known.known);
        buffer = more_part o s.buffer (o ∷ s.known) (first_in o s.known) (λ p here. later_in o s.known p (known.buffer p here));
        own = own_of;
      }

      by : (j : ℕ) (u : SiteKnowledge) → (((j ≡ site) × (u ≡ after o)) ⊎ ((j ≡ site → ⊥) × (slice_get w.sites j ≡ Some u))) → IsSiteIn (o ∷ h) j u
      by j u (inl p) = subst (λ n. IsSiteIn (o ∷ h) n u) (sym p.0) (subst (IsSiteIn (o ∷ h) site) (sym p.1) there)
      by j u (inr p) = let known = all.sites j u p.1 in record {
        known = longer o u.known known.known;
        buffer = known.buffer;
        own = others j u p.0 known;
      }

-- ---- steps that make no operation

-- a step keeps parts of the history: the site knows one, and its frame, if it made one, carries one
record KeepsParts (h : Knowledge) (site : ℕ) (s : SiteKnowledge) (after : SiteKnowledge × steps.Outcome) : Type 0 where
  keeps : KeepsSite h site s after.0
  carried : (entry : Entry) → Contains (entries_of site after.1) entry → IsPartOf entry.carried h

module _ (h : Knowledge) (site : ℕ) (s : SiteKnowledge) (known : IsSiteIn h site s) where
  -- a frame of a part, with a buffer that is one
  frame_parts : (frame buffer : Knowledge) → IsPartOf frame h → IsPartOf buffer s.known → KeepsParts h site s (after_frame s frame buffer)
  frame_parts frame buffer part rest = by (nat_lt MOST_COUNT (suc s.frames))
    where
      by : (b : Bool) → KeepsParts h site s (if b then (s, steps.NoNumber) else (record { known = s.known; buffer = buffer; frames = suc s.frames }, Framed (suc s.frames) frame))
      by true = record { keeps = same_site h site s known; carried = λ entry here. absurd (nothing_in entry here) }
      by false = record {
        keeps = record { site_in = record { known = known.known; buffer = rest; own = known.own }; more = λ o here. here };
        carried = λ entry here. subst (λ e. IsPartOf e.carried h) (only_in _ entry here) part;
      }

  cut_by : (buffer : Knowledge) → IsPartOf buffer s.known → KeepsParts h site s (cut s buffer)
  cut_by [] part = record { keeps = same_site h site s known; carried = λ entry here. absurd (nothing_in entry here) }
  cut_by (o ∷ os) part = frame_parts (o ∷ os) [] (part_through (o ∷ os) s.known h part known.known) (none_part s.known)

  abbrev taken_by : Knowledge → Bool → Bool → SiteKnowledge × steps.Outcome
  taken_by frame a b = if a then (s, steps.CellsFull) else if b then (s, steps.RunsFull) else (record { known = frame ++ s.known; buffer = s.buffer; frames = s.frames }, steps.Taken)

  -- a site that takes a part
  take_parts : (frame : Knowledge) → IsPartOf frame h → KeepsSite h site s (take s frame).0
  take_parts frame part = by (nat_lt MOST_LIVE (set.len (visible_dots (frame ++ s.known)))) (nat_lt MOST_RUNS (run_count (known_dots (frame ++ s.known))))
    where
      by : (a b : Bool) → KeepsSite h site s (taken_by frame a b).0
      by true b = same_site h site s known
      by false true = same_site h site s known
      by false false = record {
        site_in = record {
          known = both_part frame s.known h part known.known;
          buffer = λ o here. Contains-append_right frame s.known o (known.buffer o here);
          own = λ o here of. Contains-append_right frame s.known o (known.own o here of);
        };
        more = second_part frame s.known;
      }

-- ---- events

module _ (names_of_queues : List (List ℕ)) (w : World) (h : Knowledge) (all : IsHistoryOf names_of_queues w h) where
  module _ (site : ℕ) (s : SiteKnowledge) (is : slice_get w.sites site ≡ Some s) where
    no_entry : (entry : Entry) → Contains [] entry → IsPartOf entry.carried h
    no_entry entry here = absurd (nothing_in entry here)

    -- nothing changes
    same_history : HasHistory names_of_queues (record { sites = slice_set w.sites site s; pool = w.pool ++ [] })
    same_history = record { made = h; is = kept_history names_of_queues w h site s all is s [] (same_site h site s (all.sites site s is)) no_entry }

    command_history : (change : Change) → HasHistory names_of_queues (record { sites = slice_set w.sites site (step site names_of_queues s (steps.Do change)).0; pool = w.pool ++ [] })
    command_history change = by (meaning site names_of_queues (site_view site s.known) (site_view site s.buffer) change) refl
      where
        by : (m : Meaning) → meaning site names_of_queues (site_view site s.known) (site_view site s.buffer) change ≡ m
            → HasHistory names_of_queues (record { sites = slice_set w.sites site (after_meaning s m).0; pool = w.pool ++ [] })
        by (Refused refusal) e = same_history
        by (makes_operation o) e = record { made = o ∷ h; is = made_history names_of_queues w h site s all is o (makes_what_it_may site names_of_queues change s.known s.buffer o e) }

    ask_history : (asked : Ask) → HasHistory names_of_queues (after_happening w site (answered (answer_in site names_of_queues s asked)))
    ask_history (asked_command command) = command_history (change_of command)
    ask_history (Status request) = same_history

    frame_history : (after : SiteKnowledge × steps.Outcome) → KeepsParts h site s after → HasHistory names_of_queues (after_happening w site (framed site (length w.pool) after))
    frame_history after parts = record { made = h; is = kept_history names_of_queues w h site s all is after.0 (entries_of site after.1) parts.keeps parts.carried }

    taken_history : (found : Option Entry) → ((entry : Entry) → found ≡ Some entry → IsPartOf entry.carried h) → HasHistory names_of_queues (after_happening w site (taken s found))
    taken_history None carried = same_history
    taken_history (Some entry) carried = record {
      made = h;
      is = kept_history names_of_queues w h site s all is (take s entry.carried).0 [] (take_parts h site s (all.sites site s is) entry.carried (carried entry refl)) no_entry;
    }

  at_history : (e : Event) (s : SiteKnowledge) → slice_get w.sites (site_of e) ≡ Some s → HasHistory names_of_queues (after_happening w (site_of e) (happens_at names_of_queues w.pool s e))
  at_history (event.Ask site asked) s is = ask_history site s is asked
  at_history (event.Cut site) s is = let known = all.sites site s is in frame_history site s is (cut s s.buffer) (cut_by h site s known s.buffer known.buffer)
  at_history (event.Whole site) s is = let known = all.sites site s is in frame_history site s is (after_frame s s.known s.buffer) (frame_parts h site s known s.known s.buffer known.known known.buffer)
  at_history (event.Take site place) s is = taken_history site s is (slice_get w.pool place) (λ entry found. all.pool entry (place_in w.pool place entry found))

  -- an event leads to a world with a history
  pub happens_history : (e : Event) → HasHistory names_of_queues (happens names_of_queues w e).0
  happens_history e = by (slice_get w.sites (site_of e)) refl
    where
      by : (found : Option SiteKnowledge) → slice_get w.sites (site_of e) ≡ found → HasHistory names_of_queues (happens_where names_of_queues w (site_of e) found e).0
      by None is = record { made = h; is = all }
      by (Some s) is = at_history e s is

module _ (names_of_queues : List (List ℕ)) where
  -- events in turn lead to a world with a history
  pub run_history : (w : World) (events : List Event) → HasHistory names_of_queues w → HasHistory names_of_queues (run names_of_queues w events).0
  run_history w [] has = has
  run_history w (e ∷ es) has = run_history (happens names_of_queues w e).0 es (happens_history names_of_queues w has.made has.is e)

  -- a reached world has a history
  pub reached_history : (sites : ℕ) (w : World) → IsReached names_of_queues sites w → HasHistory names_of_queues w
  reached_history sites w reached = subst (HasHistory names_of_queues) reached.is (run_history (new_world sites) reached.events (record { made = []; is = new_history names_of_queues sites }))
