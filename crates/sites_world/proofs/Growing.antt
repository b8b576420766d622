-- A world of operations only grows: each site knows what it knew, and the pool keeps its entries.
use Rattle.std.proofs.Common.{◌≡◌, ◌≤◌, ◌⊎◌, inl, inr, ℕ, suc, Bool, true, false, nat_lt, List, [], ◌∷◌, ◌++◌, append-nil, append_assoc, Contains, slice_get, slice_set, Option, Some, None, refl, sym, ap, subst, ◌∙◌, arith}
use Rattle.std.specs.FinSet as set
use Rattle.std.proofs.lemmas.List.{length-set}
use Rattle.std.proofs.lemmas.Option.{slice_get_within}
use Rattle.dots.specs.declared.limits.TheConstants.{MOST_COUNT, MOST_LIVE, MOST_RUNS}
use Rattle.dots.specs.DotSets.{run_count}
use Rattle.operations.specs.Knowledge.{Knowledge, known_dots, visible_dots}
use Rattle.replica.specs.Changes.{Makes, Meaning, Refused, change_of, meaning}
use Rattle.replica.specs.SiteViews.{site_view}
use Rattle.replica.specs.Steps.{SiteKnowledge, after_frame, after_meaning, cut, take}
use Rattle.status_report.specs.declared.asks.Ask.{Ask}
use Rattle.status_report.specs.declared.asks.Ask.TheVariants.{Command as asked_command, Status}
use Rattle.status_report.specs.Knowing.{answer_in}
use Rattle.sites_world.specs.declared.event.Event.{Event}
use Rattle.sites_world.specs.declared.event.Event.TheVariants as event
use Rattle.sites_world.specs.Histories.{IsPartOf}
use Rattle.sites_world.specs.Holding.{EventsGrow, HasGrown, RunsGrow, TakenStaysKnown}
use Rattle.sites_world.specs.Worlds.{Entry, Happening, World, happens, happens_at, happens_where, run, site_of, taken}
use Rattle.sites_world.proofs.Lists.{get_set_other, get_set_same, one_some, same_place}
use Rattle.sites_world.proofs.OutcomeLaws.{frame_by, take_by}
use Rattle.sites_world.proofs.Parts.{second_part}
use Rattle.sites_world.proofs.TakenEntries.{taken_gives}

-- ---- one site

-- no number is greater than itself
level : (n : ℕ) → n ≤ n
level n = omega arith

-- no number is greater than the next one
next_level : (n : ℕ) → n ≤ suc n
next_level n = omega arith

-- the order of numbers is transitive
level_through : (a b c : ℕ) → a ≤ b → b ≤ c → a ≤ c
level_through a b c p q = omega (arith, p, q)

-- a site knows what another knows, and has made no fewer frames
abbrev KnowsOn : SiteKnowledge → SiteKnowledge → Type 0
KnowsOn s t = IsPartOf s.known t.known × (s.frames ≤ t.frames)

itself_on : (s : SiteKnowledge) → KnowsOn s s
itself_on s = (λ o here. here, level s.frames)

-- an answer leaves what the site knew
ask_more : (site : ℕ) (names : List (List ℕ)) (s : SiteKnowledge) (asked : Ask) → KnowsOn s (answer_in site names s asked).0
ask_more site names s (Status request) = itself_on s
ask_more site names s (asked_command command) = by (meaning site names (site_view site s.known) (site_view site s.buffer) (change_of command))
  where
    by : (m : Meaning) → KnowsOn s (after_meaning s m).0
    by (Makes o) = (second_part (o ∷ []) s.known, level s.frames)
    by (Refused refusal) = itself_on s

-- a frame that is made leaves what the site knew
frame_more : (s : SiteKnowledge) (frame buffer : Knowledge) → KnowsOn s (after_frame s frame buffer).0
frame_more s frame buffer = by (nat_lt MOST_COUNT (suc s.frames))
  where
    by : (b : Bool) → KnowsOn s (frame_by s frame buffer b).0
    by true = itself_on s
    by false = (λ o here. here, next_level s.frames)

-- be it of a buffer
cut_more : (s : SiteKnowledge) (buffer : Knowledge) → KnowsOn s (cut s buffer).0
cut_more s [] = itself_on s
cut_more s (o ∷ os) = frame_more s (o ∷ os) []

-- a take leaves what the site knew
take_more : (s : SiteKnowledge) (frame : Knowledge) → KnowsOn s (take s frame).0
take_more s frame = by (nat_lt MOST_LIVE (set.len (visible_dots (frame ++ s.known)))) (nat_lt MOST_RUNS (run_count (known_dots (frame ++ s.known))))
  where
    by : (cells runs : Bool) → KnowsOn s (take_by s frame cells runs).0
    by true runs = itself_on s
    by false true = itself_on s
    by false false = (second_part frame s.known, level s.frames)

taken_more : (s : SiteKnowledge) (found : Option Entry) → KnowsOn s (taken s found).site
taken_more s None = itself_on s
taken_more s (Some entry) = take_more s entry.carried

at_more : (names : List (List ℕ)) (pool : List Entry) (s : SiteKnowledge) (e : Event) → KnowsOn s (happens_at names pool s e).site
at_more names pool s (event.Ask site asked) = ask_more site names s asked
at_more names pool s (event.Cut site) = cut_more s s.buffer
at_more names pool s (event.Whole site) = frame_more s s.known s.buffer
at_more names pool s (event.Take site place) = taken_more s (slice_get pool place)

-- ---- worlds

-- a world is a later one of itself
grown_itself : (w : World) → HasGrown w w
grown_itself w = record { count = refl; known = λ site s was. (s, was, λ o here. here, level s.frames); added = []; pool = sym (append-nil w.pool) }

-- a later one of a later one is
grown_through : (w mid after : World) → HasGrown w mid → HasGrown mid after → HasGrown w after
grown_through w mid after one two = record {
  count = two.count ∙ one.count;
  known = λ site s was. let first = one.known site s was in let last = two.known site first.0 first.1 in
      (last.0, last.1, λ o here. last.2 o (first.2 o here), level_through s.frames first.0.frames last.0.frames first.3 last.3);
  added = one.added ++ two.added;
  pool = two.pool ∙ ap (λ pool. pool ++ two.added) one.pool ∙ append_assoc w.pool one.added two.added;
}

-- a world in which a site knows more has grown
grown_at : (w : World) (at : ℕ) (s : SiteKnowledge) (h : Happening) → slice_get w.sites at ≡ Some s → KnowsOn s h.site
    → HasGrown w (record { sites = slice_set w.sites at h.site; pool = w.pool ++ h.added })
grown_at w at s h is more = record {
  count = length-set w.sites at h.site;
  known = λ site u was. by site u was (same_place at site);
  added = h.added;
  pool = refl;
}
  where
    by : (site : ℕ) (u : SiteKnowledge) → slice_get w.sites site ≡ Some u → ((site ≡ at) ⊎ (site ≡ at → ⊥))
        → (t : SiteKnowledge) × (slice_get (slice_set w.sites at h.site) site ≡ Some t) × IsPartOf u.known t.known × (u.frames ≤ t.frames)
    by site u was (inl same) =
        let one : u ≡ s = one_some u s (sym was ∙ ap (slice_get w.sites) same ∙ is) in (
          h.site,
          ap (slice_get (slice_set w.sites at h.site)) same ∙ get_set_same w.sites at h.site (slice_get_within w.sites at s is),
          λ o here. more.0 o (subst (λ v. Contains v.known o) one here),
          subst (λ (v : SiteKnowledge). v.frames ≤ h.site.frames) (sym one) more.1,
        )
    by site u was (inr apart) = (u, get_set_other w.sites at site h.site apart ∙ was, λ o here. here, level u.frames)

pub event_grows : EventsGrow
event_grows names w e = by (slice_get w.sites (site_of e)) refl
  where
    by : (found : Option SiteKnowledge) → slice_get w.sites (site_of e) ≡ found → HasGrown w (happens_where names w (site_of e) found e).0
    by None is = grown_itself w
    by (Some s) is = grown_at w (site_of e) s (happens_at names w.pool s e) is (at_more names w.pool s e)

pub run_grows : RunsGrow
run_grows names w [] = grown_itself w
run_grows names w (e ∷ es) = grown_through w (happens names w e).0 (run names (happens names w e).0 es).0 (event_grows names w e) (run_grows names (happens names w e).0 es)

pub taken_stays : TakenStaysKnown
taken_stays names w site place entry later t reported found now o here =
    let after = (happens names w (event.Take site place)).0 in
    let has = taken_gives names w site place reported in
    let last = (run_grows names after later).known site has.now has.is in
    subst (λ v. Contains v.known o) (one_some last.0 t (sym last.1 ∙ now))
    (last.2 o (has.given o (subst (λ x. Contains x.carried o) (one_some entry has.entry (sym found ∙ has.carried)) here)))
