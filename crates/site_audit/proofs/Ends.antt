-- Where a search begins, its rounds, and what it has shown where it ends.
use Rattle.std.proofs.Common.{◌≡◌, ◌<◌, ◌≤◌, ◌+◌, inl, inr, ℕ, zero, suc, Bool, true, false, List, [], ◌∷◌, length, replicate, slice_get, Option, Some, None, refl, sym, ap, subst, ◌∙◌, arith, take, drop, true≢false, ◌||◌}
use Rattle.std.proofs.lemmas.Option.{slice_get_within}
use Rattle.std.proofs.lemmas.List.Elements.{All-from_recursion}
use Rattle.replica.specs.Steps.{new_site}
use Rattle.replica.proofs.StandingSites.{new_stands}
use Rattle.site_journal.specs.declared.step.Step.{Step}
use Rattle.site_journal.specs.declared.step.StepDeed.TheVariants.{Took}
use Rattle.site_journal.specs.Journals.{IsJournal, JournalState}
use Rattle.site_journal.specs.Legal.{LeadAll}
use Rattle.sites_world.specs.declared.event.Event.{Event}
use Rattle.sites_world.specs.declared.event.Event.TheVariants as event
use Rattle.sites_world.specs.Worlds.{World, new_world, site_of}
use Rattle.sites_world.proofs.Lists.{none_some, one_some}
use Rattle.site_audit.specs.declared.replay.Replay.{Replay}
use Rattle.site_audit.specs.Ending.{HasAllSteps, IsLeastLeft}
use Rattle.site_audit.specs.Places.{HaveGiven, IsIndexOf, IsSiteAt}
use Rattle.site_audit.specs.Replays.{CannotGoOn, Ended, HasPlayed, IsUnplayed, IsReplay, Waits, found_in}
use Rattle.site_audit.specs.Runs.{AreGiven, AreSites, GivesDeed, IsFromNew, IsRun, IsStuck, names_in, world_after}
use Rattle.site_audit.proofs.Lists.{drop_all, same_or_not, take_all}
use Rattle.site_audit.proofs.Deeds.{same_site_of}

-- ---- the beginning

-- nothing of a list
take_none : {X : Type 0} (xs : List X) → take 0 xs ≡ []
take_none [] = refl
take_none (x ∷ xs) = refl

drop_none : {X : Type 0} (xs : List X) → drop 0 xs ≡ xs
drop_none [] = refl
drop_none (x ∷ xs) = refl

-- a list of `n` copies has one at each place
replicated : {X : Type 0} (n : ℕ) (x : X) (i : ℕ) → i < n → slice_get (replicate n x) i ≡ Some x
replicated zero x i lt = absurd (omega (arith, lt))
replicated (suc n) x zero lt = refl
replicated (suc n) x (suc i) lt = replicated n x i (omega (arith, lt))

-- before the first event each site has been given nothing
module _ (journals : List JournalState) (sites : AreSites journals) (whole : (site : ℕ) (j : JournalState) → slice_get journals site ≡ Some j → IsFromNew j)
    (legal : (site : ℕ) (j : JournalState) → slice_get journals site ≡ Some j → IsJournal j) where
  begun_at : (site : ℕ) (j : JournalState) → slice_get journals site ≡ Some j → IsSiteAt journals [] site 0 j
  begun_at site j known =
      let new = (whole site j known).base in
      record {
        given = record { within = omega arith; given = take_none j.steps };
        s = new_site;
        knows = replicated (length journals) new_site site (slice_get_within journals site j known);
        state = j.base;
        is = record { site = sites.numbers site j known; names_are = sites.names site j known; stands = new_stands j.base new.state new.pending new.last_count new.last_time new.frames };
        leads = subst (λ steps. LeadAll j.base steps j.replica) (sym (drop_none j.steps)) (legal site j known).legal;
      }

  begun_all : (at : List ℕ) → length at ≡ length journals → ((site n : ℕ) → slice_get at site ≡ Some n → n ≡ 0) → HaveGiven journals at []
  begun_all at count zero_at = record {
    places = count;
    sites = All-from_recursion (λ x. site_of x < length journals) [] tt;
    each = λ site n j known here. subst (λ m. IsSiteAt journals [] site m j) (sym (zero_at site n here)) (begun_at site j known);
  }

  pub begins : (r : Replay) → IsUnplayed r (length journals) → IsReplay journals r
  begins r b = record {
    is = subst (HaveGiven journals r.at.items) (sym b.events) (begun_all r.at.items b.count b.at);
    index = subst (λ es. IsIndexOf (found_in r.pool) (world_after journals es).pool) (sym b.events) (record {
      some = λ bytes place h. absurd (none_some place (sym (b.found bytes) ∙ h));
      none = λ bytes place h there. none_some there.entry there.is;
    });
    entries = b.entries ∙ ap (λ es. length (world_after journals es).pool) (sym b.events);
    few = let e = b.entries in omega (arith, e);
  }

-- ---- rounds

-- a round with some sites behind it
pub record InRound (journals : List JournalState) (start now : Replay) (more : Bool) (site : ℕ) : Type 0 where
  pub kept : IsReplay journals now
  pub grown : length start.events.items ≤ length now.events.items
  pub more_is : more ≡ true → length start.events.items < length now.events.items
  pub none : more ≡ false → (earlier : ℕ) → earlier < site → CannotGoOn journals now earlier

-- one site more
pub round_on : (journals : List JournalState) (start old new : Replay) (more played : Bool) (site : ℕ) → InRound journals start old more site → HasPlayed journals old new site played
    → InRound journals start new (more || played) (site + 1)
round_on journals start old new true true site r h =
    record { kept = h.0; grown = (let a = r.grown in let b = h.1 in omega (arith, a, b)); more_is = λ _. (let a = r.grown in let b = h.1 in omega (arith, a, b)); none = λ e. absurd (true≢false e) }
round_on journals start old new false true site r h =
    record { kept = h.0; grown = (let a = r.grown in let b = h.1 in omega (arith, a, b)); more_is = λ _. (let a = r.grown in let b = h.1 in omega (arith, a, b)); none = λ e. absurd (true≢false e) }
round_on journals start old new true false site r h =
    subst (λ now. InRound journals start now true (site + 1)) (sym h.0) (record { kept = r.kept; grown = r.grown; more_is = r.more_is; none = λ e. absurd (true≢false e) })
round_on journals start old new false false site r h = subst (λ now. InRound journals start now false (site + 1)) (sym h.0) (record {
  kept = r.kept;
  grown = r.grown;
  more_is = λ e. absurd (true≢false (sym e));
  none = λ _ earlier lt. elim (same_or_not earlier site) [
    | inl e ↦ subst (CannotGoOn journals old) (sym e) (subst (λ now. CannotGoOn journals now site) h.0 h.1)
    | inr apart ↦ r.none refl earlier (omega (arith, lt, apart))
  ];
})

-- ---- the ends

-- a take of bytes that no entry is spelled by is given by no event
waiting_gives : (names : List (List ℕ)) (w : World) (find : List ℕ → Option ℕ) (e : Event) (bytes : List ℕ) → IsIndexOf find w.pool → find bytes ≡ None → GivesDeed names w e (Took bytes) → ⊥
waiting_gives names w find (event.Take site place) bytes index others g = index.none bytes place others g.1
waiting_gives names w find (event.Cut site) bytes index others g = absurd g
waiting_gives names w find (event.Whole site) bytes index others g = absurd g
waiting_gives names w find (event.Ask site asked) bytes index others g = absurd g

-- no event gives a site that can't go on its next step
gives_none : (journals : List JournalState) (r : Replay) → IsReplay journals r → (site n : ℕ) (j : JournalState) (step : Step) (e : Event) → slice_get journals site ≡ Some j
    → slice_get r.at.items site ≡ Some n → slice_get j.steps n ≡ Some step → GivesDeed (names_in journals) (world_after journals r.events.items) e step.deed → CannotGoOn journals r site → ⊥
gives_none journals r is site n j step e journal place next gives (Ended k known all) =
    let same : k ≡ j = one_some k j (sym known ∙ journal) in
    let m : length k.steps ≡ n = one_some _ _ (sym all ∙ place) in
    let l : length k.steps ≡ length j.steps = ap (λ x. length x.steps) same in
    let lt = slice_get_within j.steps n step next in omega (arith, m, l, lt)
gives_none journals r is site n j step e journal place next gives (Waits bytes x others) =
    let m : x.n ≡ n = one_some _ _ (sym x.at ∙ place) in
    let k : x.j ≡ j = one_some _ _ (sym x.journal ∙ journal) in
    let same : x.step ≡ step = one_some _ _ (sym x.next ∙ ap (λ y. slice_get y.steps x.n) k ∙ ap (slice_get j.steps) m ∙ next) in
    waiting_gives (names_in journals) (world_after journals r.events.items) (found_in r.pool) e bytes is.index others
    (subst (GivesDeed (names_in journals) (world_after journals r.events.items) e) (sym (ap (λ y. y.deed) same) ∙ x.deed_is) gives)

-- where no site can go on the events are stuck at the first step that is left of the least site that hasn't all
pub ends_stuck : (journals : List JournalState) (r : Replay) (site position : ℕ) → IsReplay journals r → ((other : ℕ) → other < length journals → CannotGoOn journals r other)
    → IsLeastLeft journals r.at.items site → slice_get r.at.items site ≡ Some position → IsStuck journals site position r.events.items
ends_stuck journals r site position is cannot least here =
    let same : least.n ≡ position = one_some _ _ (sym least.here ∙ here) in
    record {
      at = r.at.items;
      every = is.is.places;
      sites = is.is.sites;
      given = λ other n j known at. (is.is.each other n j known at).given;
      here = here;
      fewer = λ k known. subst (λ x. position < length x.steps) (one_some least.j k (sym least.journal ∙ known)) (let a = least.left in omega (arith, a, same));
      lesser = λ other n k less known at. one_some _ _ (sym at ∙ least.before other less k known);
      stuck = λ other n j step known at next e of gives. gives_none journals r is other n j step e known at next gives (cannot other (slice_get_within journals other j known));
    }

-- where each site has all its steps they are one run
pub ends_as_run : (journals : List JournalState) (r : Replay) → IsReplay journals r → ((site : ℕ) → HasAllSteps journals r.at.items site) → IsRun journals r.events.items
ends_as_run journals r is all = record {
  sites = is.is.sites;
  given = λ site j known. let x = is.is.each site (length j.steps) j known (all site j known) in
      subst (AreGiven (names_in journals) (new_world (length journals)) r.events.items site) (take_all j.steps) x.given.given;
  knows = λ site j known. let x = is.is.each site (length j.steps) j known (all site j known) in
      record { s = x.s; is = x.knows; stands = same_site_of (names_in journals) site x.state j.replica x.s x.is (subst (λ steps. LeadAll x.state steps j.replica) (drop_all j.steps) x.leads) };
}
