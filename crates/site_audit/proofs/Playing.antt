-- An event that was put is a step of the search.
use Rattle.std.proofs.Common.{◌≡◌, ◌<◌, ◌≤◌, ◌+◌, ◌⊎◌, inl, inr, ℕ, suc, Bool, true, false, List, [], ◌∷◌, ◌++◌, append-nil, length, option_map, slice_get, slice_set, Option, Some, None, refl, sym, ap, subst, ◌∙◌, arith, drop, get_or}
use Rattle.std.proofs.lemmas.List.{length-append}
use Rattle.std.proofs.lemmas.Option.{slice_get_read}
use Rattle.std.proofs.lemmas.Slice.Eq.{bytes_eq-Decides}
use Rattle.std.specs.Map.{update}
use Rattle.std.specs.Str.{bytes_eq}
use Rattle.delta.proofs.StandingDeltas.{one_delta}
use Rattle.delta_codec.proofs.FrameLaws.{one_spelling}
use Rattle.replica.specs.Site.{SiteState}
use Rattle.replica.specs.Steps.{SiteKnowledge}
use Rattle.site_journal.specs.declared.step.Step.{Step}
use Rattle.site_journal.specs.declared.step.StepDeed.{StepDeed}
use Rattle.site_journal.specs.declared.step.StepDeed.TheVariants.{Asked, Took, Cut, Whole}
use Rattle.site_journal.specs.Journals.{JournalState}
use Rattle.site_journal.specs.Legal.{LeadAll, Leads}
use Rattle.sites_world.specs.declared.event.Event.{Event}
use Rattle.sites_world.specs.declared.event.Event.TheVariants as event
use Rattle.sites_world.specs.Holding.{MayTakeEntries}
use Rattle.sites_world.specs.Worlds.{Entry, IsReached, World, happens_at, site_of}
use Rattle.sites_world.specs.WorldStates.{IsSiteOf}
use Rattle.sites_world.proofs.Lists.{get_push, none_some, one_some}
use Rattle.site_audit.specs.declared.pool.Pool.{Pool}
use Rattle.site_audit.specs.declared.replay.Replay.{Replay}
use Rattle.site_audit.specs.Places.{AreSpelled, HaveGiven, IsIndexOf, IsSiteAt}
use Rattle.site_audit.specs.Replays.{CannotGoOn, Ended, HasFound, HasPut, IsNextStep, IsReplay, Waits, event_for, found_in, made_by}
use Rattle.site_audit.specs.Runs.{AreSites, GivesDeed, IsSpelledAt, IsSpelling, names_in, world_after}
use Rattle.site_audit.proofs.Lists.{drop_next, get_front, get_last}
use Rattle.site_audit.proofs.Advance.{advance, world_more}
use Rattle.site_audit.proofs.Deeds.{Comes, ask_comes, cut_comes, empty_comes, take_comes, whole_comes}

-- ---- the pool

-- an entry has one spelling
pub one_spelled : (a b : List ℕ) (entry : Entry) → IsSpelling a entry → IsSpelling b entry → a ≡ b
one_spelled a b entry p q = one_spelling _ p.frame q.frame a b
    (record { maker = p.maker ∙ sym q.maker; number = p.number ∙ sym q.number; delta = one_delta p.frame.delta q.frame.delta entry.carried p.says q.says }) p.spelled q.spelled

-- where bytes are found once some were put there
update_at : (find : List ℕ → Option ℕ) (made bytes : List ℕ) (place : ℕ) → ((bytes ≡ made) × (update bytes_eq find made (Some place) bytes ≡ Some place))
    ⊎ ((bytes ≡ made → ⊥) × (update bytes_eq find made (Some place) bytes ≡ find bytes))
update_at find made bytes place = by (bytes_eq made bytes) refl
  where
    by : (b : Bool) → bytes_eq made bytes ≡ b → ((bytes ≡ made) × (update bytes_eq find made (Some place) bytes ≡ Some place)) ⊎ ((bytes ≡ made → ⊥) × (update bytes_eq find made (Some place) bytes ≡ find bytes))
    by true e = inl (sym (grind (arith, bytes_eq-Decides, e)), rw e refl)
    by false e = inr ((λ same. grind (arith, bytes_eq-Decides, e, same)), rw e refl)

-- an index of one entry more
pub index_more : (find next : List ℕ → Option ℕ) (pool : List Entry) (entry : Entry) (made : List ℕ) → IsIndexOf find pool → IsSpelling made entry
    → ((bytes : List ℕ) → next bytes ≡ update bytes_eq find made (Some (length pool)) bytes) → IsIndexOf next (pool ++ entry ∷ [])
index_more find next pool entry made is spelling found = record { some = at; none = none }
  where
    at : (bytes : List ℕ) (place : ℕ) → next bytes ≡ Some place → IsSpelledAt (pool ++ entry ∷ []) place bytes
    at bytes place h = elim (update_at find made bytes (length pool)) [
      | inl p ↦ subst (λ n. IsSpelledAt (pool ++ entry ∷ []) n bytes) (one_some (length pool) place (sym (found bytes ∙ p.1) ∙ h))
          (record { entry = entry; is = get_last pool entry; spelling = subst (λ b. IsSpelling b entry) (sym p.0) spelling })
      | inr p ↦ let old = is.some bytes place (sym p.1 ∙ sym (found bytes) ∙ h) in record { entry = old.entry; is = get_front pool entry place old.entry old.is; spelling = old.spelling }
    ]

    none : (bytes : List ℕ) (place : ℕ) → next bytes ≡ None → IsSpelledAt (pool ++ entry ∷ []) place bytes → ⊥
    none bytes place h there = elim (update_at find made bytes (length pool)) [
      | inl p ↦ none_some (length pool) (sym h ∙ found bytes ∙ p.1)
      | inr p ↦ elim (get_push pool entry place there.entry there.is) [
        | inl q ↦ is.none bytes place (sym p.1 ∙ sym (found bytes) ∙ h) (record { entry = there.entry; is = q.0; spelling = there.spelling })
        | inr q ↦ p.0 (one_spelled bytes made entry (subst (IsSpelling bytes) q.1 there.spelling) spelling)
      ]
    ]

-- an index that finds the same
pub index_same : (find next : List ℕ → Option ℕ) (pool : List Entry) → IsIndexOf find pool → ((bytes : List ℕ) → next bytes ≡ find bytes) → IsIndexOf next pool
index_same find next pool is found = record { some = λ bytes place h. is.some bytes place (sym (found bytes) ∙ h); none = λ bytes place h. is.none bytes place (sym (found bytes) ∙ h) }

-- what a pool is once entries were added
pub record IsPoolOf (pool : Pool) (entries : List Entry) : Type 0 where
  pub index : IsIndexOf (found_in pool) entries
  pub count : pool.entries ≡ length entries

-- with those that a deed made
pub pool_more : (old new : Pool) (entries added : List Entry) (made : Option (List ℕ)) → IsPoolOf old entries → HasFound old new made → AreSpelled made added
    → IsPoolOf new (entries ++ added) × (new.entries ≤ old.entries + 1)
pool_more old new entries added None is found made =
    let same : entries ++ added ≡ entries = ap (λ a. entries ++ a) made ∙ append-nil entries in
    let count = found.1 in (
      subst (IsPoolOf new) (sym same) (record { index = index_same (found_in old) (found_in new) entries is.index found.0; count = found.1 ∙ is.count }),
      omega (arith, count),
    )
pool_more old new entries added (Some bytes) is found made =
    let count = found.1 in
    let more = length-append entries (made.0 ∷ []) in
    let was = is.count in (
      subst (λ a. IsPoolOf new (entries ++ a)) (sym made.1) (record {
        index = index_more (found_in old) (found_in new) entries made.0 bytes is.index made.2
            (λ b. found.0 b ∙ ap (λ n. update bytes_eq (found_in old) bytes (Some n) b) is.count);
        count = omega (arith, count, more, was);
      }),
      omega (arith, count),
    )

-- ---- the event that is tried

module _ (may : MayTakeEntries) (names : List (List ℕ)) (sites : ℕ) (w : World) (reached : IsReached names sites w) (find : List ℕ → Option ℕ) (index : IsIndexOf find w.pool)
    (s : SiteKnowledge) (site : ℕ) (from to : SiteState) (knows : slice_get w.sites site ≡ Some s) (is : IsSiteOf names site from s) where
  -- the event that is tried for a deed that leads the site on has the effect of the deed
  pub must_come : (e : Event) (deed : StepDeed) → event_for find site deed ≡ Some e → Leads from deed to → (site_of e ≡ site) × Comes names w s e deed to
  must_come e (Asked asked answer) h l =
      subst (λ (x : Event). (site_of x ≡ site) × Comes names w s x (Asked asked answer) to) (one_some _ e h) (refl, ask_comes names w s site from to knows is asked answer l)
  must_come e (Took bytes) h l = took (find bytes) refl h
    where
      took : (found : Option ℕ) → find bytes ≡ found → option_map (event.Take site) found ≡ Some e → (site_of e ≡ site) × Comes names w s e (Took bytes) to
      took None at g = absurd (none_some e g)
      took (Some place) at g =
          subst (λ (x : Event). (site_of x ≡ site) × Comes names w s x (Took bytes) to) (one_some _ e g)
          (refl, take_comes names w s site from to knows is may sites reached bytes place (index.some bytes place at) l)
  must_come e (Cut None) h l = subst (λ (x : Event). (site_of x ≡ site) × Comes names w s x (Cut None) to) (one_some _ e h) (refl, empty_comes names w s site from to knows is l)
  must_come e (Cut (Some bytes)) h l = subst (λ (x : Event). (site_of x ≡ site) × Comes names w s x (Cut (Some bytes)) to) (one_some _ e h) (refl, cut_comes names w s site from to knows is bytes l)
  must_come e (Whole bytes) h l = subst (λ (x : Event). (site_of x ≡ site) × Comes names w s x (Whole bytes) to) (one_some _ e h) (refl, whole_comes names w s site from to knows is bytes l)

-- an event was put that is the one for a site's next step
pub put_plays : MayTakeEntries → (journals : List JournalState) (old new : Replay) (site : ℕ) (e : Event) (deed : StepDeed) → IsReplay journals old → IsNextStep journals old site deed
    → event_for (found_in old.pool) site deed ≡ Some e → HasPut old new site e deed → IsReplay journals new × (length new.events.items ≡ length old.events.items + 1)
put_plays may journals old new site e deed r x event_is put = (
  record {
    is = subst (λ at. HaveGiven journals at new.events.items) (sym (put.at x.n x.at)) (subst (λ es. HaveGiven journals (slice_set old.at.items site (suc x.n)) es) (sym put.events) now);
    index = subst (λ es. IsIndexOf (found_in new.pool) (world_after journals es).pool) (sym put.events) (subst (IsIndexOf (found_in new.pool)) (sym pool_is) pool.0.index);
    entries = pool.0.count ∙ ap length (sym pool_is) ∙ ap (λ es. length (world_after journals es).pool) (sym put.events);
    few = let a = r.few in let b = pool.1 in let c = more in omega (arith, a, b, c);
  },
  more,
)
  where
    w : World
    w = world_after journals old.events.items

    was : IsSiteAt journals old.events.items site x.n x.j
    was = r.is.each site x.n x.j x.journal x.at

    l : LeadAll was.state (x.step ∷ drop (suc x.n) x.j.steps) x.j.replica
    l = subst (λ steps. LeadAll was.state steps x.j.replica) (drop_next x.j.steps x.n x.step x.next) was.leads

    c : (site_of e ≡ site) × Comes (names_in journals) w was.s e deed l.0
    c = must_come may (names_in journals) (length journals) w (record { events = old.events.items; is = refl }) (found_in old.pool) r.index was.s site was.state l.0 was.knows was.is e deed event_is
        (subst (λ d. Leads was.state d l.0) x.deed_is l.1)

    at-site : slice_get w.sites (site_of e) ≡ Some was.s
    at-site = ap (slice_get w.sites) c.0 ∙ was.knows

    now : HaveGiven journals (slice_set old.at.items site (suc x.n)) (old.events.items ++ e ∷ [])
    now = subst (λ n. HaveGiven journals (slice_set old.at.items n (suc x.n)) (old.events.items ++ e ∷ [])) c.0
        (advance journals old.at.items old.events.items r.is x.j x.n x.step e was.s (ap (slice_get journals) c.0 ∙ x.journal) (ap (slice_get old.at.items) c.0 ∙ x.at) x.next at-site
        l.0 (subst (λ d. GivesDeed (names_in journals) w e d) (sym x.deed_is) c.1.gives) c.1.is l.2)

    pool_is : (world_after journals (old.events.items ++ e ∷ [])).pool ≡ w.pool ++ (happens_at (names_in journals) w.pool was.s e).added
    pool_is = ap (λ v. v.pool) (world_more journals old.at.items old.events.items r.is x.j x.n x.step e was.s (ap (slice_get journals) c.0 ∙ x.journal)
        (ap (slice_get old.at.items) c.0 ∙ x.at) x.next at-site)

    pool : IsPoolOf new.pool (w.pool ++ (happens_at (names_in journals) w.pool was.s e).added) × (new.pool.entries ≤ old.pool.entries + 1)
    pool = pool_more old.pool new.pool w.pool (happens_at (names_in journals) w.pool was.s e).added (made_by deed) (record { index = r.index; count = r.entries }) put.found c.1.added

    more : length new.events.items ≡ length old.events.items + 1
    more = ap length put.events ∙ length-append old.events.items (e ∷ [])

-- ---- what was read

-- what was read of a site whose next step is this deed
pub next_of : (journals : List JournalState) (r : Replay) (place at : ℕ) (j : JournalState) (steps : List Step) (step : Step) → IsReplay journals r → place < length journals
    → j ≡ get_or journals place j → at ≡ get_or r.at.items place at → steps ≡ j.steps → at < length steps → step ≡ get_or steps at step → IsNextStep journals r place step.deed
next_of journals r place at j steps step is low j-is at-is steps-are left step-is = record {
  j = j;
  n = at;
  step = step;
  journal = slice_get_read journals (length journals) place j refl low j-is;
  at = slice_get_read r.at.items (length r.at.items) place at refl (let e = is.is.places in omega (arith, e, low)) at-is;
  next = ap (λ s. slice_get s at) (sym steps-are) ∙ slice_get_read steps (length steps) at step refl left step-is;
  deed_is = refl;
}

-- what was read of a site that has all its steps
pub ended_of : (journals : List JournalState) (r : Replay) (place at : ℕ) (j : JournalState) (steps : List Step) → IsReplay journals r → place < length journals
    → j ≡ get_or journals place j → at ≡ get_or r.at.items place at → steps ≡ j.steps → length steps ≤ at → CannotGoOn journals r place
ended_of journals r place at j steps is low j-is at-is steps-are all =
    let known : slice_get journals place ≡ Some j = slice_get_read journals (length journals) place j refl low j-is in
    let here : slice_get r.at.items place ≡ Some at = slice_get_read r.at.items (length r.at.items) place at refl (let e = is.is.places in omega (arith, e, low)) at-is in
    let up = (is.is.each place at j known here).given.within in
    let len = ap length steps-are in
    Ended j known (here ∙ ap Some (let e : at ≡ length j.steps = omega (arith, up, len, all) in e))

-- a deed has no event where it is a take of bytes that aren't found
pub waits_of : (journals : List JournalState) (r : Replay) (site : ℕ) (deed : StepDeed) → IsNextStep journals r site deed → event_for (found_in r.pool) site deed ≡ None → CannotGoOn journals r site
waits_of journals r site (Took bytes) x h = by (found_in r.pool bytes) refl h
  where
    by : (found : Option ℕ) → found_in r.pool bytes ≡ found → option_map (event.Take site) found ≡ None → CannotGoOn journals r site
    by None at g = Waits bytes x at
    by (Some place) at g = absurd (none_some (event.Take site place) (sym g))
waits_of journals r site (Asked asked answer) x h = absurd (none_some (event.Ask site asked) (sym h))
waits_of journals r site (Cut made) x h = absurd (none_some (event.Cut site) (sym h))
waits_of journals r site (Whole made) x h = absurd (none_some (event.Whole site) (sym h))

-- the site of the journal at a place
pub site_at : (journals : List JournalState) (place : ℕ) (j : JournalState) → AreSites journals → place < length journals → j ≡ get_or journals place j → j.base.site ≡ place
site_at journals place j sites low j-is = sites.numbers place j (slice_get_read journals (length journals) place j refl low j-is)

-- the names of the first journal
pub names_of_first : (journals : List JournalState) (j : JournalState) → slice_get journals 0 ≡ Some j → names_in journals ≡ j.base.names
names_of_first [] j h = absurd (none_some j h)
names_of_first (k ∷ ks) j h = ap (λ x. x.base.names) (one_some k j h)
