-- The world of operations: what each site knows, and the frames that were made. A lost frame is one that is never taken; each frame
-- may be taken again and in any order (RR-7506: a replica is changed at its source, and merges what it is sent at any time).
use Rattle.std.specs.Prelude.{ℕ, ◌≡◌, Bool, true, false, List, [], ◌∷◌, ◌++◌, length, replicate, slice_get, slice_set, Option, Some, None, Result, Ok, Err, if◌then◌else◌, ◌&&◌, is_some}
use Rattle.operations.specs.Knowledge.{Knowledge}
use Rattle.replica.specs.declared.cut_fault.CutFault.{CutFault}
use Rattle.replica.specs.declared.cut_fault.CutFault.TheVariants.{Exhausted}
use Rattle.replica.specs.declared.take_fault.TakeFault.{TakeFault}
use Rattle.replica.specs.declared.take_fault.TakeFault.TheVariants as take_fault
use Rattle.replica.specs.Steps as steps
use Rattle.replica.specs.Steps.{SiteKnowledge, Cut, Framed, NoNumber, Whole, new_site, step, take}
use Rattle.status_report.specs.declared.asks.Answer.{Answer}
use Rattle.status_report.specs.Knowing.{answer_in}
use Rattle.sites_world.specs.declared.event.Event.{Event}
use Rattle.sites_world.specs.declared.event.Event.TheVariants as event
use Rattle.sites_world.specs.declared.outcome.Outcome.{Outcome}
use Rattle.sites_world.specs.declared.outcome.Outcome.TheVariants as outcome

-- an entry of the pool, a frame that was made: by which site, under which number, and which
-- operations it carries
pub record Entry : Type 0 where
  pub maker : ℕ
  pub number : ℕ
  pub carried : Knowledge

-- a world of operations: what each site knows, by the sites' numbers, and the pool, all frames that were made, in order
pub record World : Type 0 where
  pub sites : List SiteKnowledge
  pub pool : List Entry

-- a world of `sites` new sites, with no frame
abbrev pub new_world : ℕ → World
new_world sites = record { sites = replicate sites new_site; pool = [] }

-- the effect of an event at its site: what the site knows then, the entries that the pool gets, and the outcome
pub record Happening : Type 0 where
  pub site : SiteKnowledge
  pub added : List Entry
  pub outcome : Outcome

-- what happens at a site where an ask is answered: `after` is what the site knows then, and the answer
abbrev pub answered : SiteKnowledge × Answer → Happening
answered after = record { site = after.0; added = []; outcome = outcome.Answered after.1 }

-- the entries of a step of site `maker`: the frame that the step made; none where it made none
abbrev pub entries_of : ℕ → steps.Outcome → List Entry
entries_of maker (Framed number carried) = record { maker = maker; number = number; carried = carried } ∷ []
entries_of maker other = []

-- the result of a cut or a whole: the place of the frame, after `entries` entries; `Exhausted`, where no number was left; or that
-- there was nothing to cut
abbrev pub frame_result : ℕ → steps.Outcome → Result (Option ℕ) CutFault
frame_result entries (Framed number carried) = Ok (Some entries)
frame_result entries NoNumber = Err Exhausted
frame_result entries other = Ok None

-- the effect of a cut or a whole at site `maker` where the pool has `entries` entries: `after` is what the site knows then, and the
-- outcome of its step
abbrev pub framed : ℕ → ℕ → SiteKnowledge × steps.Outcome → Happening
framed maker entries after = record { site = after.0; added = entries_of maker after.1; outcome = outcome.Cut (frame_result entries after.1) }

-- the result of a take: the frame was taken, or the join would have too many dots or runs
abbrev pub take_result : steps.Outcome → Result (Unit {0}) TakeFault
take_result steps.CellsFull = Err take_fault.CellsFull
take_result steps.RunsFull = Err take_fault.RunsFull
take_result other = Ok tt

-- the effect of a take at a site that knows `s`, of the frame of an entry; `NoEntry` where there is no such entry
abbrev pub taken : SiteKnowledge → Option Entry → Happening
taken s None = record { site = s; added = []; outcome = outcome.NoEntry }
taken s (Some entry) = let after = take s entry.carried in record { site = after.0; added = []; outcome = outcome.Took (take_result after.1) }

-- the effect of an event at a site that knows `s`, with the entries `pool` in the pool; each site has the queues of these names
abbrev pub happens_at : List (List ℕ) → List Entry → SiteKnowledge → Event → Happening
happens_at names pool s (event.Ask site asked) = answered (answer_in site names s asked)
happens_at names pool s (event.Cut site) = framed site (length pool) (step site names s Cut)
happens_at names pool s (event.Whole site) = framed site (length pool) (step site names s Whole)
happens_at names pool s (event.Take site entry) = taken s (slice_get pool entry)

-- the site at which an event happens
abbrev pub site_of : Event → ℕ
site_of (event.Ask site asked) = site
site_of (event.Cut site) = site
site_of (event.Whole site) = site
site_of (event.Take site entry) = site

-- world `w` after `h` has happened at the site of the number `site`
abbrev pub after_happening : World → ℕ → Happening → World
after_happening w site h = record { sites = slice_set w.sites site h.site; pool = w.pool ++ h.added }

-- event `e` in world `w`, its site `site` knowing what is given: the world after it, and its
-- outcome; where there is no such site, the outcome is `NoSite` and nothing is changed
abbrev pub happens_where : List (List ℕ) → World → ℕ → Option SiteKnowledge → Event → World × Outcome
happens_where names w site None e = (w, outcome.NoSite)
happens_where names w site (Some s) e = let h = happens_at names w.pool s e in (after_happening w site h, h.outcome)

-- event `e` in world `w`: the world after it, and its outcome
abbrev pub happens : List (List ℕ) → World → Event → World × Outcome
happens names w e = happens_where names w (site_of e) (slice_get w.sites (site_of e)) e

-- whether the pool of world `w` has the entry that an event takes, if it takes one
abbrev pub has_entry : World → Event → Bool
has_entry w (event.Take site entry) = is_some (slice_get w.pool entry)
has_entry w other = true

-- whether world `w` has the site at which event `e` happens, and the entry that it takes, if it takes one
abbrev pub is_there : World → Event → Bool
is_there w e = is_some (slice_get w.sites (site_of e)) && has_entry w e

-- events in turn, from world `w`: the world after them, and the outcome of each
abbrev pub run : List (List ℕ) → World → List Event → World × List Outcome
run names w [] = (w, [])
run names w (e ∷ es) = let one = happens names w e in let rest = run names one.0 es in (rest.0, one.1 ∷ rest.1)

-- events lead from `sites` new sites to world `w`; values past their limits may stand in them, which no program has
pub record IsReached (names : List (List ℕ)) (sites : ℕ) (w : World) : Type 0 where
  pub events : List Event
  pub is : (run names (new_world sites) events).0 ≡ w

-- ---- events that were done

-- whether an outcome is that of an event that was done: all but `NoMemory`
abbrev pub is_done : Outcome → Bool
is_done outcome.NoMemory = false
is_done other = true

-- of events with their outcomes, the events that were done: those whose outcome isn't `NoMemory`
abbrev pub done_of : List Event → List Outcome → List Event
done_of (e ∷ es) (o ∷ os) = if is_done o then e ∷ done_of es os else done_of es os
done_of es os = []

-- of outcomes, those of events that were done: all but `NoMemory`
abbrev pub outcomes_of : List Outcome → List Outcome
outcomes_of [] = []
outcomes_of (o ∷ os) = if is_done o then o ∷ outcomes_of os else outcomes_of os
