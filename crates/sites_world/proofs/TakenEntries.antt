-- A take whose outcome is that the frame was taken gives its site every operation of the entry.
use Rattle.std.proofs.Common.{◌≡◌, ℕ, Bool, true, false, nat_lt, List, [], ◌++◌, slice_get, Option, Some, None, Ok, refl}
use Rattle.std.specs.FinSet as set
use Rattle.std.proofs.lemmas.Option.{slice_get_within}
use Rattle.dots.specs.declared.limits.TheConstants.{MOST_LIVE, MOST_RUNS}
use Rattle.dots.specs.DotSets.{run_count}
use Rattle.operations.specs.Knowledge.{known_dots, visible_dots}
use Rattle.replica.specs.Steps.{SiteKnowledge}
use Rattle.sites_world.specs.declared.event.Event.TheVariants as event
use Rattle.sites_world.specs.declared.outcome.Outcome.TheVariants.{Took}
use Rattle.sites_world.specs.Promises.{HasTakenEntry}
use Rattle.sites_world.specs.Worlds.{Entry, World, after_happening, happens, happens_where, take_result, taken}
use Rattle.sites_world.proofs.Lists.{get_set_same}
use Rattle.sites_world.proofs.OutcomeLaws.{take_by}
use Rattle.sites_world.proofs.Parts.{first_part, second_part}

pub taken_gives : (names : List (List ℕ)) (w : World) (site place : ℕ) → (happens names w (event.Take site place)).1 ≡ Took (Ok tt)
    → HasTakenEntry w (happens names w (event.Take site place)).0 site place
taken_gives names w site place reported = at-site (slice_get w.sites site) refl reported
  where
    by_limits : (s : SiteKnowledge) (entry : Entry) (cells runs : Bool) → slice_get w.sites site ≡ Some s → slice_get w.pool place ≡ Some entry
        → Took (take_result (take_by s entry.carried cells runs).1) ≡ Took (Ok tt)
        → HasTakenEntry w (after_happening w site (record { site = (take_by s entry.carried cells runs).0; added = []; outcome = Took (take_result (take_by s entry.carried cells runs).1) })) site place
    by_limits s entry true runs was carried reported = absurd (cc)
    by_limits s entry false true was carried reported = absurd (cc)
    by_limits s entry false false was carried reported = record {
      before = s;
      entry = entry;
      now = record { known = entry.carried ++ s.known; buffer = s.buffer; frames = s.frames };
      was = was;
      carried = carried;
      is = get_set_same w.sites site (record { known = entry.carried ++ s.known; buffer = s.buffer; frames = s.frames }) (slice_get_within w.sites site s was);
      given = first_part entry.carried s.known;
      kept = second_part entry.carried s.known;
      no_more = λ o here. here;
    }

    at_entry : (s : SiteKnowledge) (found : Option Entry) → slice_get w.sites site ≡ Some s → slice_get w.pool place ≡ found
        → (taken s found).outcome ≡ Took (Ok tt) → HasTakenEntry w (after_happening w site (taken s found)) site place
    at_entry s None was carried reported = absurd (cc)
    at_entry s (Some entry) was carried reported =
        by_limits s entry (nat_lt MOST_LIVE (set.len (visible_dots (entry.carried ++ s.known)))) (nat_lt MOST_RUNS (run_count (known_dots (entry.carried ++ s.known)))) was carried reported

    at-site : (found : Option SiteKnowledge) → slice_get w.sites site ≡ found → (happens_where names w site found (event.Take site place)).1 ≡ Took (Ok tt)
        → HasTakenEntry w (happens_where names w site found (event.Take site place)).0 site place
    at-site None was reported = absurd (cc)
    at-site (Some s) was reported = at_entry s (slice_get w.pool place) was refl reported
