-- What a set keeps over changes, and what holds of every set.
use Rattle.std.proofs.Common.{◌≡◌, ◌≤◌, false, refl, sym, subst}
use Rattle.std.specs.FinMap as map
use Rattle.std.specs.FinSet as set
use Rattle.dots.specs.declared.limits.TheConstants.{MOST_LIVE, MOST_RUNS}
use Rattle.operations.specs.Conditions.{DotFields}
use Rattle.dots.specs.DotSets.{run_count}
use Rattle.dots.specs.Orders.{dot_cmp}
use Rattle.dots.specs.Values.{Dot}
use Rattle.dots.specs.WithinLimits.{AreDots}
use Rattle.causal_context.specs.Contexts.{Known}
use Rattle.live_cells.specs.declared.places.TheConstants.{LAST_GENERATION}
use Rattle.live_cells.specs.CellIds.{IdSet, retired_of}
use Rattle.live_cells.specs.LiveStates.{AreLive, LiveState, fields_joined_at, spent_with}
use Rattle.member_orset.specs.Members.{AreKept, HasField, IsSet, IsWithinLimits, most_retired}
use Rattle.member_orset.proofs.Asserting.{held_inserted, held_met, held_more, held_none, held_removed, insert_has, insert_more}
use Rattle.member_orset.proofs.Deaths.{few_retired, heard_keys, more_dead, none_spent, removed_dead, removed_named, same_dead, same_keys, stays_dead, still_dead}
use Rattle.live_cells.proofs.IdSteps.{follow_remove}
use Rattle.live_cells.specs.Holdings.{Holding}

-- sets of dots
abbrev Dots : Type 0
Dots = set.FinSet dot_cmp

-- live dots
abbrev Live : Type 0
Live = map.FinMap dot_cmp Holding

-- the invariant of equal sets is the same
pub set_same : (known after : Dots) (live now : Live) (spent new : IdSet) → after ≡ known → now ≡ live → new ≡ spent → IsSet known live spent → IsSet after now new
set_same known after live now spent new k l s is = subst (λ (X : Type 0). X) (λ i. IsSet (sym k i) (sym l i) (sym s i)) is

-- nothing is live, and nothing spent
pub set_none : (known : Dots) (live : Live) (spent : IdSet) → live ≡ map.empty → spent ≡ set.empty → IsSet known live spent
set_none known live spent none unspent = record { kept = held_none known live none; dead = none_spent known (map.contains_key live) spent unspent }

-- nothing is spent
pub set_unspent : (known : Dots) (live : Live) (spent : IdSet) → AreKept known live → spent ≡ set.empty → IsSet known live spent
set_unspent known live spent kept unspent = record { kept = kept; dead = none_spent known (map.contains_key live) spent unspent }

-- a dot is dead
pub set_killed : (known : Dots) (cells : LiveState) (d : Dot) → ((q : Dot) → map.contains_key cells.ids q ≡ map.contains_key cells.live q) → IsSet known cells.live cells.spent
    → IsSet (set.insert known d) (map.remove cells.live d) (spent_with (map.get cells.ids d) cells.spent)
set_killed known cells d named is = record {
  kept = held_more known (set.insert known d) (map.remove cells.live d) (insert_more known d) (held_removed known cells.live d is.kept);
  dead = still_dead known (set.insert known d) (map.contains_key cells.live) (map.contains_key (map.remove cells.live d)) cells.ids (map.remove cells.ids d) cells.spent (spent_with (map.get cells.ids d) cells.spent)
      (follow_remove cells.ids cells.spent d) named (removed_named cells.ids cells.live d named) (heard_keys known cells.live is.kept) (insert_more known d)
      (λ q h. removed_dead cells.live d q) is.dead;
}

-- the fields of a dot are joined with others, where it is live
pub set_met : (known : Dots) (live : Live) (spent : IdSet) (d : Dot) (f : DotFields) → IsSet known live spent → IsSet known (fields_joined_at live d f) spent
set_met known live spent d f is = record {
  kept = held_met known live d f is.kept;
  dead = same_dead known known (map.contains_key live) (map.contains_key (fields_joined_at live d f)) spent spent refl (same_keys live d f) refl is.dead;
}

-- an unknown dot is live
pub set_brought : (known : Dots) (live : Live) (spent : IdSet) (d : Dot) (x : Holding) → set.contains known d ≡ false → HasField x.1 → map.len (map.insert live d x) ≤ MOST_LIVE
    → IsSet known live spent → IsSet (set.insert known d) (map.insert live d x) spent
set_brought known live spent d x unknown field few is = record {
  kept = held_inserted (set.insert known d) live d x (insert_has known d) field few (held_more known (set.insert known d) live (insert_more known d) is.kept);
  dead = more_dead known (set.insert known d) (map.contains_key live) (map.contains_key (map.insert live d x)) spent spent (insert_more known d) (stays_dead known live d x unknown) refl is.dead;
}

-- few places of a set aren't used again
pub set_rested : (known : Known) (cells : LiveState) → AreDots known.dots → AreLive LAST_GENERATION cells → IsSet known.dots cells.live cells.spent → retired_of LAST_GENERATION cells.spent ≤ most_retired
set_rested known cells are live is = few_retired known.dots (map.contains_key cells.live) cells.spent are is.dead live.worn

-- what holds of every set
pub set_within : (known : Known) (cells : LiveState) → run_count known.dots ≤ MOST_RUNS → AreDots known.dots → AreLive LAST_GENERATION cells → IsSet known.dots cells.live cells.spent
    → IsWithinLimits (record {
      known = known.dots;
      live = cells.live;
      ids = cells.ids;
      spent = cells.spent;
      retired = retired_of LAST_GENERATION cells.spent;
      cell_room = cells.room;
      run_room = known.room;
    })
set_within known cells runs are live is = record {
  cells = is.kept.few;
  rested = set_rested known cells are live is;
  runs = runs;
  known = are;
  held = λ d h e. record { known = is.kept.heard d h e; set = is.kept.set d h e };
  named = live.named;
  apart = live.apart;
  worn = refl;
}
