-- The live dots of a set after a join with another set or one dot, and whether those of two sets are equal.
use Rattle.std.specs.Prelude.{ℕ, ◌≡◌, ◌≢◌, ◌≤◌, ◌<◌, ◌+◌, ◌⊎◌, Bool, true, false, not, ◌&&◌, Option, Some, None, List, Contains, if◌then◌else◌}
use Rattle.std.specs.List.{All}
use Rattle.std.specs.FinMap as map
use Rattle.std.specs.Ordering.{eq_by_cmp}
use Rattle.dots.specs.Values.{Dot}
use Rattle.dots.specs.DotSets.{Run, in_run}
use Rattle.dots.specs.Orders.{dot_cmp}
use Rattle.operations.specs.Conditions.{FieldsAgree, FieldsInConflict, fields_joined}
use Rattle.live_cells.specs.declared.live_dot.LiveDot.{LiveDot}
use Rattle.live_cells.specs.LiveLists.{holding}
use Rattle.live_cells.specs.LiveStates.{HaveGrown, LiveState}
use Rattle.live_cells.specs.Holdings.{Holding}

-- what is live of a dot after a join, by what is live of it on each side and whether each side knows it: live on both sides it is
-- joined, and live on one it stays if the other doesn't know it
abbrev pub holding_joined : Option Holding → Bool → Option Holding → Bool → Option Holding
holding_joined (Some h) known (Some g) known_there = Some (h.0, fields_joined h.1 g.1)
holding_joined (Some h) known None known_there = if known_there then None else Some h
holding_joined None known live_there known_there = if known then None else live_there

-- what is live agrees with what a dot is to be joined with, in member and fields
abbrev pub HoldingsAgree : Option Holding → Holding → Type 0
HoldingsAgree None g = Unit {0}
HoldingsAgree (Some h) g = (h.0 ≡ g.0) × FieldsAgree h.1 g.1

-- what is live is in conflict with what a dot is to be joined with, in member or fields
abbrev pub HoldingsInConflict : Option Holding → Holding → Type 0
HoldingsInConflict None g = ⊥
HoldingsInConflict (Some h) g = (h.0 ≢ g.0) ⊎ FieldsInConflict h.1 g.1

-- what is live of each dot agrees with an entry of it
abbrev pub EntriesAgree : map.FinMap dot_cmp Holding → List (Dot × Holding) → Type 0
EntriesAgree live entries = All (λ e. HoldingsAgree (map.get live e.0) e.1) entries

-- an entry is in conflict with what is live of its dot
pub record Clash (live : map.FinMap dot_cmp Holding) (entries : List (Dot × Holding)) : Type 0 where
  pub entry : Dot × Holding
  pub here : Contains entries entry
  pub conflict : HoldingsInConflict (map.get live entry.0) entry.1

-- whether all entries agree with what is live of their dots
abbrev pub DecidesAgreement : map.FinMap dot_cmp Holding → List (Dot × Holding) → Bool → Type 0
DecidesAgreement live entries true = EntriesAgree live entries
DecidesAgreement live entries false = Clash live entries

-- whether a dot is in a run and not live on the other side
abbrev pub dead_in_run : Run → map.FinMap dot_cmp Holding → Dot → Bool
dead_in_run run there dot = in_run dot run && not (map.contains_key there dot)

-- a dot of a run that is live here and not there, with a count from a given one on, and the first such dot
pub record IsFirstDead (run : Run) (there : map.FinMap dot_cmp Holding) (first : ℕ) (live : map.FinMap dot_cmp Holding) (dot : Dot) : Type 0 where
  pub site_is : dot.site ≡ run.site
  pub least : first ≤ dot.count
  pub most : dot.count ≤ run.last
  pub here : map.contains_key live dot ≡ true
  pub gone : map.contains_key there dot ≡ false
  pub none : (n : ℕ) → first ≤ n → n < dot.count → (map.contains_key live (record { site = run.site; count = n }) && not (map.contains_key there (record { site = run.site; count = n }))) ≡ false

-- the first of the dots of a run, from a count on, that are live here and not there, or none if there is none
abbrev pub IsNextDead : Run → map.FinMap dot_cmp Holding → ℕ → map.FinMap dot_cmp Holding → Option Dot → Type 0
IsNextDead run there first live None = (n : ℕ) → first ≤ n → n ≤ run.last → (map.contains_key live (record { site = run.site; count = n }) && not (map.contains_key there (record { site = run.site; count = n }))) ≡ false
IsNextDead run there first live (Some dot) = IsFirstDead run there first live dot

-- what is live of a dot after the join with what is live of it there, if anything
abbrev pub holding_with : Option Holding → Bool → Option Holding → Option Holding
holding_with live known None = live
holding_with live known (Some h) = holding_joined live known (Some h) true

-- a cell was joined
pub record IsTakenIn (known : Dot → Bool) (old : LiveState) (cell : LiveDot) (new : LiveState) : Type 0 where
  pub live : (q : Dot) → map.get new.live q ≡ (if eq_by_cmp dot_cmp q cell.dot then holding_with (map.get old.live q) (known q) (Some (holding cell)) else map.get old.live q)
  pub ids : HaveGrown old new
  pub few : map.len new.live ≤ map.len old.live + 1
  pub room : old.room ≤ new.room

-- all cells of the other side were joined
pub record IsJoinedWith (known : Dot → Bool) (old : LiveState) (there : map.FinMap dot_cmp Holding) (new : LiveState) : Type 0 where
  pub live : (q : Dot) → map.get new.live q ≡ holding_with (map.get old.live q) (known q) (map.get there q)
  pub ids : HaveGrown old new

-- the other side's cells of known dots were joined, and those of unknown dots are left; each live dot here is known, and there is
-- room for what is left
pub record AreNewLeft (known : Dot → Bool) (old : LiveState) (there : map.FinMap dot_cmp Holding) (new : LiveState) (rest : map.FinMap dot_cmp Holding) : Type 0 where
  pub live : (q : Dot) → map.get new.live q ≡ (if known q then holding_with (map.get old.live q) true (map.get there q) else None)
  pub left : (q : Dot) → map.get rest q ≡ (if known q then None else map.get there q)
  pub ids : HaveGrown old new
  pub room : map.len new.live + map.len rest ≤ new.room

-- each dot that is live there is live here, with the same member and fields
abbrev pub HasAll : map.FinMap dot_cmp Holding → map.FinMap dot_cmp Holding → Type 0
HasAll live there = (dot : Dot) (h : Holding) → map.get there dot ≡ Some h → map.get live dot ≡ Some h
