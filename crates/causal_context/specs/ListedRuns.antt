-- What contracts see of a list of runs, and of two that are walked together.
use Rattle.std.specs.Prelude.{ℕ, suc, ◌+◌, ◌≡◌, ◌≤◌, ◌<◌, ◌⊎◌, Bool, true, false, ◌&&◌, ◌||◌, nat_eq, nat_lt, List, ◌∷◌, ◌++◌, length, take, drop, slice_index_or}
use Rattle.std.specs.List.{All}
use Rattle.dots.specs.Values.{Dot}
use Rattle.dots.specs.DotSets.{Run, AreApart}
use Rattle.causal_context.specs.Contexts.{IsRunWithinLimits}
use Rattle.causal_context.specs.RunLists.{is_first_ours}

-- a list of runs, and how many it has room for
pub record Listed : Type 0 where
  pub items : List Run
  pub room : ℕ

-- the invariant of a list of runs: they are within the limits, and each precedes all that follow it
pub record AreRuns (runs : List Run) : Type 0 where
  pub apart : AreApart runs
  pub limits : All IsRunWithinLimits runs

-- whether a run lies before those that begin at a dot: of a later site, or with a missing count between them
abbrev pub ends_apart : Dot → Run → Bool
ends_apart d r = nat_lt r.site d.site || (nat_eq r.site d.site && nat_lt (suc r.last) d.count)

-- a list with a run in place of those from a start to before an end
abbrev pub replaced : List Run → ℕ → Run → ℕ → List Run
replaced runs start run end = take start runs ++ run ∷ drop end runs

-- a run may take the place of those from a start to before an end
pub record TakesPlace (runs : List Run) (start : ℕ) (run : Run) (end : ℕ) : Type 0 where
  pub order : start ≤ end
  pub within : end ≤ length runs
  pub valid : AreRuns (replaced runs start run end)

-- a run stands at a place that a walk over a list has reached, and the walk goes on after it
pub record IsPassed (runs : List Run) (old new : ℕ) (run : Run) : Type 0 where
  pub reached : old < length runs
  pub is : run ≡ slice_index_or runs old run
  pub passed : new ≡ old + 1

-- nothing is left of a list at a place, and the walk stays there
pub record IsAtEnd (runs : List Run) (old new : ℕ) : Type 0 where
  pub reached : length runs ≤ old
  pub stays : new ≡ old

-- of the rest of two lists, each from a place on, the run that begins first, of either list, is the only one that is passed
abbrev pub IsFirstOf : List Run → ℕ → ℕ → List Run → ℕ → ℕ → Run → Type 0
IsFirstOf ours own own' others theirs theirs' run =
    ((is_first_ours (drop own ours) (drop theirs others) ≡ true) × IsPassed ours own own' run × (theirs' ≡ theirs))
    ⊎ ((is_first_ours (drop own ours) (drop theirs others) ≡ false) × IsPassed others theirs theirs' run × (own' ≡ own))

-- places for the union of two lists of runs: as many that are free as there are others, and then the runs of the first
pub record ArePlaces (places others : List Run) : Type 0 where
  pub free : length others ≤ length places
  pub ours : AreRuns (drop (length others) places)
