-- The order of runs in sorted lists.
use Rattle.std.specs.Prelude.{◌≡◌, ◌≤◌, min, max, Bool, true, false, ◌&&◌, ◌||◌, nat_le, nat_lt, nat_eq, List, [], ◌∷◌}
use Rattle.std.specs.List.{All, list_any, list_all}
use Rattle.dots.specs.Values.{Dot}
use Rattle.dots.specs.DotSets.{Run, first_dot, in_run, in_runs, AreApart}

-- whether a run ends before a dot
abbrev pub is_below : Dot → Run → Bool
is_below d r = nat_lt r.site d.site || (nat_eq r.site d.site && nat_lt r.last d.count)

-- whether a run is whole within another
abbrev pub holds : Run → Run → Bool
holds r x = in_run (first_dot r) x && nat_le r.last x.last

-- whether a run is whole within one of a list
abbrev pub within : List Run → Run → Bool
within rs r = list_any (holds r) rs

-- whether each run of a list is whole within one of another list
abbrev pub all_within : List Run → List Run → Bool
all_within rs xs = list_all (within rs) xs

-- whether a run begins before another, or where it begins
abbrev pub begins_by : Run → Run → Bool
begins_by r x = nat_lt r.site x.site || (nat_eq r.site x.site && nat_le r.first x.first)

-- a run is the first of two lists of runs that are left, and these are what is left without it
pub record IsFirstRun (next : Run) (ours others ours' others' : List Run) : Type 0 where
  pub whole : next.first ≤ next.last
  pub least : (r : Run) → All (λ x. begins_by r x ≡ true) ours → All (λ x. begins_by r x ≡ true) others → begins_by r next ≡ true
  pub before_ours : All (λ x. begins_by next x ≡ true) ours'
  pub before_others : All (λ x. begins_by next x ≡ true) others'
  pub apart_ours : AreApart ours'
  pub apart_others : AreApart others'
  pub same : (d : Dot) → (in_runs ours d || in_runs others d) ≡ (in_run d next || (in_runs ours' d || in_runs others' d))

-- one run from the start of two to their end, of the site of the first
abbrev pub run_over : Run → Run → Run
run_over r x = record { site = r.site; first = min r.first x.first; last = max r.last x.last }

-- whether the first of two lists has the run that begins first
abbrev pub is_first_ours : List Run → List Run → Bool
is_first_ours [] others = false
is_first_ours (r ∷ ours) [] = true
is_first_ours (r ∷ ours) (x ∷ others) = begins_by r x
