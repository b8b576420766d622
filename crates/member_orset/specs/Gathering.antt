-- The dots seen below given ones, gathered piece by piece.
use Rattle.std.specs.Prelude.{ℕ, ◌≡◌, ◌<◌, ◌≤◌, ◌+◌, Bool, true, false, not, ◌&&◌, ◌||◌, nat_eq, nat_lt, List, Some, None, if◌then◌else◌}
use Rattle.std.specs.List.{All, list_any}
use Rattle.std.specs.FinSet as set
use Rattle.std.specs.Ordering.{eq_by_cmp}
use Rattle.dots.specs.declared.limits.TheConstants.{MOST_RUNS}
use Rattle.dots.specs.Values.{Dot}
use Rattle.dots.specs.Orders.{dot_cmp}
use Rattle.dots.specs.DotSets.{run_count}
use Rattle.causal_context.specs.declared.context_fault.ContextFault.TheVariants.{RunsFull}
use Rattle.member_orset.specs.declared.gathered.Gathered.{Gathered}
use Rattle.member_orset.specs.declared.piece.Piece.{Piece}

-- whether a dot is given
abbrev pub is_given : List Dot → Dot → Bool
is_given given dot = list_any (eq_by_cmp dot_cmp dot) given

-- the greatest count of the given dots of a site, or 0 where none is of it; all of theirs are from 1
pub record IsGreatest (given : List Dot) (site greatest : ℕ) : Type 0 where
  pub least : All (λ d. d.site ≡ site → 1 ≤ d.count) given
  pub most : All (λ d. d.site ≡ site → d.count ≤ greatest) given
  pub reached : 0 < greatest → is_given given (record { site = site; count = greatest }) ≡ true

-- some of the dots, and among them all of a site
pub record AreOfSite (dots : List Dot) (site : ℕ) (those : List Dot) : Type 0 where
  pub given : All (λ d. is_given dots d ≡ true) those
  pub all : All (λ d. d.site ≡ site → is_given those d ≡ true) dots

-- a dot that is of another one's site, and has no lesser count, has a count past a last one
abbrev pub LiesPast : Dot → ℕ → Dot → Type 0
LiesPast from end dot = dot.site ≡ from.site → from.count ≤ dot.count → end < dot.count

-- some of the dots, and among them the next one from a dot on, if there is one: where these have counts past a last one, all have
pub record AreNext (dots : List Dot) (from : Dot) (those : List Dot) : Type 0 where
  pub given : All (λ d. is_given dots d ≡ true) those
  pub past : (end : ℕ) → All (LiesPast from end) those → All (LiesPast from end) dots

-- a dot lies ahead, on the way from one to a last one of its site
abbrev pub IsAhead : Dot → Dot → Dot → Type 0
IsAhead from last dot = (from.site ≡ dot.site) × (from.count ≤ dot.count) × (dot.count ≤ last.count)

-- counts from a first one to the piece's last one, and no further than a last one: all pass a test, or none does; there is one
-- where the last one isn't before the first
pub record IsPiece (test : ℕ → Bool) (first last : ℕ) (piece : Piece) : Type 0 where
  pub some : first ≤ last → first ≤ piece.last
  pub within : piece.last ≤ last
  pub same : (n : ℕ) → first ≤ n → n ≤ piece.last → test n ≡ piece.inside

-- whether a dot is given or dead: known, and not live
abbrev pub is_to_name : set.FinSet dot_cmp → (Dot → Bool) → List Dot → Dot → Bool
is_to_name known live given dot = is_given given dot || (set.contains known dot && not (live dot))

-- dots of which those of a site are the given and the dead ones, from the count 1 up to a last one
pub record AreToName (known : set.FinSet dot_cmp) (live : Dot → Bool) (given : List Dot) (site last : ℕ)
    (dots : set.FinSet dot_cmp) : Type 0 where
  pub not_zero : set.contains dots (record { site = site; count = 0 }) ≡ false
  pub same : (n : ℕ) → 1 ≤ n → n ≤ last → set.contains dots (record { site = site; count = n }) ≡ is_to_name known live given (record { site = site; count = n })
  pub none_past : (n : ℕ) → last < n → set.contains dots (record { site = site; count = n }) ≡ false

-- the dots of a set that lie before the dot of a site and a count
unfoldable pub part_before : set.FinSet dot_cmp → ℕ → ℕ → set.FinSet dot_cmp
part_before dots site count = set.retain dots (λ d. nat_lt d.site site || (nat_eq d.site site && nat_lt d.count count))

-- what was gathered: how many runs, and a context of the dots, unless it failed; it is full only where there are too many runs
pub record IsGathered (g : Gathered) (dots : set.FinSet dot_cmp) : Type 0 where
  pub counted : g.runs ≡ run_count dots
  pub kept : g.fault ≡ None → g.context.dots ≡ dots
  pub full : g.fault ≡ Some RunsFull → MOST_RUNS < g.runs

-- how many runs there are with one that begins, or with one that goes on
abbrev pub runs_after : ℕ → Bool → ℕ
runs_after runs begins = if begins then runs + 1 else runs
