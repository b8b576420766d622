-- Lists of entries, each a key with its value, in the order of their keys.
use Rattle.std.specs.Prelude.{ℕ, ◌≡◌, ◌<◌, ◌≤◌, true, List, length, slice_index_or}
use Rattle.std.specs.declared.cmp.Ordering.{Ordering}
use Rattle.std.specs.declared.cmp.Ordering.TheVariants.{Less, Greater}
use Rattle.std.specs.FinMap as map

-- the keys of `entries` are sorted by `order`, without duplicates
abbrev pub IsRising : {K V : Type 0} → (K → K → Ordering) → List (K × V) → Type 0
IsRising order entries = map.is_sorted order entries ≡ true

-- the entry at place `i` of `entries` has the key `key`
pub record IsAt {K V : Type 0} (entries : List (K × V)) (key : K) (i : ℕ) : Type 0 where
  pub in_range : i < length entries
  pub has_key : (none : K × V) → (slice_index_or entries i none).0 ≡ key

-- `key` has no entry in `entries` and would go to place `i`: smaller keys stand before it, and
-- greater ones from it on
pub record IsGapFor {K V : Type 0} (order : K → K → Ordering) (entries : List (K × V)) (key : K) (i : ℕ) : Type 0 where
  pub in_range : i ≤ length entries
  pub smaller_before : (j : ℕ) (none : K × V) → j < i → order (slice_index_or entries j none).0 key ≡ Less
  pub greater_after : (j : ℕ) (none : K × V) → i ≤ j → j < length entries → order (slice_index_or entries j none).0 key ≡ Greater
