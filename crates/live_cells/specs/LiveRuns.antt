-- Runs of live dots: dots of one site with consecutive counts.
use Rattle.std.specs.Prelude.{ℕ, ◌≡◌, ◌+◌, ◌-◌, List, slice_index_or}
use Rattle.std.specs.Coded.{Coded-set, coded_ℕ}
use Rattle.live_cells.specs.declared.placed.Placed.{Placed}

-- the dots from one place to another are a run: they are of one site, and the counts of these two are as far apart as their places
pub record IsLiveRun (dots : List Placed) (first last : ℕ) : Type 0 where
  pub site : (p : Placed) → (slice_index_or dots last p).dot.site ≡ (slice_index_or dots first p).dot.site
  pub count : (p : Placed) → (slice_index_or dots last p).dot.count ≡ (slice_index_or dots first p).dot.count + (last - first)

-- that the dots from one place to another are a run has one proof at most
pub run-prop : (dots : List Placed) (first last : ℕ) → IsProp (IsLiveRun dots first last)
run-prop dots first last a b = λ i. record {
  site = λ p. Coded-set coded_ℕ _ _ (a.site p) (b.site p) i;
  count = λ p. Coded-set coded_ℕ _ _ (a.count p) (b.count p) i;
}
