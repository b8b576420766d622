-- Lists of live dots that rise: between two that are as far apart by their counts as by their places, all counts are there.
use Rattle.std.proofs.Common.{◌≡◌, ℕ, zero, suc, ◌+◌, ◌-◌, ◌≤◌, ◌<◌, true, ◌&&◌, ◌||◌, nat_eq, List, length, get_or, inl, inr, sym, ap, ◌∙◌, arith}
use Rattle.std.specs.Prelude.{nat_lt}
use Rattle.std.specs.Ordering.{eq_by_cmp}
use Rattle.std.proofs.lemmas.Bool.{cases_lt}
use Rattle.std.proofs.lemmas.Bool.Decides.{nat_tests}
use Rattle.std.proofs.lemmas.List.Elements.{Contains-get_or}
use Rattle.dots.specs.Values.{Dot}
use Rattle.dots.specs.Orders.{dot_cmp}
use Rattle.dots.proofs.DotOrder.{dots_exact, dots_total}
use Rattle.general_lemmas.proofs.Membership.{any_in}
use Rattle.live_cells.specs.declared.placed.Placed.{Placed}
use Rattle.live_cells.specs.LiveRuns.{IsLiveRun}
use Rattle.live_cells.specs.PlacedLists.{is_placed}
use Rattle.live_cells.proofs.DotTests.{same_tied}
use Rattle.live_cells.proofs.Pieces.{lt_dots, more_on}
use Rattle.live_cells.proofs.PlacedOrder.{Rise}
use Rattle.live_cells.proofs.Rising as rising

no_lesser_site : (s t c n : ℕ) → (nat_lt s t || (nat_eq s t && nat_lt c n)) ≡ true → s ≤ t
no_lesser_site s t c n h = grind (arith, nat_tests)

module _ (dots : List Placed) (rise : Rise dots) (e : Placed) where
  abbrev dot : ℕ → Dot
  dot i = (get_or dots i e).dot

  before : (i j : ℕ) → i < j → j < length dots → (nat_lt (dot i).site (dot j).site || (nat_eq (dot i).site (dot j).site && nat_lt (dot i).count (dot j).count)) ≡ true
  before i j lt l = sym (lt_dots (dot i) (dot j)) ∙ rising.earlier dot_cmp dots_total dots_exact (λ p. p.dot) (λ p. p.id) dots i j e e rise lt l

  sites_rise : (i j : ℕ) → i ≤ j → j < length dots → (dot i).site ≤ (dot j).site
  sites_rise i j h l = elim (cases_lt i j) [
    | inl m ↦ no_lesser_site (dot i).site (dot j).site (dot i).count (dot j).count (before i j m l)
    | inr m ↦ let same : i ≡ j = omega arith in let site = ap (λ n. (dot n).site) same in omega arith
  ]

  -- `n` places on, at the same site, the count is greater by at least `n`
  counts_spread : (i n : ℕ) → i + n < length dots → (dot i).site ≡ (dot (i + n)).site → (dot i).count + n ≤ (dot (i + n)).count
  counts_spread i zero l s = let same : i + 0 ≡ i = omega arith in let count = ap (λ m. (dot m).count) same in omega arith
  counts_spread i (suc n) l s =
      let low = sites_rise i (i + n) (omega arith) (omega arith) in
      let high = sites_rise (i + n) (i + suc n) (omega arith) l in
      let fewer = counts_spread i n (omega arith) (omega arith) in
      let one = more_on (dot (i + n)).site (dot (i + suc n)).site (dot (i + suc n)).count (dot (i + n)).count (omega arith) (before (i + n) (i + suc n) (omega arith) l) in
      omega arith

  -- where the counts are as far apart as the places, each count between has its place between
  count_there : (i k c : ℕ) → i ≤ k → k < length dots → (dot k).site ≡ (dot i).site → (dot k).count ≡ (dot i).count + (k - i) → (dot i).count ≤ c → c ≤ (dot k).count
      → ((dot (i + (c - (dot i).count))).site ≡ (dot i).site) × ((dot (i + (c - (dot i).count))).count ≡ c)
  count_there i k c h l s n lo hi =
      let m = i + (c - (dot i).count) in
      let within : m ≤ k = omega arith in
      let low = sites_rise i m (omega arith) (omega arith) in
      let high = sites_rise m k within l in
      let site : (dot i).site ≡ (dot m).site = omega arith in
      let first = counts_spread i (c - (dot i).count) (omega arith) site in
      let end : m + (k - m) ≡ k = omega arith in
      let same_site : (dot m).site ≡ (dot (m + (k - m))).site = sym site ∙ sym s ∙ ap (λ j. (dot j).site) (sym end) in
      let second = counts_spread m (k - m) (omega arith) same_site in
      let last = ap (λ j. (dot j).count) end in
      (sym site, omega arith)

  -- the dots of the counts of a live run are live
  pub run_placed : (i k c : ℕ) → i ≤ k → k < length dots → IsLiveRun dots i k → (dot i).count ≤ c → c ≤ (dot k).count → is_placed dots (record { site = (dot i).site; count = c }) ≡ true
  run_placed i k c h l run lo hi =
      let m = i + (c - (dot i).count) in
      let count = run.count e in
      let there = count_there i k c h l (run.site e) count lo hi in
      let q : Dot = record { site = (dot i).site; count = c } in
      let same : q ≡ dot m = λ j. record { site = sym there.0 j; count = sym there.1 j } in
      any_in (λ p. eq_by_cmp dot_cmp q p.dot) dots (get_or dots m e) (Contains-get_or dots m e (omega arith)) (same_tied q (dot m) same)
