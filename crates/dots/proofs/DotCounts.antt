-- How many dots there are within the limits.
use Rattle.std.proofs.Common.{◌≡◌, ℕ, ◌+◌, ◌-◌, ◌*◌, ◌≤◌, ◌<◌, arith}
use Rattle.std.specs.FinSet as set
use Rattle.dots.specs.declared.limits.TheConstants.{MOST_COUNT, SITES}
use Rattle.dots.specs.Orders.{dot_cmp}
use Rattle.dots.specs.Values.{Dot}
use Rattle.dots.specs.WithinLimits.{AreDots}
use Rattle.general_lemmas.proofs.Counting.{numbered}
use Rattle.dots.proofs.DotOrder.{dots_exact, dots_total}

-- a number of its own for each dot
number : Dot → ℕ
number d = d.site * 1099511627776 + (d.count - 1)

-- a set of dots has at most 2^40 dots for each site
pub dots_few : (dots : set.FinSet dot_cmp) → AreDots dots → set.len dots ≤ SITES * MOST_COUNT
unfolding number
dots_few dots are = numbered dots_total dots_exact number 70368744177664 dots
    (λ q h. let d = are q h in below q.site q.count d.site d.count.0 d.count.1)
    (λ p q h l e. let a = are p h in let b = are q l in
    let x = sites p.site p.count q.site q.count a.count.0 a.count.1 b.count.0 b.count.1 e in
    let y = counts p.site p.count q.site q.count a.count.0 b.count.0 x e in
    (λ i. record { site = x i; count = y i }))
  where
    below : (s n : ℕ) → s < 64 → 1 ≤ n → n ≤ 1099511627776 → s * 1099511627776 + (n - 1) < 70368744177664
    below s n a b c = omega (arith, a, b, c)

    sites : (s n t m : ℕ) → 1 ≤ n → n ≤ 1099511627776 → 1 ≤ m → m ≤ 1099511627776 → s * 1099511627776 + (n - 1) ≡ t * 1099511627776 + (m - 1) → s ≡ t
    sites s n t m a b c d e = grind (arith, a, b, c, d, e)

    counts : (s n t m : ℕ) → 1 ≤ n → 1 ≤ m → s ≡ t → s * 1099511627776 + (n - 1) ≡ t * 1099511627776 + (m - 1) → n ≡ m
    counts s n t m a b same e = omega (arith, a, b, same, e)
