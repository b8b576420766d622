-- The laws of the order of dots.
use Rattle.std.proofs.Common.{ℕ, ◌≡◌, sym, ap, ◌∙◌, ◌&&◌}
use Rattle.std.specs.Prelude.{nat_eq}
use Rattle.std.specs.FinSet as set
use Rattle.std.specs.Ordering.{eq_by_cmp, is_eq, nat_cmp}
use Rattle.std.specs.Cmp.{IsTotalOrder, nat_cmp_total, tied_then, unsigned_tied, nat_eq_equiv}
use Rattle.std.proofs.lemmas.Cmp.{on_total, then_total}
use Rattle.std.proofs.lemmas.Map.Lookups.{exact_pairs, exact_unsigned}
use Rattle.dots.specs.Values.{Dot}
use Rattle.dots.specs.Orders.{dot_cmp}

-- the order of dots is total
pub dots_total : IsTotalOrder dot_cmp
dots_total = then_total (on_total (λ (d : Dot). d.site) nat_cmp_total) (on_total (λ (d : Dot). d.count) nat_cmp_total)

-- dots that compare as equal are one dot
pub dots_exact : set.IsAntisymmetric dot_cmp
dots_exact a b h =
    ap (λ (p : ℕ × ℕ). let d : Dot = record { site = p.0; count = p.1 } in d)
    (exact_pairs nat_cmp nat_cmp exact_unsigned exact_unsigned (a.site, a.count) (b.site, b.count) h)

tie : (m n : ℕ) → is_eq (nat_cmp m n) ≡ nat_eq n m
tie m n = unsigned_tied m n ∙ nat_eq_equiv.symm m n

-- whether two dots are one is a test of their numbers
pub same_dot : (q d : Dot) → eq_by_cmp dot_cmp q d ≡ (nat_eq d.site q.site && nat_eq d.count q.count)
same_dot q d =
    sym (tied_then (nat_cmp q.site d.site) (nat_cmp q.count d.count)) ∙ (λ i. tie q.site d.site i && tie q.count d.count i)
