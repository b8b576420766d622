-- The laws of the order of ids.
use Rattle.std.proofs.Common.{ℕ, ap}
use Rattle.std.specs.FinSet as sets
use Rattle.std.specs.Cmp.{IsTotalOrder, nat_cmp_total}
use Rattle.std.specs.Ordering.{nat_cmp}
use Rattle.std.proofs.lemmas.Cmp.{on_total, then_total}
use Rattle.std.proofs.lemmas.Map.Lookups.{exact_pairs, exact_unsigned}
use Rattle.op_arena.specs.Ids.{Id, id_cmp, id_of}

-- the order of ids is total
pub ids_total : IsTotalOrder id_cmp
ids_total = then_total (on_total (λ (i : Id). i.index) nat_cmp_total) (on_total (λ (i : Id). i.generation) nat_cmp_total)

-- ids that compare as equal are one id
pub ids_exact : sets.IsAntisymmetric id_cmp
ids_exact a b h =
    ap (λ (p : ℕ × ℕ). id_of p.0 p.1)
    (exact_pairs nat_cmp nat_cmp exact_unsigned exact_unsigned (a.index, a.generation) (b.index, b.generation) h)
