-- The laws of the orders of texts and of members.
use Rattle.std.proofs.Common.{ℕ, ◌≡◌, List, ap}
use Rattle.std.specs.FinMap as map
use Rattle.std.specs.Ordering.{nat_cmp}
use Rattle.std.specs.Cmp.{IsTotalOrder}
use Rattle.std.specs.declared.cmp.Ordering.TheVariants.{Equal}
use Rattle.std.proofs.lemmas.Cmp.{nat_cmp_total, on_total, then_total, nat_list_cmp_total}
use Rattle.std.proofs.lemmas.Map.Lookups.{exact_pairs, exact_unsigned}
use Rattle.dots.specs.declared.member.Member.{Member}
use Rattle.dots.specs.Orders.{member_cmp, text_cmp}

-- texts that compare as equal are one
pub exact_texts : (a b : List ℕ) → text_cmp a b ≡ Equal → a ≡ b
exact_texts = map.slice_cmp-IsAntisymmetric map.nat_cmp-IsAntisymmetric

-- members are in a total order
pub members_total : IsTotalOrder member_cmp
members_total = then_total (on_total (λ (m : Member). m.queue) nat_cmp_total) (on_total (λ (m : Member). m.interface) nat_list_cmp_total)

-- members that compare as equal are one
pub exact_members : (a b : Member) → member_cmp a b ≡ Equal → a ≡ b
exact_members a b h =
    ap (λ (p : ℕ × List ℕ). let m : Member = record { queue = p.0; interface = p.1 } in m)
    (exact_pairs nat_cmp text_cmp exact_unsigned exact_texts (a.queue, a.interface) (b.queue, b.interface) h)
