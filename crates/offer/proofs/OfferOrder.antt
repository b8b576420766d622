-- Offers are in a total order, and so of some there is one first.
use Rattle.std.proofs.Common.{◌≡◌, ℕ, false, List, [], ◌∷◌, get_or, refl, sym, ◌∙◌, ap, true≢false}
use Rattle.std.specs.Cmp.{IsTotalOrder, IsStrictWeakOrder}
use Rattle.std.specs.Ordering.{is_lt, nat_cmp, ordering_reverse}
use Rattle.std.specs.declared.cmp.Ordering.{Ordering}
use Rattle.std.specs.declared.cmp.Ordering.TheVariants.{Less, Equal, Greater}
use Rattle.std.proofs.lemmas.Cmp.{nat_cmp_total, nat_list_cmp_total, on_total, then_total}
use Rattle.std.proofs.lemmas.List.{get_or_default}
use Rattle.std.proofs.lemmas.List.MinMax.{IsFirstBest-from_best_of, ranks_by}
use Rattle.std.proofs.lemmas.Map.Lookups.{exact_pairs, exact_unsigned}
use Rattle.dots.specs.Orders.{text_cmp}
use Rattle.dots.proofs.MemberOrder.{exact_texts}
use Rattle.offer.specs.declared.offered.Offer.{Offer}
use Rattle.offer.specs.Offers.{HaveOneFirst, IsFirstOf, comes_before, first_of, offer_cmp}

offers_total : IsTotalOrder offer_cmp
offers_total = then_total (on_total (λ (o : Offer). o.penalty) nat_cmp_total) (on_total (λ (o : Offer). o.interface) nat_list_cmp_total)

-- offers that compare as equal are one
exact_offers : (a b : Offer) → offer_cmp a b ≡ Equal → a ≡ b
exact_offers a b h =
    ap (λ (p : ℕ × List ℕ). let o : Offer = record { interface = p.1; penalty = p.0 } in o)
    (exact_pairs nat_cmp text_cmp exact_unsigned exact_texts (a.penalty, a.interface) (b.penalty, b.interface) h)

-- offers are ranked
ranked : IsStrictWeakOrder comes_before
ranked = ranks_by offers_total (λ (o : Offer). o)

-- the first of offers is the first
pub is_first : (offers : List Offer) → IsFirstOf offers (first_of offers)
is_first [] = refl
is_first (offer ∷ offers) =
    let best = IsFirstBest-from_best_of ranked offer offers in
    let same = best.2 in
    record {
      there = (best.0, best.1.0, get_or_default (offer ∷ offers) best.0 _ offer best.1.0 ∙ same);
      first = λ other is.
          (λ i. comes_before (sym is.2 i) (sym same i)) ∙ ap (comes_before (get_or (offer ∷ offers) is.0 other)) (get_or_default (offer ∷ offers) best.0 offer other best.1.0) ∙ best.1.1 is.0 other is.1;
    }

-- two orderings that are each other's reverse, and neither Less, are Equal
tied : (r s : Ordering) → r ≡ ordering_reverse s → is_lt r ≡ false → is_lt s ≡ false → r ≡ Equal
tied Less s e f g = absurd (true≢false f)
tied Equal s e f g = refl
tied Greater Less e f g = absurd (true≢false g)
tied Greater Equal e f g = e
tied Greater Greater e f g = absurd (true≢false (ap is_lt (sym e)))

-- of offers one is the first, and no other is
pub one_first : (offers : List Offer) → HaveOneFirst offers
one_first offers one other a b =
    exact_offers one other (tied (offer_cmp one other) (offer_cmp other one) (offers_total.antisymm one other) (b.first one a.there) (a.first other b.there))
