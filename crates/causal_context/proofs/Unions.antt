-- The laws of subsets, at dots.
use Rattle.std.proofs.Common.{◌≡◌, Bool, true, false, ◌||◌, refl, sym, ap, ◌∙◌}
use Rattle.std.specs.FinSet as sets
use Rattle.dots.specs.Values.{Dot}
use Rattle.dots.specs.Orders.{dot_cmp}
use Rattle.dots.proofs.DotOrder.{dots_total, dots_exact}
use Rattle.general_lemmas.proofs.Membership.{same_tests}

abbrev Dots : Type 0
Dots = sets.FinSet dot_cmp

pub subset_members : (a b : Dots) → (sets.is_subset a b ≡ true → (d : Dot) → sets.contains a d ≡ true → sets.contains b d ≡ true) × (((d : Dot) → sets.contains a d ≡ true → sets.contains b d ≡ true) → sets.is_subset a b ≡ true)
subset_members a b = (sets.is_subset-contains dots_total a b, sets.contains-is_subset dots_total a b)

pub subset_antisymm : (a b : Dots) → sets.is_subset a b ≡ true → sets.is_subset b a ≡ true → a ≡ b
subset_antisymm a b h k = sets.same_set dots_total dots_exact _ _ (λ q. same_tests _ _ (sets.is_subset-contains dots_total a b h q) (sets.is_subset-contains dots_total b a k q))

pub subset_trans : (a b c : Dots) → sets.is_subset a b ≡ true → sets.is_subset b c ≡ true → sets.is_subset a c ≡ true
subset_trans a b c h k = sets.contains-is_subset dots_total a c (λ q i. sets.is_subset-contains dots_total b c k q (sets.is_subset-contains dots_total a b h q i))

pub subset_refl : (a : Dots) → sets.is_subset a a ≡ true
subset_refl a = sets.contains-is_subset dots_total a a (λ q i. i)

pub subset_union : (a b : Dots) → sets.is_subset a b ≡ true → sets.union a b ≡ b
subset_union a b h = sets.same_set dots_total dots_exact _ _ (λ q. sets.contains-union dots_total a b q ∙ absorbs _ _ (sets.is_subset-contains dots_total a b h q))
  where
    absorbs : (p q : Bool) → (p ≡ true → q ≡ true) → (p || q) ≡ q
    absorbs true q f = sym (f refl)
    absorbs false q f = refl

pub union_subset : (a b : Dots) → sets.union a b ≡ b → sets.is_subset a b ≡ true
union_subset a b e = sets.contains-is_subset dots_total a b (λ q i. sym (ap (λ s. sets.contains s q) e) ∙ sets.contains-union dots_total a b q ∙ ap (λ x. x || sets.contains b q) i)
