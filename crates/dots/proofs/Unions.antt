-- The laws of union, at dots.
use Rattle.std.proofs.Common.{◌≡◌, ◌||◌, sym, ap, ◌∙◌}
use Rattle.std.specs.FinSet as sets
use Rattle.std.proofs.Math.Bool.{or-false, or_assoc, or_comm, or_self}
use Rattle.dots.specs.Orders.{dot_cmp}
use Rattle.dots.proofs.DotOrder.{dots_total, dots_exact}

abbrev Dots : Type 0
Dots = sets.FinSet dot_cmp

pub union_comm : (a b : Dots) → sets.union a b ≡ sets.union b a
union_comm a b = sets.same_set dots_total dots_exact _ _ (λ q.
    sets.contains-union dots_total a b q ∙ or_comm (sets.contains a q) (sets.contains b q) ∙ sym (sets.contains-union dots_total b a q))

pub union_assoc : (a b c : Dots) → sets.union (sets.union a b) c ≡ sets.union a (sets.union b c)
union_assoc a b c = sets.same_set dots_total dots_exact _ _ (λ q.
    sets.contains-union dots_total (sets.union a b) c q ∙ ap (λ x. x || sets.contains c q) (sets.contains-union dots_total a b q) ∙ or_assoc (sets.contains a q) (sets.contains b q) (sets.contains c q)
    ∙ sym (sets.contains-union dots_total a (sets.union b c) q ∙ ap (λ x. sets.contains a q || x) (sets.contains-union dots_total b c q)))

pub union_same : (a : Dots) → sets.union a a ≡ a
union_same a = sets.same_set dots_total dots_exact _ _ (λ q. sets.contains-union dots_total a a q ∙ or_self (sets.contains a q))

pub union_empty : (a : Dots) → sets.union a sets.empty ≡ a
union_empty a = sets.same_set dots_total dots_exact _ _ (λ q.
    sets.contains-union dots_total a sets.empty q ∙ ap (λ x. sets.contains a q || x) (sets.contains-empty dot_cmp q) ∙ or-false (sets.contains a q))
