-- Which dots are known, and which of them are dead.
use Rattle.std.proofs.Common.{◌≡◌, Bool, true, false, not, ◌&&◌, ◌||◌, [], ◌∷◌, refl, ap, ◌∙◌}
use Rattle.std.specs.FinSet as set
use Rattle.dots.specs.Values.{Dot}
use Rattle.operations.specs.Operations.{named_by}
use Rattle.operations.specs.Knowledge.{Knowledge, names, is_asserted, is_named, asserted_dots, named_dots, visible_dots, known_dots}
use Rattle.dots.proofs.DotOrder.{dots_total}
use Rattle.operations.proofs.VisibleLaws.{asserted_dot, visible_dot}

pub named_dot : (k : Knowledge) (dot : Dot) → set.contains (named_dots k) dot ≡ is_named k dot
unfolding named_dots
named_dot [] dot = set.contains-empty _ dot
named_dot (o ∷ k) dot = set.contains-union dots_total (named_by o) (named_dots k) dot ∙ ap (λ b. names dot o || b) (named_dot k dot)

pub known_dot : (k : Knowledge) (dot : Dot) → set.contains (known_dots k) dot ≡ (is_asserted k dot || is_named k dot)
unfolding known_dots
known_dot k dot = set.contains-union dots_total (asserted_dots k) (named_dots k) dot ∙ (λ i. asserted_dot k dot i || named_dot k dot i)

dead_bools : (a n : Bool) → ((a || n) && not (a && not n)) ≡ n
dead_bools true true = refl
dead_bools true false = refl
dead_bools false true = refl
dead_bools false false = refl

-- a known dot that isn't visible is one that some operation has named
pub dead_dot : (k : Knowledge) (dot : Dot) → (set.contains (known_dots k) dot && not (set.contains (visible_dots k) dot)) ≡ is_named k dot
dead_dot k dot = (λ i. known_dot k dot i && not (visible_dot k dot i)) ∙ dead_bools (is_asserted k dot) (is_named k dot)
