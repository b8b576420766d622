-- What the comparison of two dots says.
use Rattle.std.proofs.Common.{◌≡◌, ◌≢◌, Bool, true, false, not, ◌&&◌, refl, sym, ap, ◌∙◌}
use Rattle.std.specs.Prelude.{nat_eq}
use Rattle.std.specs.Ordering.{is_lt, eq_by_cmp}
use Rattle.std.specs.declared.cmp.Ordering.TheVariants.{Greater}
use Rattle.dots.specs.Values.{Dot}
use Rattle.dots.specs.Orders.{dot_cmp}
use Rattle.dots.proofs.DotOrder.{dots_total, dots_exact, same_dot}
use Rattle.live_cells.proofs.Rising as rising

-- a dot that lies before another: the other lies after it
pub turned : (a b : Dot) → is_lt (dot_cmp a b) ≡ true → dot_cmp b a ≡ Greater
turned = rising.turned dot_cmp dots_total dots_exact

-- two dots of which one precedes the other differ
pub apart : (a b : Dot) → is_lt (dot_cmp a b) ≡ true → eq_by_cmp dot_cmp b a ≡ false
apart = rising.apart dot_cmp dots_total dots_exact

pub apart_after : (a b : Dot) → is_lt (dot_cmp a b) ≡ true → eq_by_cmp dot_cmp a b ≡ false
apart_after = rising.apart_after dot_cmp dots_total dots_exact

pub before_trans : (a b c : Dot) → is_lt (dot_cmp a b) ≡ true → is_lt (dot_cmp b c) ≡ true → is_lt (dot_cmp a c) ≡ true
before_trans = rising.before_trans dot_cmp dots_total dots_exact

-- a dot is itself
pub same_itself : (a : Dot) → eq_by_cmp dot_cmp a a ≡ true
same_itself = rising.same_itself dot_cmp dots_total dots_exact

pub same_tied : (a b : Dot) → a ≡ b → eq_by_cmp dot_cmp a b ≡ true
same_tied = rising.same_tied dot_cmp dots_total dots_exact

pub one_dot : (a b : Dot) → eq_by_cmp dot_cmp a b ≡ true → a ≡ b
one_dot = rising.one_key dot_cmp dots_total dots_exact

-- one that is another and doesn't lie before it lies after it
pub after : (a b : Dot) → a ≢ b → is_lt (dot_cmp a b) ≡ false → is_lt (dot_cmp b a) ≡ true
after = rising.after dot_cmp dots_total dots_exact

-- the result of the program's test of two dots
pub tested_other : (a d : Dot) (b : Bool) → b ≡ not (nat_eq a.site d.site && nat_eq a.count d.count) → b ≡ true → d ≢ a
tested_other a d b e h same = split (eq_by_cmp dot_cmp d a) (same_tied d a same) (sym h ∙ e ∙ ap not (sym (same_dot d a)))
  where
    split : (p : Bool) → p ≡ true → true ≡ not p → ⊥
    split true k m = (cc)
    split false k m = (cc)

pub tested_same : (a d : Dot) (b : Bool) → b ≡ not (nat_eq a.site d.site && nat_eq a.count d.count) → b ≡ false → d ≡ a
tested_same a d b e h = one_dot d a (split (eq_by_cmp dot_cmp d a) (sym h ∙ e ∙ ap not (sym (same_dot d a))))
  where
    split : (p : Bool) → false ≡ not p → p ≡ true
    split true m = refl
    split false m = absurd (cc)
