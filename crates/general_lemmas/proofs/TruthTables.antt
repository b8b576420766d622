-- Facts on tests, each of which is seen case by case.
use Rattle.std.proofs.Common.{◌≡◌, Bool, true, false, ◌&&◌, ◌||◌, refl, sym, subst}
use lib.Dec.{T}
use Rattle.std.specs.declared.cmp.Ordering.{Ordering}
use Rattle.std.specs.declared.cmp.Ordering.TheVariants.{Less, Equal, Greater}
use Rattle.std.specs.Ordering.{is_eq, is_lt}

-- a test that passes, as a type and as an equation
pub truth : (b : Bool) → b ≡ true → T b
truth b h = subst T (sym h) tt

pub fact : (b : Bool) → T b → b ≡ true
fact true h = refl
fact false h = absurd h

-- the first two of three tests the other way round
pub or_swap : (a b c : Bool) → (a || (b || c)) ≡ (b || (a || c))
or_swap true true c = refl
or_swap true false c = refl
or_swap false b c = refl

-- of a test and another, or a third: where the other passes and the third doesn't, and where the other doesn't
pub first_alone : (a : Bool) → ((a && true) || false) ≡ a
first_alone true = refl
first_alone false = refl

pub third_alone : (a c : Bool) → ((a && false) || c) ≡ c
third_alone true c = refl
third_alone false c = refl

-- the result of the test of an order
pub less_of : (o : Ordering) → is_lt o ≡ true → o ≡ Less
less_of Less h = refl
less_of Equal h = (cc)
less_of Greater h = (cc)

pub equal_of : (o : Ordering) → is_eq o ≡ true → o ≡ Equal
equal_of Less h = (cc)
equal_of Equal h = refl
equal_of Greater h = (cc)
