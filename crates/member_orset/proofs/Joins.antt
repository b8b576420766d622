-- The join of what is live on two sides, dot by dot.
use Rattle.std.proofs.Common.{◌≡◌, Bool, true, false, ◌&&◌, ◌||◌, Option, Some, None, is_some, refl, subst}
use Rattle.std.proofs.lemmas.Option.{same_Some}
use Rattle.operations.specs.Conditions.{condition_joined, fields_joined}
use Rattle.member_orset.specs.Members.{condition_at, is_live}
use Rattle.member_orset.specs.Joining.{holding_joined}
use Rattle.live_cells.specs.Holdings.{Holding}

-- conditions by what is live, joined
pub conditions_at : (o p : Option Holding) (a b : Bool) → condition_at (holding_joined o a p b) (a || b) ≡ condition_joined (condition_at o a) (condition_at p b)
conditions_at (Some h) (Some g) a b = refl
conditions_at (Some h) None true true = refl
conditions_at (Some h) None false true = refl
conditions_at (Some h) None a false = refl
conditions_at None p true b = refl
conditions_at None (Some g) false b = refl
conditions_at None None false b = refl

-- whether a dot stays live
pub stays_live : (o p : Option Holding) (a b : Bool) → ((h : Holding) → o ≡ Some h → a ≡ true) → ((g : Holding) → p ≡ Some g → b ≡ true)
    → ((a || b) && is_live (condition_joined (condition_at o a) (condition_at p b))) ≡ is_some (holding_joined o a p b)
stays_live (Some h) (Some g) true b f k = refl
stays_live (Some h) None true true f k = refl
stays_live (Some h) None true false f k = refl
stays_live (Some h) p false b f k = absurd (let e = f h refl in cc)
stays_live None p true b f k = refl
stays_live None (Some g) false true f k = refl
stays_live None (Some g) false false f k = absurd (let e = k g refl in cc)
stays_live None None false true f k = refl
stays_live None None false false f k = refl

-- what stays live was so on one side or is joined of both
pub of_either : (P : Holding → Type 0) (o p : Option Holding) (a b : Bool) (h : Holding) → holding_joined o a p b ≡ Some h
    → ((x : Holding) → o ≡ Some x → P x) → ((y : Holding) → p ≡ Some y → P y) → ((x y : Holding) → o ≡ Some x → P (x.0, fields_joined x.1 y.1)) → P h
of_either P (Some x) (Some y) a b h e f g k = subst P (same_Some _ h e) (k x y refl)
of_either P (Some x) None a true h e f g k = absurd (cc)
of_either P (Some x) None a false h e f g k = f h e
of_either P None p true b h e f g k = absurd (cc)
of_either P None p false b h e f g k = g h e
