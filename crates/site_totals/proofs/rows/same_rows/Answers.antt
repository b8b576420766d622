use Rattle.std.proofs.Common.{◌≡◌, Bool, true, eqb, ◌&&◌, subst, arith}
use Rattle.std.proofs.lemmas.Bool.Decides.{nat_tests}
use Rattle.std.proofs.lemmas.Slice.Eq.{slice_eq-Decides}
use Rattle.site_totals.specs.TotalLists.{Row}
use Rattle.site_totals.proofs.rows.same_rows.Goals as goal

-- whether four numbers are the same
same_numbers : Row → Row → Bool
same_numbers a b = (eqb a.0.site b.0.site && eqb a.0.queue b.0.queue) && (eqb a.1.completed b.1.completed && eqb a.1.abandoned b.1.abandoned)

numbers_are : (a b : Row) → same_numbers a b ≡ true → a ≡ b
unfolding same_numbers
numbers_are a b h =
    let site : a.0.site ≡ b.0.site = grind (arith, nat_tests) in
    let queue : a.0.queue ≡ b.0.queue = grind (arith, nat_tests) in
    let completed : a.1.completed ≡ b.1.completed = grind (arith, nat_tests) in
    let abandoned : a.1.abandoned ≡ b.1.abandoned = grind (arith, nat_tests) in
    λ i. (record { site = site i; queue = queue i }, record { completed = completed i; abandoned = abandoned i })

same_self : (a : Row) → same_numbers a a ≡ true
unfolding same_numbers
same_self a = grind (arith, nat_tests)

-- entries are one where their numbers are
pub returns : goal.returns
unfolding same_numbers
returns c = slice_eq-Decides (λ (a : Row) (b : Row). (numbers_are a b, λ e. subst (λ (r : Row). same_numbers a r ≡ true) e (same_self a))) _ _ _ c.eq.ensures
