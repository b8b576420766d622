use Rattle.std.proofs.Common.{◌≡◌, true, sym, ap, ◌∙◌}
use Rattle.std.specs.FinSet as set
use Rattle.dots.specs.Orders.{dot_cmp}
use Rattle.dots.proofs.DotOrder.{dots_exact, dots_total}
use Rattle.general_lemmas.proofs.Membership.{same_tests}
use Rattle.member_orset.proofs.sameness.is_same_context.Goals as goal

one_way : (a b : set.FinSet dot_cmp) → a ≡ b → set.is_subset a b ≡ true
one_way a b e = set.contains-is_subset dots_total a b (λ q h. ap (λ s. set.contains s q) (sym e) ∙ h)

pub returns-then-covers : goal.returns-then-covers
returns-then-covers c =
    let known = c.args.context.now.dots in
    let heard = c.args.other.now.dots in (
      λ h. set.same_set dots_total dots_exact heard known (λ q. same_tests (set.contains heard q) (set.contains known q)
          (set.is_subset-contains dots_total heard known (sym c.covers.ensures ∙ c.if-covers.true) q)
          (set.is_subset-contains dots_total known heard (sym c.covers-then-covers.ensures ∙ h) q)),
      λ e. c.covers-then-covers.ensures ∙ one_way known heard (sym e),
    )

pub returns-else-covers : goal.returns-else-covers
returns-else-covers c =
    let known = c.args.context.now.dots in
    let heard = c.args.other.now.dots in (
      λ h. absurd (cc (c.if-covers.false, h)),
      λ e. c.covers.ensures ∙ one_way heard known e,
    )
