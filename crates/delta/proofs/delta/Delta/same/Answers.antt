use Rattle.std.proofs.Common.{◌≡◌, sym, subst}
use Rattle.delta.specs.DeltaStates.{DeltaState, IsSame}
use Rattle.delta.proofs.Sameness.{same_conditions, says_the_same}
use Rattle.delta.proofs.delta.Delta.same.Goals as goal

moved : (d e x y : DeltaState) → d ≡ x → e ≡ y → IsSame d e → IsSame x y
moved d e x y p q h = subst (λ z. IsSame z y) p (subst (IsSame d) q h)

pub returns-then-same : goal.returns-then-same
returns-then-same c =
    let ours = c.self.inside.members in
    let theirs = c.other.inside.members in
    let members = c.same.ensures.0 c.if-same.true in (
      λ h. moved _ _ c.args.self.now c.args.other.now c.self.view_is c.other.view_is (record {
        conditions = same_conditions ours theirs members;
        known = sym members.known;
        totals = c.same-then-same.ensures.0 h;
      }),
      λ same. c.same-then-same.ensures.1 (moved _ _ _ _ (sym c.self.view_is) (sym c.other.view_is) same).totals,
    )

pub returns-else-same : goal.returns-else-same
returns-else-same c =
    let ours = c.self.inside.members in
    let theirs = c.other.inside.members in (
      λ h. absurd (cc (c.if-same.false, h)),
      λ same. let is = moved _ _ (record { members = ours; totals = c.self.inside.totals }) (record { members = theirs; totals = c.other.inside.totals }) (sym c.self.view_is) (sym c.other.view_is) same in
          c.same.ensures.1 (says_the_same ours theirs is.conditions is.known),
    )
