use Rattle.std.proofs.Common.{◌≡◌, true≢false, refl, ap, sym, ◌∙◌, subst}
use Rattle.site_journal.specs.Journals.{IsFull}
use Rattle.delta_codec.specs.Frames.{Spells}
use Rattle.replica.proofs.SameSites.{unchanged_site}
use Rattle.replica.specs.Taking.{IsRefusedTake}
use Rattle.site_journal.specs.declared.step.StepDeed.TheVariants.{Took}
use Rattle.site_journal.proofs.Leading.{does, lead_same, one_more, unmoved}
use Rattle.site_journal.proofs.journaled.Journaled.take_decoded.Goals as goal

pub returns-then-is_err-clause-unchanged : goal.returns-then-is_err-clause-unchanged
returns-then-is_err-clause-unchanged c = rw (← c.self.view_is, c.reserve_one.ensures.items) (unmoved _)

-- nothing but room has changed
pub invariant_of-self-in-Err : goal.invariant_of-self-in-Err
invariant_of-self-in-Err c =
    let i = c.self.invariant in
    rw c.reserve_one.ensures.items (record { legal = lead_same _ _ _ _ i.legal (unchanged_site _ _ c.in-Err.ensures.unchanged); counted = i.counted; within = i.within; most = i.most; some = i.some; few = i.few })

-- the site refuses the frame for the cause that the fault names
pub returns-in-Err-clause-refused : goal.returns-in-Err-clause-refused
returns-in-Err-clause-refused c = λ fault reported. record {
  frame = c.decoded.inside.frame;
  spelled = subst (Spells c.decoded.inside.frame) c.decoded.view_is c.decoded.invariant.0;
  refused = subst (λ x. IsRefusedTake c.args.self.now.replica c.decoded.inside.frame.delta (λ cause. x ≡ cause)) (c.take_fault.ensures.take fault reported)
      (subst (λ r. IsRefusedTake r c.decoded.inside.frame.delta (λ cause. c.in-Err.fault ≡ cause)) (ap (λ j. j.replica) c.self.view_is) c.in-Err.ensures.refusals);
}

pub returns-in-Err-clause-unchanged : goal.returns-in-Err-clause-unchanged
returns-in-Err-clause-unchanged c =
    rw (← c.self.view_is, c.reserve_one.ensures.items) (record { base = refl; steps = refl; start = refl; count = refl; limit = refl; replica = c.in-Err.ensures.unchanged })

-- one step more
pub invariant_of-self-2 : goal.invariant_of-self-2
invariant_of-self-2 c =
    let l = does c.self.inside.replica c.take.new.self (Took c.decoded.inside.bytes) (record {
      frame = c.decoded.inside.frame;
      spelled = c.decoded.invariant.0;
      done = record { may = c.in_default.ensures.may; taken = c.in_default.ensures.joined };
    }) in
    rw (c.push_reserved.ensures.items, c.reserve_one.ensures.items) (one_more _ _ _ c.self.invariant l (λ p. true≢false (sym (c.is_full.ensures.1 (subst IsFull c.self.view_is p)) ∙ c.if-is_full.false)))

pub returns-clause-added : goal.returns-clause-added
returns-clause-added c =
    let l = does c.self.inside.replica c.take.new.self (Took c.decoded.inside.bytes) (record {
      frame = c.decoded.inside.frame;
      spelled = c.decoded.invariant.0;
      done = record { may = c.in_default.ensures.may; taken = c.in_default.ensures.joined };
    }) in
    rw (← c.self.view_is, c.push_reserved.ensures.items, c.reserve_one.ensures.items, c.decoded.invariant.1) (record { base = refl; steps = refl; start = refl; count = refl; limit = refl; done = l })
