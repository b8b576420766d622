use Rattle.std.proofs.Common.{rules, arith, map, subst}
use Rattle.std.proofs.lemmas.List.{length-map}
use Rattle.site_journal.specs.Settling.{AreSettled, IsFirstThatDiffers, IsLeastPass}
use Rattle.site_journal.proofs.SettledLists.{all_settled, first_missing}
use Rattle.site_journal.proofs.settling.settle.Goals as goal

pub returns-in-Some-clause-fault : goal.returns-in-Some-clause-fault
returns-in-Some-clause-fault c = let lists = map (λ list. list.items) c.args.lists.now in (
  search rules,
  subst (λ steps. IsFirstThatDiffers steps lists c.in-Some.pass) c.steps-steps.ensures
      (first_missing c.steps-steps.result.now lists c.loop-list.pass c.in-Some.pass
      (omega (arith, length-map c.args.lists.now (λ list. list.items), c.loop-list.invariant.counted, c.loop-list.auto.list-index-end, c.loop-list-test.false))
      c.loop-list.invariant.right (subst (λ found. IsLeastPass c.loop-list.pass c.steps-steps.result.now found) c.in-Some.is c.least_pass.ensures)),
)

pub returns-in-None-clause-settled : goal.returns-in-None-clause-settled
returns-in-None-clause-settled c = let lists = map (λ list. list.items) c.args.lists.now in (
  search rules,
  subst (λ steps. AreSettled steps lists) c.steps-steps.ensures
      (all_settled c.steps-steps.result.now lists c.loop-list.pass
      (omega (arith, length-map c.args.lists.now (λ list. list.items), c.loop-list.invariant.counted, c.loop-list.auto.list-index-end, c.loop-list-test.false))
      c.loop-list.invariant.right (subst (λ found. IsLeastPass c.loop-list.pass c.steps-steps.result.now found) c.in-None.is c.least_pass.ensures)),
)
