use Rattle.std.proofs.Common.{length, refl, subst, ◌∙◌, ap}
use Rattle.replica.specs.Taking.{SpeaksOfStrangeQueue}
use Rattle.replica.proofs.Hearing.{failed}
use Rattle.replica.proofs.foreign.hear.Goals as goal

pub returns-then-is_not_mine-clause-not_mine : goal.returns-then-is_not_mine-clause-not_mine
returns-then-is_not_mine-clause-not_mine c =
    let none = failed c.speaks_of_strange_queue.result c.speaks_of_strange_queue.ensures c.if-speaks_of_strange_queue.false in (
      λ e. (subst (λ n. SpeaksOfStrangeQueue n c.args.delta.now → ⊥) (c.len.ensures.value ∙ ap length c.list.ensures.value) none, c.is_not_mine.ensures.0 c.if-is_not_mine.true),
      λ w. refl,
    )
