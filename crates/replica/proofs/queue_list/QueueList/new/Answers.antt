use Rattle.std.proofs.Common.{◌≡◌, nat_eq, ◌∙◌, ap, subst, sym}
use Rattle.std.specs.List.{All, list_any}
use Rattle.std.specs.Cmp.Lexicographic.{pointwise}
use Rattle.indexmap.specs.IndexSet.{insert_key}
use Rattle.dots.specs.Values.{IsName}
use Rattle.replica.proofs.NameLemmas.{all_held, all_names_with, queues_held, comes_twice, holds_one_more}
use Rattle.std.proofs.lemmas.Bool.{not-false, not-true}
use Rattle.replica.proofs.queue_list.QueueList.new.Goals as goal

pub returns-in-Ok-false-clause-twice : goal.returns-in-Ok-false-clause-twice
returns-in-Ok-false-clause-twice c = λ h. (
  c.if-names-gt-QUEUES.false,
  comes_twice c.loop-name.held.keys c.args.names.now c.loop-name.name-index c.name-item.result
      c.loop-name.invariant.0 c.loop-name-test.true c.name-item.is
      (rw (← c.copy.ensures.value) (not-false _ (sym c.in-Ok-false.ensures.added ∙ c.in-Ok-false.field-0-test))),
)

pub invariant_of-result : goal.invariant_of-result
invariant_of-result c = rw (all_held c.loop-name.held.keys c.args.names.now c.loop-name.name-index c.loop-name.invariant.0 c.loop-name-test.false)
    (queues_held c.loop-name.held.keys c.args.names.now c.loop-name.name-index c.loop-name.invariant.0 c.loop-name.invariant.1 c.loop-name-test.false c.if-is_empty.ensures c.if-names-gt-QUEUES.false)

pub returns-clause-within : goal.returns-clause-within
returns-clause-within c = queues_held c.loop-name.held.keys c.args.names.now c.loop-name.name-index c.loop-name.invariant.0 c.loop-name.invariant.1 c.loop-name-test.false c.if-is_empty.ensures c.if-names-gt-QUEUES.false

pub loop-name-preserved : goal.loop-name-preserved
loop-name-preserved c =
    let held = c.loop-name.held.keys in
    let after = subst (λ n. c.insert.new.self.keys ≡ insert_key (pointwise nat_eq) held n) c.copy.ensures.value c.in-Ok-true.ensures.keys in
    let new = ap (λ n. list_any (pointwise nat_eq n) held) (sym c.copy.ensures.value) ∙ not-true _ (sym c.in-Ok-true.ensures.added ∙ c.in-Ok-true.field-0-test) in (
      holds_one_more held c.args.names.now c.insert.new.self.keys c.loop-name.name-index c.name-item.result c.loop-name.invariant.0 c.loop-name-test.true c.name-item.is after new c.insert.ensures.unique,
      subst (All IsName) (sym c.in-Ok-true.ensures.keys) (all_names_with held c.copy.result c.loop-name.invariant.1 c.copy.ensures.limit),
    )
