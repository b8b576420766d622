use Rattle.std.proofs.Common.{not, ◌&&◌, ◌||◌, sym, ap, ◌∙◌}
use Rattle.std.specs.List.{list_any}
use Rattle.dots.specs.DotSets.{run_count}
use Rattle.operations.specs.Knowledge.{is_dot}
use Rattle.reference_model.proofs.RunSteps.{len_missing, set_is}
use Rattle.reference_model.proofs.dot_sets.dots_and_runs.Goals as goal

pub returns-clause-dots : goal.returns-clause-dots
returns-clause-dots c = λ s same.
    c.count_missing-visible.ensures.value
    ∙ len_missing s c.in_ok-known.known.keys c.in_ok-dead.dead.keys c.count_missing-visible.ensures.ordered (λ q.
    same q ∙ (λ i. sym (c.in_ok-known.ensures q) i && not (sym (c.in_ok-dead.ensures q) i)))

pub returns-clause-runs : goal.returns-clause-runs
returns-clause-runs c = λ s same.
    c.count_ends.ensures
    ∙ ap run_count (sym (set_is s c.deref-2.result.now (λ q.
    same q
    ∙ (λ i. sym (c.in_ok-known.ensures q) i || sym (ap (list_any (is_dot q)) (c.deref.ensures.value ∙ c.in_ok-dead-2.ensures.value) ∙ c.in_ok-dead.ensures q) i)
    ∙ sym (c.in_ok-insert_plain.ensures q)
    ∙ ap (list_any (is_dot q)) (sym (c.deref-2.ensures.value ∙ c.in_ok-known-2.ensures.value)))))
