use Rattle.std.proofs.Common.{slice_get, map as each, ap, sym, ◌∙◌}
use Rattle.operations.specs.Views.{listed_row_view}
use Rattle.status_report.proofs.BlockLemmas.{whole_queue}
use Rattle.status_report.proofs.status.push_queue.Goals as goal

-- the queue's own block, and then its members'
pub returns-clause-text : goal.returns-clause-text
returns-clause-text g c =
    whole_queue c.args.request.now (g.Q.Queues.totals c.args.queues.now) (g.Q.Queues.rows c.args.queues.now) c.args.number _ c.in-Some.name.now _ (each listed_row_view c.deref.result.now) _ _ _
    (sym (c.in-Some.ensures.value ∙ ap (λ names. slice_get names c.args.number) c.list.ensures))
    (sym c.is_queue_wanted.ensures ∙ c.if-not-is_queue_wanted.false)
    c.totals.ensures
    (ap (each listed_row_view) c.deref.ensures.value ∙ c.in_ok-rows.ensures)
    c.in_ok-push_totals.ensures
    c.in_ok-members.ensures.text
