use Rattle.std.proofs.Common.{sym, true≢false, ◌∙◌}
use Rattle.std.proofs.lemmas.Map.Views.{list_any-from_Contains}
use Rattle.std.proofs.lemmas.Cmp.{nat_list_eq_equiv}
use Rattle.replica.proofs.NameLemmas.{found_at}
use Rattle.replica.proofs.queue_list.QueueList.position.Goals as goal

pub returns-in_err-place-clause-none : goal.returns-in_err-place-clause-none
returns-in_err-place-clause-none c =
    rw c.from_residual.ensures (λ has. absurd (true≢false (sym
    (list_any-from_Contains nat_list_eq_equiv c.args.name.now c.self.inside.names.keys (rw c.self.view_is has)) ∙ sym c.in_err-place.ensures.found)))

pub returns-clause-value : goal.returns-clause-value
returns-clause-value c = rw (← c.self.view_is) (found_at c.args.name.now c.self.inside.names.keys c.in_ok-place.place c.in_ok-place.ensures.index)
