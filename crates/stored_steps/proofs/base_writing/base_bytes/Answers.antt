use Rattle.std.proofs.Common.{ℕ, List, ◌++◌, ap, subst₂, ◌∙◌}
use Rattle.delta.specs.DeltaStates.{DeltaState}
use Rattle.stored_steps.specs.declared.base.StoredBase.{StoredBase}
use Rattle.stored_steps.specs.Appending.{AppendsDelta}
use Rattle.stored_steps.specs.Bases.{head_bytes}
use Rattle.stored_steps.proofs.Writing.{base_written}
use Rattle.stored_steps.proofs.base_writing.base_bytes.Goals as goal

pub returns-clause-spelled : goal.returns-clause-spelled
returns-clause-spelled c =
    let base : StoredBase = record { replica = c.args.replica.now; name = c.args.name.now; starts = c.args.starts } in
    base_written base c.put_head.new.out.items c.put_delta.new.out.items c.put_delta-2.new.out.items
    (c.in_ok-put_head.ensures ∙ ap (λ (l : List ℕ). l ++ head_bytes base) c.new-out.ensures.items)
    (subst₂ (λ (s : ℕ) (d : DeltaState). AppendsDelta s d c.put_head.new.out.items c.put_delta.new.out.items) c.site.ensures c.state.ensures.value c.in_ok-put_delta.ensures)
    (subst₂ (λ (s : ℕ) (d : DeltaState). AppendsDelta s d c.put_delta.new.out.items c.put_delta-2.new.out.items) c.site-2.ensures c.pending.ensures.value c.in_ok-put_delta-2.ensures)
