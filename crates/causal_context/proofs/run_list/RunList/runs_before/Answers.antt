use Rattle.std.proofs.Common.{◌≡◌, true, false, rules, of_calls, subst}
use Rattle.std.specs.List.Sorted.{IsPartitionPoint}
use Rattle.std.proofs.lemmas.List.Sorted.{IsPartitionPoint-from_clause}
use Rattle.dots.specs.DotSets.{Run, is_apart}
use Rattle.causal_context.proofs.Places.{partitioned_apart}
use Rattle.causal_context.proofs.run_list.RunList.runs_before.Goals as goal

pub returns-clause-place : goal.returns-clause-place
returns-clause-place c =
    let run : Run = record { site = c.run.inside.site; first = c.run.inside.first; last = c.run.inside.last } in
    let runs = c.as_slice.result.now in
    let place = IsPartitionPoint-from_clause (λ r. is_apart r run) runs c.partition_point.result c.partition_point.ensures.partitioned (partitioned_apart run runs c.as_slice.ensures.runs.apart) (λ a r f k. search (rules, of_calls)) in
    subst (λ rs. IsPartitionPoint (λ r. is_apart r c.args.run ≡ true) (λ r. is_apart r c.args.run ≡ false) rs c.partition_point.result) c.as_slice.ensures.value
    (subst (λ (run : Run). IsPartitionPoint (λ r. is_apart r run ≡ true) (λ r. is_apart r run ≡ false) runs c.partition_point.result) c.run.view_is place)
