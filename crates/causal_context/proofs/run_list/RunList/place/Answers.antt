use Rattle.std.proofs.Common.{◌≡◌, true, false, rules, of_calls, subst}
use Rattle.std.specs.List.Sorted.{IsPartitionPoint}
use Rattle.std.proofs.lemmas.List.Sorted.{IsPartitionPoint-from_clause}
use Rattle.dots.specs.Values.{Dot}
use Rattle.causal_context.specs.RunLists.{is_below}
use Rattle.causal_context.proofs.Places.{partitioned}
use Rattle.causal_context.proofs.run_list.RunList.place.Goals as goal

pub returns-clause-place : goal.returns-clause-place
returns-clause-place c =
    let d : Dot = record { site = c.args.site; count = c.args.count } in
    let runs = c.as_slice.result.now in
    subst (λ rs. IsPartitionPoint (λ r. is_below d r ≡ true) (λ r. is_below d r ≡ false) rs c.partition_point.result) c.as_slice.ensures.value
    (IsPartitionPoint-from_clause (is_below d) runs c.partition_point.result c.partition_point.ensures.partitioned (partitioned d runs c.as_slice.ensures.runs.apart) (λ a r f k. search (rules, of_calls)))
