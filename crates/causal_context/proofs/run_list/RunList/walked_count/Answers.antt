use Rattle.std.proofs.Common.{◌≡◌, true, false, length, arith, ap, ◌∙◌}
use Rattle.std.specs.FinSet as sets
use Rattle.std.proofs.lemmas.List.{drop_all}
use Rattle.std.proofs.lemmas.List.Elements.{All-drop}
use Rattle.dots.specs.DotSets.{is_apart, run_count, set_of}
use Rattle.causal_context.specs.Contexts.{IsRunWithinLimits}
use Rattle.causal_context.proofs.Merging.{counting_none, counting_starts, counting_writes, counting_grows, counting_ends, joined_site, next_first, next_limits, one_further}
use Rattle.causal_context.proofs.Views.{counted}
use Rattle.causal_context.proofs.run_list.RunList.walked_count.Goals as goal

pub returns-in_default-clause-value : goal.returns-in_default-clause-value
returns-in_default-clause-value c =
    let ends = c.in_default.ensures in
    counting_none _ _ (omega (arith, ends.0.reached, ap length c.as_slice-ours.ensures.value)) (omega (arith, ends.1.reached, ap length c.as_slice-others.ensures.value))

pub loop-next-init : goal.loop-next-init
loop-next-init c =
    let ours = c.as_slice-ours.result.now in
    let others = c.as_slice-others.result.now in
    let step = c.in-Some.ensures in
    let moved = one_further ours others _ _ _ _ c.in-Some.current step in
    record {
      reached = moved.own_within (omega arith);
      passed = moved.theirs_within (omega arith);
      few = omega (arith, moved.one);
      counting = counting_starts c.in-Some.current _ _ _ _ (next_first ours others _ _ _ _ c.in-Some.current c.as_slice-ours.ensures.runs.apart c.as_slice-others.ensures.runs.apart step)
          (next_limits ours others _ _ _ _ c.in-Some.current c.as_slice-ours.ensures.runs.limits c.as_slice-others.ensures.runs.limits step);
    }

pub loop-next-preserved-then-is_before : goal.loop-next-preserved-then-is_before
loop-next-preserved-then-is_before c =
    let l = c.loop-next in
    let ours = c.as_slice-ours.result.now in
    let others = c.as_slice-others.result.now in
    let step = c.in-Some-next_run.ensures in
    let next = c.in-Some-next_run.next in
    let moved = one_further ours others _ _ _ _ next step in
    let merging = l.invariant.counting.merging in
    let before : is_apart l.current next ≡ true = cc in
    record {
      reached = moved.own_within l.invariant.reached;
      passed = moved.theirs_within l.invariant.passed;
      few = omega (arith, moved.one, l.invariant.few);
      counting = counting_writes _ l.current next _ _ _ _ _ _ l.invariant.counting (next_first ours others _ _ _ _ next merging.apart_ours merging.apart_others step)
          (next_limits ours others _ _ _ _ next (All-drop IsRunWithinLimits l.own ours c.as_slice-ours.ensures.runs.limits) c.as_slice-others.ensures.runs.limits step) before;
    }

pub joined-current-requires : goal.joined-current-requires
joined-current-requires c =
    let l = c.loop-next in
    let next = c.in-Some-next_run.next in
    let merging = l.invariant.counting.merging in
    let touching : is_apart l.current next ≡ false = cc in
    let first = next_first c.as_slice-ours.result.now c.as_slice-others.result.now _ _ _ _ next merging.apart_ours merging.apart_others c.in-Some-next_run.ensures in
    joined_site l.current next (first.least l.current merging.before_ours merging.before_others) touching

pub loop-next-preserved : goal.loop-next-preserved
loop-next-preserved c =
    let l = c.loop-next in
    let ours = c.as_slice-ours.result.now in
    let others = c.as_slice-others.result.now in
    let step = c.in-Some-next_run.ensures in
    let next = c.in-Some-next_run.next in
    let moved = one_further ours others _ _ _ _ next step in
    let merging = l.invariant.counting.merging in
    let touching : is_apart l.current next ≡ false = cc in
    record {
      reached = moved.own_within l.invariant.reached;
      passed = moved.theirs_within l.invariant.passed;
      few = omega (arith, moved.one, l.invariant.few);
      counting = counting_grows _ l.current next _ _ _ _ _ _ _ l.invariant.counting (next_first ours others _ _ _ _ next merging.apart_ours merging.apart_others step) touching c.joined-current.ensures.value c.joined-current.ensures.limit;
    }

pub returns-clause-value : goal.returns-clause-value
returns-clause-value c =
    let l = c.loop-next in
    let ends = c.in_default-next_run.ensures in
    counting_ends _ _ _ _ _ _ l.invariant.counting (drop_all l.own c.as_slice-ours.result.now ends.0.reached) (drop_all l.theirs c.as_slice-others.result.now ends.1.reached)
    ∙ (λ i. run_count (sets.union (set_of (c.as_slice-ours.ensures.value i)) (set_of (c.as_slice-others.ensures.value i))))

pub returns-clause-few : goal.returns-clause-few
returns-clause-few c =
    let ours = counted c.as_slice-ours.result.now c.as_slice-ours.ensures.runs.apart in
    let others = counted c.as_slice-others.result.now c.as_slice-others.ensures.runs.apart in
    let same = ap (λ rs. run_count (set_of rs)) c.as_slice-ours.ensures.value in
    let same_others = ap (λ rs. run_count (set_of rs)) c.as_slice-others.ensures.value in
    omega (arith, ours, others, same, same_others)
