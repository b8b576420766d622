use Rattle.std.proofs.Common.{◌≡◌, ◌+◌, true, false, length, set, take, drop, [], arith, ap, sym, subst}
use Rattle.std.specs.FinSet as sets
use Rattle.std.specs.List.{All}
use Rattle.std.proofs.lemmas.List.{drop-set-lt, length-drop, length-set, drop_all}
use Rattle.dots.specs.DotSets.{Run, IsRunsOf, is_apart, set_of}
use Rattle.causal_context.specs.Contexts.{IsRunWithinLimits}
use Rattle.causal_context.specs.ListedRuns.{AreRuns}
use Rattle.causal_context.proofs.Merging.{writing_merging, grown_merging, joined_site, last_merging, merging_none, merging_starts, next_first, next_limits, one_further, limits_left}
use Rattle.causal_context.proofs.merge.merge.Goals as goal

pub returns-in_default-clause-united : goal.returns-in_default-clause-united
returns-in_default-clause-united c =
    let ends = c.in_default.ensures in
    let same = ap length c.as_slice-others.ensures.value in
    merging_none [] _ _ (omega (arith, length-drop (length c.args.other.now.items) c.args.places.now, ends.0.reached, same)) (omega (arith, ends.1.reached, same))

pub loop-next-init : goal.loop-next-init
loop-next-init c =
    let places = c.args.places.now in
    let others = c.as_slice-others.result.now in
    let same = c.as_slice-others.ensures.value in
    let ours = subst (λ xs. AreRuns (drop (length xs) places)) (sym same) c.requires.ours in
    let step = c.in-Some.ensures in
    let moved = one_further places others _ _ _ _ c.in-Some.current step in
    let as_many = ap length same in
    record {
      free = moved.behind;
      reached = moved.own_within (omega (arith, c.requires.free, as_many));
      passed = moved.theirs_within (omega arith);
      room = omega (arith, moved.one);
      left = limits_left places _ _ moved.behind ours.limits;
      merging = merging_starts c.in-Some.current _ _ _ _ (next_first places others _ _ _ _ c.in-Some.current ours.apart c.as_slice-others.ensures.runs.apart step)
          (next_limits places others _ _ _ _ c.in-Some.current ours.limits c.as_slice-others.ensures.runs.limits step);
    }

pub loop-next-preserved-then-is_before : goal.loop-next-preserved-then-is_before
loop-next-preserved-then-is_before c =
    let l = c.loop-next in
    let others = c.as_slice-others.result.now in
    let step = c.in-Some-next_run.ensures in
    let next = c.in-Some-next_run.next in
    let moved = one_further l.places others _ _ _ _ next step in
    let before : is_apart l.current next ≡ true = cc in
    let first = next_first l.places others _ _ _ _ next l.invariant.merging.apart_ours l.invariant.merging.apart_others step in
    let limits = next_limits l.places others _ _ _ _ next l.invariant.left c.as_slice-others.ensures.runs.limits step in
    record {
      free = omega (arith, l.invariant.free, moved.behind);
      reached = let reached = moved.own_within l.invariant.reached in omega (arith, reached, length-set {A = Run});
      passed = moved.theirs_within l.invariant.passed;
      room = omega (arith, moved.one, l.invariant.room);
      left = subst (All IsRunWithinLimits) (sym (drop-set-lt _ l.places l.written l.current (omega (arith, moved.behind, moved.one, l.invariant.room, l.invariant.passed)))) (limits_left l.places _ _ moved.behind l.invariant.left);
      merging = writing_merging l.places l.written l.own _ l.current _ _ _ _ _ (omega (arith, l.invariant.room, l.invariant.passed, l.invariant.reached))
          (omega (arith, moved.behind, l.invariant.room, l.invariant.passed)) l.invariant.merging first limits before;
    }

pub joined-current-requires : goal.joined-current-requires
joined-current-requires c =
    let l = c.loop-next in
    let next = c.in-Some-next_run.next in
    let touching : is_apart l.current next ≡ false = cc in
    let first = next_first l.places c.as_slice-others.result.now _ _ _ _ next l.invariant.merging.apart_ours l.invariant.merging.apart_others c.in-Some-next_run.ensures in
    joined_site l.current next (first.least l.current l.invariant.merging.before_ours l.invariant.merging.before_others) touching

pub loop-next-preserved : goal.loop-next-preserved
loop-next-preserved c =
    let l = c.loop-next in
    let others = c.as_slice-others.result.now in
    let step = c.in-Some-next_run.ensures in
    let next = c.in-Some-next_run.next in
    let moved = one_further l.places others _ _ _ _ next step in
    let touching : is_apart l.current next ≡ false = cc in
    let first = next_first l.places others _ _ _ _ next l.invariant.merging.apart_ours l.invariant.merging.apart_others step in
    record {
      free = omega (arith, l.invariant.free, moved.behind);
      reached = moved.own_within l.invariant.reached;
      passed = moved.theirs_within l.invariant.passed;
      room = omega (arith, moved.one, l.invariant.room);
      left = limits_left l.places _ _ moved.behind l.invariant.left;
      merging = grown_merging _ l.current next _ _ _ _ _ _ _ l.invariant.merging first touching c.joined-current.ensures.value c.joined-current.ensures.limit;
    }

pub returns-clause-united : goal.returns-clause-united
returns-clause-united c =
    let l = c.loop-next in
    let ends = c.in_default-next_run.ensures in
    let others = c.as_slice-others.result.now in
    subst (λ xs. IsRunsOf (take (l.written + 1) (set l.places l.written l.current)) (sets.union (set_of (drop (length xs) c.args.places.now)) (set_of xs))) c.as_slice-others.ensures.value
    (last_merging l.places _ _ _ _ _ _ (omega (arith, l.invariant.room, l.invariant.passed, l.invariant.reached)) l.invariant.merging
    (drop_all l.own l.places ends.0.reached) (drop_all l.theirs others ends.1.reached))
