use Rattle.std.proofs.Common.{◌≡◌, List, false, true, arith, sym, ap, ◌∙◌}
use Rattle.std.specs.FinSet as set
use Rattle.std.proofs.lemmas.List.{drop_all}
use Rattle.dots.specs.DotSets.{Run, first_dot, set_of}
use Rattle.dots.proofs.Runs.{runs_of_set}
use Rattle.causal_context.specs.ListedRuns.{AreRuns}
use Rattle.causal_context.specs.RunLists.{all_within, holds, is_below}
use Rattle.causal_context.proofs.Covers.{subset_by_runs, walk_none, walk_below, walk_gap}
use Rattle.causal_context.proofs.run_list.RunList.covers.Goals as goal

-- the test of the runs is that of their dots
by_dots : (rs xs runs others : List Run) → rs ≡ runs → xs ≡ others → AreRuns rs → AreRuns xs → all_within rs xs ≡ set.is_subset (set_of others) (set_of runs)
by_dots rs xs runs others e f a b = subset_by_runs rs xs (set_of rs) (set_of xs) (runs_of_set rs a.apart) (runs_of_set xs b.apart) ∙ (λ i. set.is_subset (set_of (f i)) (set_of (e i)))

pub returns-then-index-runs : goal.returns-then-index-runs
returns-then-index-runs c =
    let runs = c.as_slice-runs.result.now in
    let wanted = c.as_slice-wanted.result.now in
    sym (walk_none runs wanted c.loop-found.index c.loop-found.found (omega arith) (omega arith)) ∙ c.loop-found.invariant.rest
    ∙ by_dots runs wanted _ _ c.as_slice-runs.ensures.value c.as_slice-wanted.ensures.value c.as_slice-runs.ensures.runs c.as_slice-wanted.ensures.runs

pub loop-found-preserved-then-precedes : goal.loop-found-preserved-then-precedes
loop-found-preserved-then-precedes c =
    let own = c.index-runs-index.result in
    let run = c.index-wanted-found.result in
    let before : is_below (first_dot run) own ≡ true = cc in
    record {
      ours = omega arith;
      others = omega arith;
      rest = walk_below c.as_slice-runs.result.now c.as_slice-wanted.result.now c.loop-found.index c.loop-found.found own run (omega arith) c.index-runs-index.is (omega arith) c.index-wanted-found.is c.as_slice-wanted.ensures.runs.apart before
          ∙ c.loop-found.invariant.rest;
    }

pub returns-else-holds : goal.returns-else-holds
returns-else-holds c =
    let runs = c.as_slice-runs.result.now in
    let wanted = c.as_slice-wanted.result.now in
    let own = c.index-runs-index.result in
    let run = c.index-wanted-found.result in
    let before : is_below (first_dot run) own ≡ false = cc in
    let outside : holds run own ≡ false = cc in
    sym (walk_gap runs wanted c.loop-found.index c.loop-found.found own run (omega arith) c.index-runs-index.is (omega arith) c.index-wanted-found.is c.as_slice-runs.ensures.runs.apart before outside)
    ∙ c.loop-found.invariant.rest ∙ by_dots runs wanted _ _ c.as_slice-runs.ensures.value c.as_slice-wanted.ensures.value c.as_slice-runs.ensures.runs c.as_slice-wanted.ensures.runs

pub returns : goal.returns
returns c =
    let runs = c.as_slice-runs.result.now in
    let wanted = c.as_slice-wanted.result.now in
    ap (all_within _) (sym (drop_all c.loop-found.found wanted (omega arith))) ∙ c.loop-found.invariant.rest
    ∙ by_dots runs wanted _ _ c.as_slice-runs.ensures.value c.as_slice-wanted.ensures.value c.as_slice-runs.ensures.runs c.as_slice-wanted.ensures.runs
