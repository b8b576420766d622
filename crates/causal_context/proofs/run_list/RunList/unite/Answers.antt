use Rattle.std.proofs.Common.{◌≡◌, ◌≤◌, ◌+◌, ℕ, List, length, true, false, arith, [], ◌∷◌, ap, sym, subst}
use Rattle.std.specs.FinSet as sets
use Rattle.std.specs.List.Sorted.{IsPartitionPoint}
use Rattle.std.proofs.lemmas.List.{drop_all}
use Rattle.dots.specs.DotSets.{AreApart, IsRunsOf, Run, is_apart, run_count, set_of}
use Rattle.causal_context.specs.ListedRuns.{TakesPlace, replaced}
use Rattle.causal_context.proofs.Uniting.{length_replaced, placed, uniting_starts, uniting_site, uniting_takes_at, uniting_ends_at, uniting_ends_all}
use Rattle.causal_context.proofs.Views.{counted}
use Rattle.causal_context.proofs.run_list.RunList.unite.Goals as goal

-- the run that is made is one more at most
few : (runs items : List Run) (start end : ℕ) (run : Run) → runs ≡ items → AreApart runs → start ≤ end → end ≤ length runs → length (replaced items start run end) ≤ run_count (set_of items) + 1
few runs items start end run same apart order within =
    subst (λ rs. length (replaced rs start run end) ≤ run_count (set_of rs) + 1) same (omega (arith, counted runs apart, length_replaced runs start end run order within, order, within))

pub loop-end-init : goal.loop-end-init
loop-end-init c =
    let runs = c.as_slice-runs.result.now in
    let run = c.args.run in
    let start = c.runs_before-start.result in
    let found = c.runs_before-start.ensures in
    let within = let seen = ap length c.as_slice-runs.ensures.value in let low : start ≤ length runs = omega (arith, seen, found.within) in low in
    let point = subst (λ rs. IsPartitionPoint (λ r. is_apart r run ≡ true) (λ r. is_apart r run ≡ false) rs start) (sym c.as_slice-runs.ensures.value) found.place in
    record {
      order = omega arith;
      within = within;
      limit = found.limits;
      uniting = uniting_starts runs start run c.as_slice-runs.ensures.runs.apart within found.limits.ordered point;
    }

pub returns-then-is_before-clause-place : goal.returns-then-is_before-clause-place
returns-then-is_before-clause-place c =
    let runs = c.as_slice-runs.result.now in
    let start = c.runs_before-start.result in
    let united = c.loop-end.united in
    let before : is_apart united c.index-runs-end.result ≡ true = cc in
    subst (λ rs. TakesPlace rs start united c.loop-end.end) c.as_slice-runs.ensures.value
    (placed runs start c.loop-end.end united _ c.as_slice-runs.ensures.runs c.loop-end.invariant.order c.loop-end.invariant.within c.loop-end.invariant.limit
    (uniting_ends_at runs start c.loop-end.end united c.index-runs-end.result c.args.run c.loop-end.invariant.uniting (omega arith) c.index-runs-end.is before))

pub returns-then-is_before-clause-united : goal.returns-then-is_before-clause-united
returns-then-is_before-clause-united c =
    let runs = c.as_slice-runs.result.now in
    let start = c.runs_before-start.result in
    let united = c.loop-end.united in
    let before : is_apart united c.index-runs-end.result ≡ true = cc in
    subst (λ rs. IsRunsOf (replaced rs start united c.loop-end.end) (sets.union (set_of rs) (set_of (c.args.run ∷ [])))) c.as_slice-runs.ensures.value
    (uniting_ends_at runs start c.loop-end.end united c.index-runs-end.result c.args.run c.loop-end.invariant.uniting (omega arith) c.index-runs-end.is before)

pub joined-united-requires : goal.joined-united-requires
joined-united-requires c =
    let touching : is_apart c.loop-end.united c.index-runs-end.result ≡ false = cc in
    uniting_site c.as_slice-runs.result.now c.runs_before-start.result c.loop-end.end c.loop-end.united c.index-runs-end.result c.args.run c.loop-end.invariant.uniting (omega arith) c.index-runs-end.is touching

pub loop-end-preserved : goal.loop-end-preserved
loop-end-preserved c =
    let touching : is_apart c.loop-end.united c.index-runs-end.result ≡ false = cc in
    record {
      order = omega arith;
      within = omega arith;
      limit = c.joined-united.ensures.limit;
      uniting = uniting_takes_at c.as_slice-runs.result.now c.runs_before-start.result c.loop-end.end c.loop-end.united c.index-runs-end.result c.joined-united.result c.args.run c.loop-end.invariant.uniting c.as_slice-runs.ensures.runs.apart c.loop-end.invariant.order (omega arith) c.index-runs-end.is touching c.joined-united.ensures.value;
    }

pub returns-clause-place : goal.returns-clause-place
returns-clause-place c =
    let runs = c.as_slice-runs.result.now in
    let start = c.runs_before-start.result in
    subst (λ rs. TakesPlace rs start c.loop-end.united c.loop-end.end) c.as_slice-runs.ensures.value
    (placed runs start c.loop-end.end c.loop-end.united _ c.as_slice-runs.ensures.runs c.loop-end.invariant.order c.loop-end.invariant.within c.loop-end.invariant.limit
    (uniting_ends_all _ _ _ _ _ c.loop-end.invariant.uniting (drop_all c.loop-end.end runs (omega arith))))

pub returns-clause-united : goal.returns-clause-united
returns-clause-united c =
    let runs = c.as_slice-runs.result.now in
    let start = c.runs_before-start.result in
    subst (λ rs. IsRunsOf (replaced rs start c.loop-end.united c.loop-end.end) (sets.union (set_of rs) (set_of (c.args.run ∷ [])))) c.as_slice-runs.ensures.value
    (uniting_ends_all _ _ _ _ _ c.loop-end.invariant.uniting (drop_all c.loop-end.end runs (omega arith)))

pub returns-then-is_before-clause-few : goal.returns-then-is_before-clause-few
returns-then-is_before-clause-few c = few c.as_slice-runs.result.now c.args.self.now.items _ _ _ c.as_slice-runs.ensures.value c.as_slice-runs.ensures.runs.apart c.loop-end.invariant.order c.loop-end.invariant.within

pub returns-clause-few : goal.returns-clause-few
returns-clause-few c = few c.as_slice-runs.result.now c.args.self.now.items _ _ _ c.as_slice-runs.ensures.value c.as_slice-runs.ensures.runs.apart c.loop-end.invariant.order c.loop-end.invariant.within
