use Rattle.std.proofs.Common.{◌≡◌, ◌+◌, ◌-◌, ℕ, List, Result, Ok, Err, length, suc, false, [], ◌∷◌, arith, refl, sym, ap, ◌∙◌}
use Rattle.std.specs.Prelude.{OnOk}
use Rattle.std.specs.Result.{is_err}
use Rattle.std.proofs.lemmas.Grind.{common_steps}
use Rattle.std.specs.FinSet as set
use Rattle.dots.specs.Orders.{dot_cmp}
use Rattle.dots.specs.DotSets.{IsRunsOf, Run, run_count, set_of}
use Rattle.dots.proofs.RunCounts.{run_count_runs}
use Rattle.causal_context.specs.ListedRuns.{TakesPlace, replaced}
use Rattle.causal_context.proofs.Uniting.{length_replaced, set_replaced}
use Rattle.causal_context.proofs.context.Context.unite.Goals as goal
use Rattle.causal_context.proofs.context.Context.unite.Goals.{else-united-via-then-united+else-len-ge-MOST_RUNS, else-united-via-else-united}

-- how many runs there are with one more
united_count : (runs : List Run) (dots : set.FinSet dot_cmp) (start end : ℕ) (united run : Run) → set_of runs ≡ dots → TakesPlace runs start united end → IsRunsOf (replaced runs start united end) (set.union (set_of runs) (set_of (run ∷ [])))
    → run_count (set.union dots (set_of (run ∷ []))) ≡ start + suc (length runs - end)
united_count runs dots start end united run same place is =
    ap (λ s. run_count (set.union s (set_of (run ∷ [])))) (sym same) ∙ run_count_runs _ _ is ∙ length_replaced runs start end united place.order place.within

made : {E P : Type 0} (r : Result (Unit {0}) E) → is_err r ≡ false → OnOk r P → P
made (Ok u) is h = h
made (Err e) is h = absurd (cc)

pub returns-then-len-ge-MOST_RUNS-clause-full : goal.returns-then-len-ge-MOST_RUNS-clause-full
returns-then-len-ge-MOST_RUNS-clause-full c =
    let u = c.unite-united in
    let n = united_count c.self.inside.runs.items c.args.self.now.dots u.result.start u.result.end u.result.run c.args.run (ap (λ k. k.dots) c.self.view_is) u.ensures.place u.ensures.united in
    (λ h. omega (arith, n, u.ensures.place.within), λ h. refl)

pub returns-then-len-ge-MOST_RUNS-clause-no_more : goal.returns-then-len-ge-MOST_RUNS-clause-no_more
returns-then-len-ge-MOST_RUNS-clause-no_more c h =
    let u = c.unite-united in
    let n = united_count c.self.inside.runs.items c.args.self.now.dots u.result.start u.result.end u.result.run c.args.run (ap (λ k. k.dots) c.self.view_is) u.ensures.place u.ensures.united in
    let own = ap (λ k. run_count k.dots) c.self.view_is in
    absurd (omega (arith, n, h, own, u.ensures.place.within))

pub returns-then-is_err-clause-full : goal.returns-then-is_err-clause-full
returns-then-is_err-clause-full c =
    let u = c.unite-united in
    let n = united_count c.self.inside.runs.items c.args.self.now.dots u.result.start u.result.end u.result.run c.args.run (ap (λ k. k.dots) c.self.view_is) u.ensures.place u.ensures.united in (
      λ h. absurd (cc h),
      λ h. absurd (elim c.else-united.branch [
        | else-united-via-then-united+else-len-ge-MOST_RUNS w ↦ omega (arith, n, h, u.ensures.place.within)
        | else-united-via-else-united w ↦ omega (arith, n, h, u.ensures.place.within, u.ensures.place.order)
      ]),
    )

pub returns-then-is_err-clause-no_more : goal.returns-then-is_err-clause-no_more
returns-then-is_err-clause-no_more c h =
    let u = c.unite-united in
    let n = united_count c.self.inside.runs.items c.args.self.now.dots u.result.start u.result.end u.result.run c.args.run (ap (λ k. k.dots) c.self.view_is) u.ensures.place u.ensures.united in
    let own = ap (λ k. run_count k.dots) c.self.view_is in
    let ok = c.replace.ensures.no_more (omega (arith, n, h, own, u.ensures.place.within)) in
    grind (arith, common_steps, ok)

pub invariant_of-self-2 : goal.invariant_of-self-2
invariant_of-self-2 c =
    let u = c.unite-united in
    let n = united_count c.self.inside.runs.items _ u.result.start u.result.end u.result.run c.args.run refl u.ensures.place u.ensures.united in
    let is = ap run_count (set_replaced c.self.inside.runs.items _ u.result.start u.result.end u.result.run c.args.run u.ensures.united (made c.replace.result (sym c.is_err.ensures.value ∙ c.if-is_err.false) c.replace.ensures.ok)) in
    elim c.else-united.branch [
      | else-united-via-then-united+else-len-ge-MOST_RUNS w ↦ omega (arith, n, is, u.ensures.place.within)
      | else-united-via-else-united w ↦ omega (arith, n, is, u.ensures.place.within, u.ensures.place.order)
    ]

pub returns-clause-ok : goal.returns-clause-ok
returns-clause-ok c =
    let u = c.unite-united in
    set_replaced c.self.inside.runs.items _ u.result.start u.result.end u.result.run c.args.run u.ensures.united (made c.replace.result (sym c.is_err.ensures.value ∙ c.if-is_err.false) c.replace.ensures.ok)
    ∙ ap (λ k. set.union k.dots (set_of (c.args.run ∷ []))) c.self.view_is

pub returns-clause-full : goal.returns-clause-full
returns-clause-full c =
    let u = c.unite-united in
    let n = united_count c.self.inside.runs.items c.args.self.now.dots u.result.start u.result.end u.result.run c.args.run (ap (λ k. k.dots) c.self.view_is) u.ensures.place u.ensures.united in (
      λ h. absurd (cc h),
      λ h. absurd (elim c.else-united.branch [
        | else-united-via-then-united+else-len-ge-MOST_RUNS w ↦ omega (arith, n, h, u.ensures.place.within)
        | else-united-via-else-united w ↦ omega (arith, n, h, u.ensures.place.within, u.ensures.place.order)
      ]),
    )
