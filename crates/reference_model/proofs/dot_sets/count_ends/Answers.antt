use Rattle.std.proofs.Common.{◌+◌, cond, drop, sym, ap, ◌∙◌, arith}
use Rattle.std.specs.FinSet as set
use Rattle.std.proofs.lemmas.List.{take_all, drop_all, length-drop}
use Rattle.dots.specs.DotSets.{run_count}
use Rattle.reference_model.specs.NextDots.{goes_on}
use Rattle.reference_model.proofs.RunSteps.{counts_ends, run_count_empty, sorted_drop}
use Rattle.general_lemmas.proofs.Fronts.{open_at}
use Rattle.reference_model.proofs.dot_sets.count_ends.Goals as goal
use Rattle.reference_model.proofs.dot_sets.count_ends.Goals.{then-not-goes_on, else-not-goes_on}

pub loop-place-preserved : goal.loop-place-preserved
loop-place-preserved c =
    let dots = c.args.dots.now in
    let place = c.loop-place.place in
    let x = c.index-dots-place.result in
    let rest = drop (place + 1) dots in
    let next = open_at dots place x c.loop-place-test.true c.index-dots-place.is in
    let follows = c.goes_on.ensures ∙ ap (goes_on x) (take_all _ rest (omega (arith, length-drop (place + 1) dots))) in
    elim c.if-not-goes_on.branch [
      | then-not-goes_on w ↦ record {
        all = counts_ends x rest (drop place dots) c.loop-place.runs c.if-not-goes_on.runs (run_count (set.from_list dots)) c.goes_on.result next (sorted_drop dots place c.requires) follows
            (w.runs-is ∙ ap (λ b. cond b c.loop-place.runs (c.loop-place.runs + 1)) (sym w.if-not-goes_on.true)) c.loop-place.invariant.all;
        few = let is = w.runs-is in omega (arith, is, c.loop-place.invariant.few);
      }
      | else-not-goes_on w ↦ record {
        all = counts_ends x rest (drop place dots) c.loop-place.runs c.if-not-goes_on.runs (run_count (set.from_list dots)) c.goes_on.result next (sorted_drop dots place c.requires) follows
            (w.runs-is ∙ ap (λ b. cond b c.loop-place.runs (c.loop-place.runs + 1)) (sym w.if-not-goes_on.false)) c.loop-place.invariant.all;
        few = let is = w.runs-is in omega (arith, is, c.loop-place.invariant.few);
      }
    ]

pub returns : goal.returns
returns c =
    let dots = c.args.dots.now in
    let none = ap (λ xs. run_count (set.from_list xs)) (drop_all c.loop-place.place dots c.loop-place-test.false) ∙ run_count_empty in
    omega (arith, none, c.loop-place.invariant.all)
