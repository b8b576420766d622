use Rattle.std.proofs.Common.{◌∙◌, arith, ap, sym}
use Rattle.std.specs.List.{sum_by}
use Rattle.std.proofs.lemmas.List.{take_all}
use Rattle.store_listing.proofs.RunLengths.{len_of_runs, run_length}
use Rattle.store_listing.proofs.frames.count_dots.Goals as goal

-- all runs are counted
pub returns : goal.returns
returns c =
    c.loop-run.invariant.counted ∙ ap (sum_by run_length) (take_all c.loop-run.run-index c.as_slice-runs.result.now (omega arith))
    ∙ sym (len_of_runs c.as_slice-runs.result.now c.args.context.now.dots c.as_slice-runs.ensures.value)
