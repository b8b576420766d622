use Rattle.delta_codec.specs.Frames.{parts_with}
use Rattle.delta_codec.proofs.Measuring.{content_size}
use Rattle.delta_codec.proofs.sizes.content_size.Goals as goal

pub returns-clause-value : goal.returns-clause-value
returns-clause-value c = λ heading.
    let cells = rw c.members.ensures.value at c.cells_size-cells.ensures.value in
    let totals = rw c.totals.ensures at c.count_of-totals.ensures.value in
    content_size (parts_with heading c.args.delta.now c.args.runs.now) c.cells_size-cells.result c.count_of-totals.result cells totals
