use Rattle.std.proofs.Common.{drop, arith}
use Rattle.std.specs.Ordering.{on}
use Rattle.operations.specs.Totals.{key_cmp}
use Rattle.general_lemmas.proofs.Fronts.{greater_within}
use Rattle.site_totals.proofs.JoinedRows.{greater_at}
use Rattle.site_totals.proofs.joining.next_row.Goals as goal

-- the others have the least key
pub bounds-others-theirs : goal.bounds-others-theirs
bounds-others-theirs c =
    greater_within (on (λ row. row.0) key_cmp) c.args.rows.now c.args.others.now c.args.own.now c.args.theirs.now c.requires.own_within c.requires.theirs_within c.requires.left c.in-Greater.ensures

pub returns-in-Greater-clause-next : goal.returns-in-Greater-clause-next
returns-in-Greater-clause-next c =
    let within = greater_within (on (λ row. row.0) key_cmp) c.args.rows.now c.args.others.now c.args.own.now c.args.theirs.now c.requires.own_within c.requires.theirs_within c.requires.left c.in-Greater.ensures in
    greater_at (drop c.args.own.now c.args.rows.now) c.args.others.now c.args.theirs.now c.index-others-theirs.result within c.index-others-theirs.is c.in-Greater.ensures

pub returns-in-Greater-clause-theirs_left : goal.returns-in-Greater-clause-theirs_left
returns-in-Greater-clause-theirs_left c =
    let within = greater_within (on (λ row. row.0) key_cmp) c.args.rows.now c.args.others.now c.args.own.now c.args.theirs.now c.requires.own_within c.requires.theirs_within c.requires.left c.in-Greater.ensures in
    omega (arith, within)
