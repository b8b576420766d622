use Rattle.std.proofs.Common.{◌≡◌, ◌++◌, map as each}
use Rattle.operations.specs.Views.{listed_row_view}
use Rattle.replica.specs.Site.{rows_of}
use Rattle.status_report.proofs.queues.ReplicaQueues.rows.Given as goal

-- what is listed, and what is left, are all rows
abbrev pub invariant-loop-row : goal.invariant-loop-row
invariant-loop-row l = each listed_row_view l.listed.items ++ l.row-iterator ≡ rows_of l.self l.number
