use Rattle.dots.proofs.RunCounts.{run_count_runs}
use Rattle.dots.proofs.RunsOfSets.{runs_of}
use Rattle.dots.proofs.UniqueRuns.{runs_unique}
use Rattle.causal_context.proofs.laws.has_one_list_of_runs.Goals as goal

pub returns : goal.returns
returns c = record { some = runs_of; unique = runs_unique; counted = run_count_runs }
