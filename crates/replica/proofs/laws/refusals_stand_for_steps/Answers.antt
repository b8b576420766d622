use Rattle.replica.proofs.FramedSites.{cut_refused, whole_refused}
use Rattle.replica.proofs.TakenSites.{many_cells, many_runs}
use Rattle.replica.proofs.laws.refusals_stand_for_steps.Goals as goal

pub returns : goal.returns
returns c = record { cut = cut_refused; whole = whole_refused; cells_full = many_cells; runs_full = many_runs }
