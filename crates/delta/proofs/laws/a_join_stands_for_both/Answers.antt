use Rattle.delta.proofs.StandingDeltas.{cells_both, own_cells, runs_both, stands_for_both}
use Rattle.delta.proofs.laws.a_join_stands_for_both.Goals as goal

pub returns : goal.returns
returns c = record { joined = stands_for_both; cells = cells_both; runs = runs_both; own_cells = own_cells }
