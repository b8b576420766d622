use Rattle.std.proofs.Math.Logic.{∥∥₁_map}
use Rattle.sqlite.specs.Files.{file_state}
use Rattle.sqlite.proofs.Theorems.{next_run}
use Rattle.step_database.proofs.Found.{either_site}
use Rattle.step_database.proofs.laws.the_next_run_has_done_the_steps.Goals as goal

pub returns : goal.returns
returns g c it origin steps more numbered sound may left leaves opened finds first rows found lists is =
    ∥∥₁_map (next_run it numbered sound left leaves (file_state opened) finds)
    (λ there. either_site ((file_state opened).committed.trees 0) origin steps more (may (file_state opened).committed.trees there) first rows found lists is)
