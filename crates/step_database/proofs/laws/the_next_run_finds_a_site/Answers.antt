use Rattle.std.proofs.Math.Logic.{∥∥₁_map}
use Rattle.sqlite.specs.Files.{file_state}
use Rattle.sqlite.proofs.Theorems.{next_run}
use Rattle.step_database.proofs.Found.{either_makes}
use Rattle.step_database.proofs.laws.the_next_run_finds_a_site.Goals as goal

pub returns : goal.returns
returns g c it origin steps more numbered sound may left leaves opened finds =
    ∥∥₁_map (next_run it numbered sound left leaves (file_state opened) finds)
    (λ there. either_makes ((file_state opened).committed.trees 0) origin steps more (may (file_state opened).committed.trees there))
