use Rattle.std.proofs.Math.Logic.{∥∥₁_map}
use Rattle.sqlite.specs.Files.{file_state}
use Rattle.sqlite.proofs.Theorems.{next_run}
use Rattle.site_store.proofs.laws.the_next_run_finds_the_steps.Goals as goal

pub returns : goal.returns
returns g c it first at rows others numbered sound may left leaves opened found =
    ∥∥₁_map (next_run it numbered sound left leaves (file_state opened) found) (may (file_state opened).committed.trees)
