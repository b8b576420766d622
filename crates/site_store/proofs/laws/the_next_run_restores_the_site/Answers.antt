use Rattle.std.proofs.Math.Logic.{∥∥₁_map}
use Rattle.sqlite.specs.Files.{file_state}
use Rattle.sqlite.proofs.Theorems.{next_run}
use Rattle.site_store.proofs.RestoredSites.{either_site}
use Rattle.site_store.proofs.laws.the_next_run_restores_the_site.Goals as goal

pub returns : goal.returns
returns g c it first at base other row other_row rows others site later of led too on numbered sound may left leaves opened finds place list found lists is =
    ∥∥₁_map (next_run it numbered sound left leaves (file_state opened) finds)
    (λ there. either_site ((file_state opened).committed.trees 0) first at place base other row other_row rows others list site later found of led too on lists is (may (file_state opened).committed.trees there))
