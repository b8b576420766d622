-- Files in memory return what was written.
use Rattle.std.proofs.Common.{◌≡◌, refl}
use Rattle.sqlite.specs.Files.{IsCleanLeft}
use Rattle.sqlite.specs.declared.file.Leftover.{Leftover}
use Rattle.sqlite.specs.declared.file.Leftover.TheVariants as left
use Rattle.sqlite_disk.specs.contracts.memory.MemoryDisk.TheImpl as memory_disk
use Rattle.sqlite_disk.specs.declared.memory.Memory.{Memory}
use Rattle.sqlite_pool.specs.Pool.{state}
use Rattle.sqlite_pool.specs.declared.pool.Pool.{Pool}
use Rattle.sqlite_trees.specs.View.{doubt}

-- pages in files in memory are clean
pub always_clean : (it : Pool Memory memory_disk.ghosts) → doubt (state it).is_clean ≡ 0
unfolding state doubt
always_clean it = refl

-- so is what an open that failed leaves of them
pub left_clean : (rest : Leftover Memory memory_disk.ghosts) → IsCleanLeft rest
unfolding state
left_clean (left.Files files) = refl
left_clean (left.Unopened files) = refl
left_clean (left.Store it) = refl
