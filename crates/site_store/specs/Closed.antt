-- What the files of a store hold once it is closed.
use Rattle.std.specs.Prelude.{ℕ, List}
use Rattle.sqlite_disk.specs.declared.Disk.{Ghosts}
use Rattle.sqlite_disk.specs.declared.Files.{Files}
use Rattle.sqlite.specs.Closing.{HoldsAlone}
use Rattle.sqlite.specs.Files.{image_of}
use Rattle.sqlite.specs.Recovery.{Image}
use Rattle.sqlite.specs.Tree.{Trees}
use Rattle.sqlite.specs.WalFiles.{outcomes}
use Rattle.stored_steps.specs.Stored.{Stored}
use Rattle.site_store.specs.Steps.{Lists}

-- a file and its log hold a database with these rows in its table of steps, and so does the file without its log
abbrev pub HoldsRows : Image → ℕ → List Stored → Type 0
HoldsRows image at list = (db : Trees) × HoldsAlone image db × Lists (db 0) at list

-- files hold these rows, and so do those that a crash leaves
pub record IsWhole {D : Type 0} (g : Ghosts D) (files : Files D) (at : ℕ) (list : List Stored) : Type 0 where
  pub seen : HoldsRows (image_of g files) at list
  pub left : (image : Image) → outcomes g files.log files.db image → HoldsRows image at list
