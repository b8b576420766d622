-- The rows that a file held, and a site that goes on over it.
use Rattle.std.specs.Prelude.{ℕ, ◌≡◌, List}
use Rattle.sqlite.specs.Files.{HoldsDatabase}
use Rattle.sqlite.specs.Recovery.{Image}
use Rattle.sqlite.specs.State.{HasCleanDisk, State}
use Rattle.sqlite.specs.Tree.{Trees}
use Rattle.replica.specs.Deeds.{IsNew}
use Rattle.stored_steps.specs.Stored.{Stored}
use Rattle.site_store.specs.Steps.{Holds, Lists}
use Rattle.site_files.specs.declared.site_file.SiteFile.{SiteFile}

-- if the disk is clean, a database holds the rows that the files held
abbrev pub HoldsRowsOf : Image → State → Type 0
HoldsRowsOf image s = HasCleanDisk s → (db : Trees) (first : ℕ) (rows : List Stored) → HoldsDatabase image db → Lists (db 0) first rows → Holds s first rows

-- a site is a new one, at its first start
pub record IsFirstStart {D Group Base : Type 0} (it : SiteFile D Group Base) : Type 0 where
  pub new : IsNew it.resumed.replica
  pub first : it.starts ≡ 1
