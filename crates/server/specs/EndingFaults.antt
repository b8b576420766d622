-- The faults that end a site (this project's own).
use Rattle.std.specs.Prelude.{◌≡◌, ◌⊎◌}
use Rattle.replica.specs.declared.take_fault.TakeFault.TheVariants.{Conflict, NotMine}
use Rattle.site_journal.specs.declared.desk_fault.DeskFault.{DeskFault}
use Rattle.site_journal.specs.declared.desk_fault.DeskFault.TheVariants.{Take, Unsaved}

-- its store has failed, or does not have what other sites know of the site's own changes
abbrev pub EndsSite : DeskFault → Type 0
EndsSite fault = (fault ≡ Unsaved) ⊎ ((fault ≡ Take NotMine) ⊎ (fault ≡ Take Conflict))
