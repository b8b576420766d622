use Rattle.std.proofs.Common.{◌-◌, ◌≡◌, ◌<◌, ℕ, length, slice_get, Some}
use Rattle.site_journal.specs.Journals.{IsJournal, JournalState}
use Rattle.site_audit.specs.Runs.{IsFromNew}
use Rattle.site_audit.proofs.auditing.first_stale.Given as goal

-- the journals so far are whole
abbrev pub invariant-loop-place : goal.invariant-loop-place
invariant-loop-place l = record {
  whole : (site : ℕ) (j : JournalState) → site < l.place → slice_get l.journals site ≡ Some j → IsFromNew j;
  legal : (site : ℕ) (j : JournalState) → site < l.place → slice_get l.journals site ≡ Some j → IsJournal j;
}

abbrev pub decreases-loop-place : goal.decreases-loop-place
decreases-loop-place l = length l.journals - l.place
