use Rattle.std.proofs.Common.{◌-◌, ◌≡◌, ◌<◌, ◌≤◌, ℕ, length, slice_get, Some}
use Rattle.site_journal.specs.Journals.{JournalState}
use Rattle.site_audit.specs.Runs.{names_in}
use Rattle.site_audit.proofs.auditing.are_sites.Given as goal

-- the journals so far are those of their sites
abbrev pub invariant-loop-place : goal.invariant-loop-place
invariant-loop-place l = record {
  few : l.place ≤ 64;
  within : l.place ≤ length l.journals;
  numbers : (site : ℕ) (j : JournalState) → site < l.place → slice_get l.journals site ≡ Some j → j.base.site ≡ site;
  names : (site : ℕ) (j : JournalState) → site < l.place → slice_get l.journals site ≡ Some j → j.base.names ≡ names_in l.journals;
}

abbrev pub decreases-loop-place : goal.decreases-loop-place
decreases-loop-place l = length l.journals - l.place
