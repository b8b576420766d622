-- What reports over the stores in files write, and why they end.
use Rattle.std.specs.Prelude.{ℕ, ⊤, ◌≡◌, ◌≢◌, ◌<◌, ◌⊎◌, Bool, List, length, Option}
use Rattle.std.specs.List.{All}
use Rattle.stored_steps.specs.Stored.{Stored}
use Rattle.store_audit.specs.Audits.{AreRefused, IsBegun, IsEndOf}
use Rattle.store_audit.specs.RowCauses.{IsJournalCause}
use Rattle.store_audit.specs.Walks.{IsJournalOfRows}
use Rattle.store_audit.specs.declared.audit_end.AuditEnd.{AuditEnd}
use Rattle.store_audit.specs.declared.journal_fault.JournalFault.{JournalFault}
use Rattle.store_audit.specs.declared.journal_fault.JournalFault.TheVariants as journal_fault
use Rattle.store_audit.specs.declared.store_audit_fault.StoreAuditFault.{StoreAuditFault}
use Rattle.store_audit.specs.declared.store_journal.StoreJournal.{StoreJournal}
use Rattle.store_copy.specs.declared.copy_fault.CopyFault.TheVariants as copy_fault
use Rattle.store_copy.specs.declared.store_bytes.StoreBytes.{StoreBytes}
use Rattle.store_copy.specs.Copies.{AreRecovered}
use Rattle.store_listing.specs.Listings.{AreWritten, HasStopped}
use Rattle.store_listing.specs.declared.listing_fault.ListingFault.{ListingFault}
use Rattle.store_listing.specs.declared.listing_fault.ListingFault.TheVariants as listing_fault
use Rattle.store_reports.specs.declared.report_fault.FileFault.{FileFault}
use Rattle.store_reports.specs.declared.report_fault.FileFault.TheVariants.{Unreadable, Copy, Journal, Listing}
use Rattle.store_reports.specs.declared.report_fault.ReportFault.{ReportFault}
use Rattle.store_reports.specs.declared.report_fault.ReportFault.TheVariants.{File, Sites, Write, Memory}

-- ---- files

-- rows, the first of which has the position `first`, are all those of the store in a file with some bytes, and a log
pub record AreOfFile (first : ℕ) (rows : List Stored) : Type 0 where
  pub bytes : StoreBytes
  pub recovered : AreRecovered bytes first rows

-- a store is the journal of all rows of a file, which begin at position 0
pub record IsOfFile (store : StoreJournal) : Type 0 where
  pub rows : List Stored
  pub of : AreOfFile 0 rows
  pub journal : IsJournalOfRows rows store

-- the rows of a file give no journal for this cause
pub record HasNoJournal (fault : JournalFault) : Type 0 where
  pub first : ℕ
  pub rows : List Stored
  pub of : AreOfFile first rows
  pub cause : IsJournalCause first rows fault
  pub other : fault ≢ journal_fault.Memory

-- a file gives no rows for this cause
abbrev pub IsReadCause : FileFault → Type 0
IsReadCause (Unreadable error) = ⊤
IsReadCause (Copy fault) = fault ≢ copy_fault.Memory
IsReadCause other = ⊥

-- a file gives no journal for this cause
abbrev pub IsJournalCauseOfFile : FileFault → Type 0
IsJournalCauseOfFile (Journal fault) = HasNoJournal fault
IsJournalCauseOfFile other = IsReadCause other

-- the file of this index gives no rows
abbrev pub IsReadFault : ℕ → ReportFault → Type 0
IsReadFault file (File at cause) = (at ≡ file) × IsReadCause cause
IsReadFault file Memory = ⊤
IsReadFault file other = ⊥

-- the file of this index gives no journal
abbrev pub IsFileFault : ℕ → ReportFault → Type 0
IsFileFault file (File at cause) = (at ≡ file) × IsJournalCauseOfFile cause
IsFileFault file Memory = ⊤
IsFileFault file other = ⊥

-- one of the first `files` files gives no journal
abbrev pub IsFilesFault : ℕ → ReportFault → Type 0
IsFilesFault files (File at cause) = (at < files) × IsJournalCauseOfFile cause
IsFilesFault files Memory = ⊤
IsFilesFault files other = ⊥

-- ---- audits

-- the audit of the stores in `files` files has this end
pub record HasAudited (files : ℕ) (before after : Option (List ℕ)) (end : AuditEnd) : Type 0 where
  pub stores : List StoreJournal
  pub count : length stores ≡ files
  pub each : All IsOfFile stores
  pub ended : IsEndOf stores before after end

-- the stores in `files` files aren't those of all sites for this cause, and nothing was written
pub record AreOtherSites (files : ℕ) (before after : Option (List ℕ)) (fault : StoreAuditFault) : Type 0 where
  pub stores : List StoreJournal
  pub count : length stores ≡ files
  pub each : All IsOfFile stores
  pub refused : AreRefused stores fault before after

-- a prefix of the text of the stores in `files` files was written
pub record HasBegunAudit (files : ℕ) (before after : Option (List ℕ)) : Type 0 where
  pub stores : List StoreJournal
  pub count : length stores ≡ files
  pub each : All IsOfFile stores
  pub begun : IsBegun stores before after

-- an audit of the stores in `files` files fails for this cause; nothing was written if a file or the sites are at fault, otherwise a
-- prefix of its text
abbrev pub IsAuditFault : ℕ → Option (List ℕ) → Option (List ℕ) → ReportFault → Type 0
IsAuditFault files before after (File file cause) = (file < files) × IsJournalCauseOfFile cause × (after ≡ before)
IsAuditFault files before after (Sites fault) = AreOtherSites files before after fault
IsAuditFault files before after Write = HasBegunAudit files before after
IsAuditFault files before after Memory = (after ≡ before) ⊎ HasBegunAudit files before after

-- ---- steps

-- what was written is the text of all rows of a file
pub record HasListed (with_frames : Bool) (before after : Option (List ℕ)) : Type 0 where
  pub first : ℕ
  pub rows : List Stored
  pub of : AreOfFile first rows
  pub written : AreWritten with_frames first rows before after

-- a list of the rows of a file has stopped at a row with this fault, behind the text of the rows before it
pub record HasStoppedAtRow (with_frames : Bool) (before after : Option (List ℕ)) (fault : ListingFault) : Type 0 where
  pub first : ℕ
  pub rows : List Stored
  pub of : AreOfFile first rows
  pub stopped : HasStopped with_frames first rows fault before after

-- the rows of a file aren't listed to the last for this cause; nothing was written if the file gives none
abbrev pub IsListCause : Bool → Option (List ℕ) → Option (List ℕ) → FileFault → Type 0
IsListCause with_frames before after (Listing fault) =
    HasStoppedAtRow with_frames before after fault × (fault ≢ listing_fault.Write) × (fault ≢ listing_fault.Memory)
IsListCause with_frames before after other = IsReadCause other × (after ≡ before)

-- a list of the steps in one file fails for this cause
abbrev pub IsListFault : Bool → Option (List ℕ) → Option (List ℕ) → ReportFault → Type 0
IsListFault with_frames before after (File file cause) = (file ≡ 0) × IsListCause with_frames before after cause
IsListFault with_frames before after (Sites fault) = ⊥
IsListFault with_frames before after Write = HasStoppedAtRow with_frames before after listing_fault.Write
IsListFault with_frames before after Memory = (after ≡ before) ⊎ HasStoppedAtRow with_frames before after listing_fault.Memory
