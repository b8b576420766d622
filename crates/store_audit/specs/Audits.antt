-- The script that explains the stores of all sites.
use Rattle.std.specs.Prelude.{ℕ, ◌≡◌, ◌≤◌, ◌⊎◌, ◌++◌, List, length, Option, Some, slice_get, count_by}
use Rattle.std.specs.Io.KnownBytes.{Appends}
use Rattle.std.specs.List.{All}
use Rattle.ami_text.specs.Devices.{HasTaken}
use Rattle.ami_text.specs.Lines.{lines_text}
use Rattle.dots.specs.declared.limits.TheConstants.{SITES}
use Rattle.event_script.specs.Comments.{IsComment}
use Rattle.event_script.specs.Lines.{HasLimits, is_unsaid, script_of}
use Rattle.site_audit.specs.Runs.{AreSites, IsRun, IsStuck}
use Rattle.site_journal.specs.Journals.{JournalState}
use Rattle.sites_world.specs.declared.event.Event.{Event}
use Rattle.store_audit.specs.declared.audit_end.AuditEnd.{AuditEnd}
use Rattle.store_audit.specs.declared.audit_end.AuditEnd.TheVariants.{Explained, Stuck}
use Rattle.store_audit.specs.declared.splitting.Parts.{Parts}
use Rattle.store_audit.specs.declared.store_audit_fault.StoreAuditFault.{StoreAuditFault}
use Rattle.store_audit.specs.declared.store_audit_fault.StoreAuditFault.TheVariants.{Doubled, Missing, OtherQueues, Write, Memory}
use Rattle.store_audit.specs.declared.store_journal.StoreJournal.{StoreJournal}
use Rattle.store_audit.specs.Headings.{heading_lines}
use Rattle.store_audit.specs.Stores.{AreInOrder, IsOrderCause, IsRowAt, journals_of}

-- stores in the order of their sites are those of the sites 0, 1, .. with one list of queues, 64 at most
pub record AreAllSites (stores sorted : List StoreJournal) : Type 0 where
  pub order : AreInOrder stores sorted
  pub sites : AreSites (journals_of sorted)
  pub few : length sorted ≤ SITES

-- the heading of stores, each line of which is a comment, and behind it the script of events were written
pub record IsWritten (sorted : List StoreJournal) (events : List Event) (before after : Option (List ℕ)) : Type 0 where
  pub comments : All IsComment (heading_lines sorted)
  pub limits : All HasLimits events
  pub taken : Appends before after (lines_text (heading_lines sorted) ++ script_of events)

-- The events that were written are one run of the journals of all stores. No line of the script says `unsaid` of them.
pub record IsExplained (stores : List StoreJournal) (unsaid : ℕ) (before after : Option (List ℕ)) : Type 0 where
  pub sorted : List StoreJournal
  pub all : AreAllSites stores sorted
  pub events : List Event
  pub run : IsRun (journals_of sorted) events
  pub counted : unsaid ≡ count_by is_unsaid events
  pub written : IsWritten sorted events before after

-- The events that were written are stuck at the step of `site` whose row has this position in its store.
pub record IsStuckThere (stores : List StoreJournal) (site position : ℕ) (before after : Option (List ℕ)) : Type 0 where
  pub sorted : List StoreJournal
  pub all : AreAllSites stores sorted
  pub events : List Event
  pub store : StoreJournal
  pub is : slice_get sorted site ≡ Some store
  pub place : ℕ
  pub row : slice_get store.positions.items place ≡ Some position
  pub stuck : IsStuck (journals_of sorted) site place events
  pub written : IsWritten sorted events before after

-- the events of stores were written: they explain all stores, or are stuck at a step
abbrev pub IsEndOf : List StoreJournal → Option (List ℕ) → Option (List ℕ) → AuditEnd → Type 0
IsEndOf stores before after (Explained unsaid) = IsExplained stores unsaid before after
IsEndOf stores before after (Stuck site position words) = IsStuckThere stores site position before after

-- the events of stores in the order of their sites were written: they explain all, or are stuck at a step
abbrev pub IsEndSorted : List StoreJournal → Option (List ℕ) → Option (List ℕ) → AuditEnd → Type 0
IsEndSorted sorted before after end = (stores : List StoreJournal) → AreInOrder stores sorted → IsEndOf stores before after end

-- stores aren't those of all sites for this cause, and nothing was written
pub record AreRefused (stores : List StoreJournal) (fault : StoreAuditFault) (before after : Option (List ℕ)) : Type 0 where
  pub sorted : List StoreJournal
  pub order : AreInOrder stores sorted
  pub cause : IsOrderCause sorted fault
  pub unwritten : after ≡ before

-- events of journals are one run of them, or are stuck
abbrev pub AreOfJournals : List JournalState → List Event → Type 0
AreOfJournals journals events = IsRun journals events ⊎ ((site : ℕ) × (place : ℕ) × IsStuck journals site place events)

-- the stores are those of all sites, and nothing was written
pub record AreUnwritten (stores : List StoreJournal) (before after : Option (List ℕ)) : Type 0 where
  pub sorted : List StoreJournal
  pub all : AreAllSites stores sorted
  pub unwritten : after ≡ before

-- a prefix of the heading of stores and the script of their events was written
pub record IsBegun (stores : List StoreJournal) (before after : Option (List ℕ)) : Type 0 where
  pub sorted : List StoreJournal
  pub all : AreAllSites stores sorted
  pub events : List Event
  pub of : AreOfJournals (journals_of sorted) events
  pub taken : HasTaken before after (lines_text (heading_lines sorted) ++ script_of events)

-- an audit of stores fails for this cause, and this was written: by the writer, a prefix; out of memory, that or nothing
abbrev pub IsAuditCause : List StoreJournal → Option (List ℕ) → Option (List ℕ) → StoreAuditFault → Type 0
IsAuditCause stores before after (Doubled site) = AreRefused stores (Doubled site) before after
IsAuditCause stores before after (Missing site) = AreRefused stores (Missing site) before after
IsAuditCause stores before after (OtherQueues site) = AreRefused stores (OtherQueues site) before after
IsAuditCause stores before after Write = IsBegun stores before after
IsAuditCause stores before after Memory = AreUnwritten stores before after ⊎ IsBegun stores before after

-- an audit of stores in the order of their sites fails for this cause
abbrev pub IsSortedCause : List StoreJournal → Option (List ℕ) → Option (List ℕ) → StoreAuditFault → Type 0
IsSortedCause sorted before after fault = (stores : List StoreJournal) → AreInOrder stores sorted → IsAuditCause stores before after fault

-- ---- parts

-- a heading and the script of one run of journals were written
pub record WritesRun (parts : Parts) (heading : List ℕ) (unsaid : ℕ) (before after : Option (List ℕ)) : Type 0 where
  pub events : List Event
  pub run : IsRun parts.journals.items events
  pub counted : unsaid ≡ count_by is_unsaid events
  pub limits : All HasLimits events
  pub taken : Appends before after (heading ++ script_of events)

-- a heading and the script of events that are stuck were written
pub record WritesStuck (parts : Parts) (heading : List ℕ) (site position : ℕ) (before after : Option (List ℕ)) : Type 0 where
  pub events : List Event
  pub place : ℕ
  pub row : IsRowAt parts site place position
  pub stuck : IsStuck parts.journals.items site place events
  pub limits : All HasLimits events
  pub taken : Appends before after (heading ++ script_of events)

-- a heading and the events of journals were written: they are one run, or are stuck at a step
abbrev pub EndsAs : Parts → List ℕ → Option (List ℕ) → Option (List ℕ) → AuditEnd → Type 0
EndsAs parts heading before after (Explained unsaid) = WritesRun parts heading unsaid before after
EndsAs parts heading before after (Stuck site position words) = WritesStuck parts heading site position before after

-- a prefix of a heading and the script of events of journals was written
pub record HasBegun (parts : Parts) (heading : List ℕ) (before after : Option (List ℕ)) : Type 0 where
  pub events : List Event
  pub of : AreOfJournals parts.journals.items events
  pub taken : HasTaken before after (heading ++ script_of events)

-- an audit of journals fails for this cause, and this was written
abbrev pub IsPartsCause : Parts → List ℕ → Option (List ℕ) → Option (List ℕ) → StoreAuditFault → Type 0
IsPartsCause parts heading before after Write = HasBegun parts heading before after
IsPartsCause parts heading before after Memory = (after ≡ before) ⊎ HasBegun parts heading before after
IsPartsCause parts heading before after other = ⊥

-- an audit ends with this number of events that no line says
abbrev pub IsExplainedEnd : ℕ → AuditEnd → Type 0
IsExplainedEnd unsaid (Explained count) = count ≡ unsaid
IsExplainedEnd unsaid (Stuck site position words) = ⊥

-- an audit ends at the step at `place` of a site's journal
abbrev pub IsStuckEnd : Parts → ℕ → ℕ → AuditEnd → Type 0
IsStuckEnd parts at place (Explained count) = ⊥
IsStuckEnd parts at place (Stuck site position words) = (site ≡ at) × IsRowAt parts at place position
