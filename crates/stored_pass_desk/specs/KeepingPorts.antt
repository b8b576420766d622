-- What a port does that drops the journal's steps where the journal is full (this project's own).
use Rattle.std.specs.Prelude.{◌≡◌, ◌⊎◌, Option}
use Rattle.site_journal.specs.declared.desk_fault.DeskFault.{DeskFault}
use Rattle.site_journal.specs.declared.desk_fault.DeskFault.TheVariants.{JournalFull, Memory, Unsaved}
use Rattle.site_journal.specs.declared.receipt.Receipt.{Receipt}
use Rattle.stored_pass_desk.specs.declared.keeping_port.KeepingPort.{KeepingPort}

-- the port that a keeping port calls
abbrev pub inner_port : {P U : Type 0} → KeepingPort P U → P
inner_port port = port.port

-- the fault of the last call of a keeping port, if it had one
abbrev pub kept_fault : {P U : Type 0} → KeepingPort P U → Option DeskFault
kept_fault port = port.fault

-- a port makes the step of `receipt`: at its first call, or at a second one after it found its journal full
abbrev pub MakesAtLast : {P : Type 0} → (P → Receipt → P → Type 0) → (P → DeskFault → P → Type 0) → P → Receipt → P → Type 0
MakesAtLast {P} Makes Refuses old receipt new = Makes old receipt new ⊎ ((full : P) × Refuses old JournalFull full × Makes full receipt new)

-- a port refuses a step for `fault`: at its first call; or it found its journal full, and refuses a second call, or the steps can't be dropped
abbrev pub RefusesAtLast : {P : Type 0} → (P → DeskFault → P → Type 0) → P → DeskFault → P → Type 0
RefusesAtLast {P} Refuses old fault new = Refuses old fault new ⊎ ((full : P) × Refuses old JournalFull full
    × (Refuses full fault new ⊎ (((fault ≡ Unsaved) ⊎ (fault ≡ Memory)) × (new ≡ full))))
