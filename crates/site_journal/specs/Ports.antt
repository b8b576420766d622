-- The effects of ports, call by call.
use Rattle.std.specs.Prelude.{◌≡◌, ◌⊎◌, List, [], ◌∷◌, Option, Some, None}
use Rattle.site_journal.specs.declared.desk_fault.DeskFault.{DeskFault}
use Rattle.site_journal.specs.declared.desk_fault.DeskFault.TheVariants.{Memory}
use Rattle.site_journal.specs.declared.receipt.Receipt.{Receipt}

-- a port whose calls have the effect `Makes` goes from state `p` to `q` by calls that return these receipts in order
abbrev pub PortRun : {P : Type 0} → (P → Receipt → P → Type 0) → P → List Receipt → P → Type 0
PortRun Makes p [] q = p ≡ q
PortRun {P = P} Makes p (receipt ∷ receipts) q = (next : P) × Makes p receipt next × PortRun Makes next receipts q

-- a port refuses a call for the fault `fault`, which leads it from state `p` to `q`; or the call isn't made, as out of memory
abbrev pub PortStop : {P : Type 0} → (P → DeskFault → P → Type 0) → P → DeskFault → P → Type 0
PortStop Refuses p fault q = Refuses p fault q ⊎ ((fault ≡ Memory) × (p ≡ q))

-- a port makes the steps of the receipts, one after another, and then stops for a fault, if there
-- is one; this leads it from state `p` to `q`
abbrev pub PortWork : {P : Type 0} → (P → Receipt → P → Type 0) → (P → DeskFault → P → Type 0) → P → List Receipt → Option DeskFault → P → Type 0
PortWork Makes Refuses p receipts None q = PortRun Makes p receipts q
PortWork {P = P} Makes Refuses p receipts (Some fault) q = (between : P) × PortRun Makes p receipts between × PortStop Refuses between fault q
