-- What a port does for one link after another (this project's own).
use Rattle.std.specs.Prelude.{◌≡◌, List, [], ◌∷◌, Option}
use Rattle.site_journal.specs.Ports.{PortWork}
use Rattle.site_journal.specs.declared.desk_fault.DeskFault.{DeskFault}
use Rattle.site_journal.specs.declared.receipt.Receipt.{Receipt}

-- a port does each of these works in turn: the steps of the receipts, and then a stop for the fault, if there is one
abbrev pub WorksInTurn : {P : Type 0} → (P → Receipt → P → Type 0) → (P → DeskFault → P → Type 0) → P → List (List Receipt × Option DeskFault) → P → Type 0
WorksInTurn Makes Refuses p [] q = p ≡ q
WorksInTurn {P = P} Makes Refuses p (work ∷ works) q = (next : P) × PortWork Makes Refuses p work.0 work.1 next × WorksInTurn Makes Refuses next works q
