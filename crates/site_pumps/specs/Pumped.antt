-- What a pump has done that receives (this project's own).
use Rattle.std.specs.Prelude.{ℕ, ◌≡◌, ◌+◌, List, ◌++◌, Option, length}
use Rattle.site_journal.specs.Ports.{PortWork}
use Rattle.site_journal.specs.declared.desk_fault.DeskFault.{DeskFault}
use Rattle.site_journal.specs.declared.receipt.Receipt.{Receipt}
use Rattle.site_pumps.specs.Deeds.{AreTakes}
use Rattle.site_pumps.specs.Inlets.{InletWork}

-- a pump has led its port, inlet and sink from the states `p`, `i` and `k` to `q`, `j` and `m`: the port
-- took `items`, one after another, and the sink was handed the receipts; then came `refused`, which the
-- port refused for the fault, or the inlet's end, or another fault
pub record HasPumpedIn {P I K : Type 0} (Makes : P → Receipt → P → Type 0) (Refuses : P → DeskFault → P → Type 0) (share : P → ℕ) (Gives : I → List ℕ → I → Type 0) (Ends : I → I → Type 0) (Holds : K → List Receipt → Type 0)
    (p q : P) (i j : I) (k m : K) (refused : List (List ℕ)) (fault : Option DeskFault) : Type 0 where
  pub receipts : List Receipt
  pub items : List (List ℕ)
  pub takes : AreTakes items receipts
  pub came : InletWork Gives Ends i (items ++ refused) fault j
  pub work : PortWork Makes Refuses p receipts fault q
  pub counted : share q ≡ share p + length receipts
  pub held : (before : List Receipt) → Holds k before → Holds m (before ++ receipts)
