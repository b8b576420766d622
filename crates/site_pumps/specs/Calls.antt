-- What calls of a port do, one after another (this project's own).
use Rattle.std.specs.Prelude.{◌≡◌, List, [], ◌∷◌, Result, Ok, Err}
use Rattle.site_journal.specs.declared.desk_fault.DeskFault.{DeskFault}
use Rattle.site_journal.specs.declared.receipt.Receipt.{Receipt}

-- calls that answer these receipts and faults, one after another, lead a port from state `p` to `q`
abbrev pub CallRun : {P : Type 0} → (P → Receipt → P → Type 0) → (P → DeskFault → P → Type 0) → P → List (Result Receipt DeskFault) → P → Type 0
CallRun Makes Refuses p [] q = p ≡ q
CallRun {P = P} Makes Refuses p (Ok receipt ∷ calls) q = (next : P) × Makes p receipt next × CallRun Makes Refuses next calls q
CallRun {P = P} Makes Refuses p (Err fault ∷ calls) q = (next : P) × Refuses p fault next × CallRun Makes Refuses next calls q

-- calls lead a port from state `p` to `q`
pub record HasCalled {P : Type 0} (Makes : P → Receipt → P → Type 0) (Refuses : P → DeskFault → P → Type 0) (p q : P) : Type 0 where
  pub calls : List (Result Receipt DeskFault)
  pub run : CallRun Makes Refuses p calls q

-- `Keeps` holds of a port's states before and after each call
pub record EachCallKeeps {P : Type 0} (Makes : P → Receipt → P → Type 0) (Refuses : P → DeskFault → P → Type 0) (Keeps : P → P → Type 0) : Type 0 where
  pub receipt : (p q : P) (receipt : Receipt) → Makes p receipt q → Keeps p q
  pub fault : (p q : P) (fault : DeskFault) → Refuses p fault q → Keeps p q
