-- Works that a port does, one after another.
use Rattle.std.proofs.Common.{List, [], ◌∷◌, ◌++◌, Option, refl, subst, sym}
use Rattle.site_journal.specs.Ports.{PortWork}
use Rattle.site_journal.specs.declared.desk_fault.DeskFault.{DeskFault}
use Rattle.site_journal.specs.declared.receipt.Receipt.{Receipt}
use Rattle.site_peers.specs.Turns.{WorksInTurn}

-- one more work
pub one_more : {P : Type 0} (Makes : P → Receipt → P → Type 0) (Refuses : P → DeskFault → P → Type 0) (works : List (List Receipt × Option DeskFault)) (receipts : List Receipt) (fault : Option DeskFault) (p q r : P)
    → WorksInTurn Makes Refuses p works q → PortWork Makes Refuses q receipts fault r → WorksInTurn Makes Refuses p (works ++ (receipts, fault) ∷ []) r
one_more Makes Refuses [] receipts fault p q r turns work = (r, subst (λ x. PortWork Makes Refuses x receipts fault r) (sym turns) work, refl)
one_more Makes Refuses (first ∷ works) receipts fault p q r turns work = (turns.0, turns.1, one_more Makes Refuses works receipts fault turns.0 q r turns.2 work)

-- works, and then others
pub works_on : {P : Type 0} (Makes : P → Receipt → P → Type 0) (Refuses : P → DeskFault → P → Type 0) (works others : List (List Receipt × Option DeskFault)) (p q r : P)
    → WorksInTurn Makes Refuses p works q → WorksInTurn Makes Refuses q others r → WorksInTurn Makes Refuses p (works ++ others) r
works_on Makes Refuses [] others p q r turns more = subst (λ x. WorksInTurn Makes Refuses x others r) (sym turns) more
works_on Makes Refuses (first ∷ works) others p q r turns more = (turns.0, turns.1, works_on Makes Refuses works others turns.0 q r turns.2 more)
