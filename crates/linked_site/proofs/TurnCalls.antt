-- Works of a port in turn.
use Rattle.std.proofs.Common.{List, [], ◌∷◌, Option, subst}
use Rattle.site_journal.specs.declared.desk_fault.DeskFault.{DeskFault}
use Rattle.site_journal.specs.declared.receipt.Receipt.{Receipt}
use Rattle.site_pumps.specs.Calls.{HasCalled}
use Rattle.site_pumps.proofs.Calling.{called_none, called_then, called_work}
use Rattle.site_peers.specs.Turns.{WorksInTurn}

-- works in turn are calls
pub turns_called : {P : Type 0} (Makes : P → Receipt → P → Type 0) (Refuses : P → DeskFault → P → Type 0) (works : List (List Receipt × Option DeskFault)) (p q : P)
    → WorksInTurn Makes Refuses p works q → HasCalled Makes Refuses p q
turns_called Makes Refuses [] p q turns = subst (λ x. HasCalled Makes Refuses p x) turns (called_none Makes Refuses p)
turns_called Makes Refuses (work ∷ works) p q turns =
    called_then Makes Refuses p turns.0 q (called_work Makes Refuses p turns.0 work.0 work.1 turns.1) (turns_called Makes Refuses works turns.0 q turns.2)
