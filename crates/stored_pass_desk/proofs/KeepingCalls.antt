-- Calls of a port that keeps its site's journal within its limits.
use Rattle.std.proofs.Common.{◌≡◌, ⊎_elim, subst, sym}
use Rattle.site_journal.specs.declared.desk_fault.DeskFault.{DeskFault}
use Rattle.site_journal.specs.declared.desk_fault.DeskFault.TheVariants.{JournalFull}
use Rattle.site_journal.specs.declared.receipt.Receipt.{Receipt}
use Rattle.site_pumps.specs.Calls.{EachCallKeeps, HasCalled}
use Rattle.site_pumps.proofs.Calling.{called_made, called_none, called_refused, called_then, calls_keep}
use Rattle.stored_pass_desk.specs.KeepingPorts.{MakesAtLast, RefusesAtLast, inner_port}
use Rattle.stored_pass_desk.specs.declared.keeping_port.KeepingPort.{KeepingPort}

-- a call of a keeping port is one or two calls of its port
each_called : {P U : Type 0} (Makes : P → Receipt → P → Type 0) (Refuses : P → DeskFault → P → Type 0)
    → EachCallKeeps (λ (old : KeepingPort P U) receipt (new : KeepingPort P U). MakesAtLast Makes Refuses (inner_port old) receipt (inner_port new))
    (λ (old : KeepingPort P U) fault (new : KeepingPort P U). RefusesAtLast Refuses (inner_port old) fault (inner_port new))
    (λ p q. HasCalled Makes Refuses (inner_port p) (inner_port q))
each_called Makes Refuses = record {
  receipt = λ p q receipt makes. ⊎_elim
      (λ made. called_made Makes Refuses (inner_port p) (inner_port q) receipt made)
      (λ again. called_then Makes Refuses (inner_port p) again.0 (inner_port q) (called_refused Makes Refuses (inner_port p) again.0 JournalFull again.1) (called_made Makes Refuses again.0 (inner_port q) receipt again.2)) makes;
  fault = λ p q fault refuses. ⊎_elim
      (λ refused. called_refused Makes Refuses (inner_port p) (inner_port q) fault refused)
      (λ again. let full = called_refused Makes Refuses (inner_port p) again.0 JournalFull again.1 in ⊎_elim
      (λ refused. called_then Makes Refuses (inner_port p) again.0 (inner_port q) full (called_refused Makes Refuses again.0 (inner_port q) fault refused))
      (λ kept. subst (λ x. HasCalled Makes Refuses (inner_port p) x) (sym kept.1) full) again.2) refuses;
}

-- so calls of a keeping port are calls of its port
pub kept_called : {P U : Type 0} (Makes : P → Receipt → P → Type 0) (Refuses : P → DeskFault → P → Type 0) (p q : KeepingPort P U)
    → HasCalled (λ (old : KeepingPort P U) receipt (new : KeepingPort P U). MakesAtLast Makes Refuses (inner_port old) receipt (inner_port new))
    (λ (old : KeepingPort P U) fault (new : KeepingPort P U). RefusesAtLast Refuses (inner_port old) fault (inner_port new)) p q
    → HasCalled Makes Refuses (inner_port p) (inner_port q)
kept_called {P} {U} Makes Refuses p q called =
    calls_keep (λ (old : KeepingPort P U) receipt (new : KeepingPort P U). MakesAtLast Makes Refuses (inner_port old) receipt (inner_port new))
    (λ (old : KeepingPort P U) fault (new : KeepingPort P U). RefusesAtLast Refuses (inner_port old) fault (inner_port new))
    (λ p q. HasCalled Makes Refuses (inner_port p) (inner_port q))
    (λ p. called_none Makes Refuses (inner_port p))
    (λ p between q first then. called_then Makes Refuses (inner_port p) (inner_port between) (inner_port q) first then)
    (each_called Makes Refuses) p q called

-- the same, from a port to a port
pub given_back : {P U : Type 0} (Makes : P → Receipt → P → Type 0) (Refuses : P → DeskFault → P → Type 0) (before after : P) (p q : KeepingPort P U) → inner_port p ≡ before → after ≡ inner_port q
    → HasCalled (λ (old : KeepingPort P U) receipt (new : KeepingPort P U). MakesAtLast Makes Refuses (inner_port old) receipt (inner_port new))
    (λ (old : KeepingPort P U) fault (new : KeepingPort P U). RefusesAtLast Refuses (inner_port old) fault (inner_port new)) p q
    → HasCalled Makes Refuses before after
given_back Makes Refuses before after p q first last called =
    subst (λ x. HasCalled Makes Refuses x after) first (subst (λ x. HasCalled Makes Refuses (inner_port p) x) (sym last) (kept_called Makes Refuses p q called))
