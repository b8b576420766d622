-- What contracts see of the port of a desk with a store.
use Rattle.std.specs.Borrow.{MutBor}
use Rattle.std.specs.Prelude.{ℕ, ◌-◌, Option}
use Rattle.site_journal.specs.declared.desk_fault.DeskFault.{DeskFault}
use Rattle.site_desk.specs.Passes.{PassState}
use Rattle.stored_desk.specs.declared.stored_port.StoredPort.{StoredPort}

-- the pass that a port has borrowed
abbrev pub lent_pass : {S L G B : Type 0} {store : _} {ledger : _} {site : _} → StoredPort S L G B store ledger site → MutBor PassState
lent_pass port = port.pass

-- the fault of the last call of a port, if that had one
abbrev pub last_fault : {S L G B : Type 0} {store : _} {ledger : _} {site : _} → StoredPort S L G B store ledger site → Option DeskFault
last_fault port = port.fault

-- how many steps the pass of a port has done for which a receipt was answered, or that it had done before
abbrev pub answered_share : {S L G B : Type 0} {store : _} {ledger : _} {site : _} → StoredPort S L G B store ledger site → ℕ
answered_share port = port.pass.now.share - port.unanswered
