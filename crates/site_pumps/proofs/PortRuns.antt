-- How far a port has come.
use Rattle.std.proofs.Common.{◌≡◌, inl, inr, List, [], ◌∷◌, ◌++◌, Some, Result, Ok, Err, IfErr, OnErr, OnOk, refl, sym, subst}
use Rattle.site_journal.specs.Ports.{PortRun, PortWork}
use Rattle.site_journal.specs.declared.desk_fault.DeskFault.{DeskFault}
use Rattle.site_journal.specs.declared.desk_fault.DeskFault.TheVariants.{Memory}
use Rattle.site_journal.specs.declared.receipt.Receipt.{Receipt}

-- no step
pub run_none : {P : Type 0} (Makes : P → Receipt → P → Type 0) (port : P) (receipts : List Receipt) → receipts ≡ [] → PortRun Makes port receipts port
run_none Makes port receipts none = subst (λ l. PortRun Makes port l port) (sym none) refl

-- the same receipts
pub run_same : {P : Type 0} (Makes : P → Receipt → P → Type 0) (start port : P) (receipts all : List Receipt) → all ≡ receipts → PortRun Makes start receipts port → PortRun Makes start all port
run_same Makes start port receipts all same run = subst (λ l. PortRun Makes start l port) (sym same) run

behind : {P : Type 0} (Makes : P → Receipt → P → Type 0) (start port next : P) (receipts : List Receipt) (receipt : Receipt) → PortRun Makes start receipts port → Makes port receipt next → PortRun Makes start (receipts ++ receipt ∷ []) next
behind Makes start port next [] receipt run made = (next, subst (λ x. Makes x receipt next) (sym run) made, refl)
behind Makes start port next (first ∷ receipts) receipt run made = (run.0, run.1, behind Makes run.0 port next receipts receipt run.2 made)

-- one step more, whose receipt stands behind those before it
pub run_more : {P : Type 0} (Makes : P → Receipt → P → Type 0) (start port next : P) (receipts room all : List Receipt) (receipt : Receipt) → all ≡ room ++ receipt ∷ [] → room ≡ receipts → PortRun Makes start receipts port → Makes port receipt next → PortRun Makes start all next
run_more Makes start port next receipts room all receipt is same run made = run_same Makes start next _ all is (behind Makes start port next room receipt (run_same Makes start port receipts room same run) made)

-- a port that refuses a call
pub work_refused : {P : Type 0} (Makes : P → Receipt → P → Type 0) (Refuses : P → DeskFault → P → Type 0) (start port next : P) (receipts : List Receipt) (cause : DeskFault) → PortRun Makes start receipts port → Refuses port cause next → PortWork Makes Refuses start receipts (Some cause) next
work_refused Makes Refuses start port next receipts cause run refused = (port, run, inl refused)

-- a port that isn't called, when out of memory
pub work_stopped : {P : Type 0} (Makes : P → Receipt → P → Type 0) (Refuses : P → DeskFault → P → Type 0) (start port : P) (receipts : List Receipt) (cause : DeskFault) → cause ≡ Memory → PortRun Makes start receipts port → PortWork Makes Refuses start receipts (Some cause) port
work_stopped Makes Refuses start port receipts cause memory run = (port, run, inr (memory, refl))

-- a property of each fault, where the one fault is out of memory
pub if_memory : {T : Type 0} (result : Result T DeskFault) (Q : DeskFault → Type 0) → IfErr result (λ cause. cause ≡ Memory) → ((cause : DeskFault) → cause ≡ Memory → Q cause) → IfErr result Q
if_memory (Ok x) Q memory then = tt
if_memory (Err cause) Q memory then = then cause memory

-- what a fault has stopped
pub if_fault : {T : Type 0} (result : Result T DeskFault) (P Q : DeskFault → Type 0) → ((cause : DeskFault) → P cause → Q cause) → IfErr result P → IfErr result Q
if_fault (Ok x) P Q then is = tt
if_fault (Err cause) P Q then is = then cause is

-- what a fault has stopped, of which two things stand
pub both_faults : {T : Type 0} (result : Result T DeskFault) (P Q S : DeskFault → Type 0) → ((cause : DeskFault) → P cause → Q cause → S cause) → IfErr result P → IfErr result Q → IfErr result S
both_faults (Ok x) P Q S then one other = tt
both_faults (Err cause) P Q S then one other = then cause one other

-- what stands of each fault
pub each_fault : {T : Type 0} (result : Result T DeskFault) (Q : DeskFault → Type 0) → ((cause : DeskFault) → Q cause) → IfErr result Q
each_fault (Ok x) Q each = tt
each_fault (Err cause) Q each = each cause

-- what stands where there is no fault, and where there is one
pub either_way : {T E P Q S : Type 0} (result : Result T E) → OnOk result P → OnErr result Q → (P → S) → (Q → S) → S
either_way (Ok x) done failed well ill = well done
either_way (Err e) done failed well ill = ill failed

-- what stands whatever came of it
pub whatever : {T E Q : Type 0} (result : Result T E) → Q → OnOk result Q
whatever (Ok x) is = is
whatever (Err e) is = tt
