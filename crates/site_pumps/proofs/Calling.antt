-- What calls of a port keep.
use Rattle.std.proofs.Common.{⊎_elim, List, [], ◌∷◌, ◌++◌, Option, Some, None, Result, Ok, Err, refl, sym, subst}
use Rattle.site_journal.specs.Ports.{PortRun, PortStop, PortWork}
use Rattle.site_journal.specs.declared.desk_fault.DeskFault.{DeskFault}
use Rattle.site_journal.specs.declared.receipt.Receipt.{Receipt}
use Rattle.site_pumps.specs.Calls.{CallRun, EachCallKeeps, HasCalled}

-- no call
pub called_none : {P : Type 0} (Makes : P → Receipt → P → Type 0) (Refuses : P → DeskFault → P → Type 0) (p : P) → HasCalled Makes Refuses p p
called_none Makes Refuses p = record { calls = []; run = refl }

-- calls, and then others
run_then : {P : Type 0} (Makes : P → Receipt → P → Type 0) (Refuses : P → DeskFault → P → Type 0) (calls more : List (Result Receipt DeskFault)) (p mid q : P)
    → CallRun Makes Refuses p calls mid → CallRun Makes Refuses mid more q → CallRun Makes Refuses p (calls ++ more) q
run_then Makes Refuses [] more p mid q run then = subst (λ x. CallRun Makes Refuses x more q) (sym run) then
run_then Makes Refuses (Ok receipt ∷ calls) more p mid q run then = (run.0, run.1, run_then Makes Refuses calls more run.0 mid q run.2 then)
run_then Makes Refuses (Err fault ∷ calls) more p mid q run then = (run.0, run.1, run_then Makes Refuses calls more run.0 mid q run.2 then)

pub called_then : {P : Type 0} (Makes : P → Receipt → P → Type 0) (Refuses : P → DeskFault → P → Type 0) (p mid q : P)
    → HasCalled Makes Refuses p mid → HasCalled Makes Refuses mid q → HasCalled Makes Refuses p q
called_then Makes Refuses p mid q first then = record { calls = first.calls ++ then.calls; run = run_then Makes Refuses first.calls then.calls p mid q first.run then.run }

-- one call
pub called_made : {P : Type 0} (Makes : P → Receipt → P → Type 0) (Refuses : P → DeskFault → P → Type 0) (p q : P) (receipt : Receipt) → Makes p receipt q → HasCalled Makes Refuses p q
called_made Makes Refuses p q receipt makes = record { calls = Ok receipt ∷ []; run = (q, makes, refl) }

pub called_refused : {P : Type 0} (Makes : P → Receipt → P → Type 0) (Refuses : P → DeskFault → P → Type 0) (p q : P) (fault : DeskFault) → Refuses p fault q → HasCalled Makes Refuses p q
called_refused Makes Refuses p q fault refuses = record { calls = Err fault ∷ []; run = (q, refuses, refl) }

-- the steps of receipts
called_run : {P : Type 0} (Makes : P → Receipt → P → Type 0) (Refuses : P → DeskFault → P → Type 0) (receipts : List Receipt) (p q : P) → PortRun Makes p receipts q → HasCalled Makes Refuses p q
called_run Makes Refuses [] p q run = subst (λ x. HasCalled Makes Refuses p x) run (called_none Makes Refuses p)
called_run Makes Refuses (receipt ∷ receipts) p q run =
    called_then Makes Refuses p run.0 q (called_made Makes Refuses p run.0 receipt run.1) (called_run Makes Refuses receipts run.0 q run.2)

called_stop : {P : Type 0} (Makes : P → Receipt → P → Type 0) (Refuses : P → DeskFault → P → Type 0) (p q : P) (fault : DeskFault) → PortStop Refuses p fault q → HasCalled Makes Refuses p q
called_stop Makes Refuses p q fault stop = ⊎_elim
    (λ (refuses : Refuses p fault q). called_refused Makes Refuses p q fault refuses)
    (λ same. subst (λ x. HasCalled Makes Refuses p x) same.1 (called_none Makes Refuses p)) stop

-- what a pump does
pub called_work : {P : Type 0} (Makes : P → Receipt → P → Type 0) (Refuses : P → DeskFault → P → Type 0) (p q : P) (receipts : List Receipt) (fault : Option DeskFault)
    → PortWork Makes Refuses p receipts fault q → HasCalled Makes Refuses p q
called_work Makes Refuses p q receipts None work = called_run Makes Refuses receipts p q work
called_work Makes Refuses p q receipts (Some fault) work =
    called_then Makes Refuses p work.0 q (called_run Makes Refuses receipts p work.0 work.1) (called_stop Makes Refuses work.0 q fault work.2)

-- what holds of each state with itself, of the first and the last of three where it holds of both steps, and of each call, holds of all calls
run_keeps : {P : Type 0} (Makes : P → Receipt → P → Type 0) (Refuses : P → DeskFault → P → Type 0) (Keeps : P → P → Type 0) → ((p : P) → Keeps p p) → ((p mid q : P) → Keeps p mid → Keeps mid q → Keeps p q)
    → EachCallKeeps Makes Refuses Keeps → (calls : List (Result Receipt DeskFault)) (p q : P) → CallRun Makes Refuses p calls q → Keeps p q
run_keeps Makes Refuses Keeps same then each [] p q run = subst (λ x. Keeps p x) run (same p)
run_keeps Makes Refuses Keeps same then each (Ok receipt ∷ calls) p q run =
    then p run.0 q (each.receipt p run.0 receipt run.1) (run_keeps Makes Refuses Keeps same then each calls run.0 q run.2)
run_keeps Makes Refuses Keeps same then each (Err fault ∷ calls) p q run =
    then p run.0 q (each.fault p run.0 fault run.1) (run_keeps Makes Refuses Keeps same then each calls run.0 q run.2)

pub calls_keep : {P : Type 0} (Makes : P → Receipt → P → Type 0) (Refuses : P → DeskFault → P → Type 0) (Keeps : P → P → Type 0) → ((p : P) → Keeps p p) → ((p mid q : P) → Keeps p mid → Keeps mid q → Keeps p q)
    → EachCallKeeps Makes Refuses Keeps → (p q : P) → HasCalled Makes Refuses p q → Keeps p q
calls_keep Makes Refuses Keeps same then each p q called = run_keeps Makes Refuses Keeps same then each called.calls p q called.run
