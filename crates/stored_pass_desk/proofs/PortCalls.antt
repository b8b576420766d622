-- The pass of a desk's port after calls.
use Rattle.std.specs.Borrow.{MutBor}
use Rattle.std.proofs.Common.{◌≡◌, ◌∙◌, ◌⊎◌, ℕ, List, ⊎_elim, ap, inl, inr, refl}
use Rattle.replica.specs.Site.{SiteState}
use Rattle.site_journal.specs.declared.desk_fault.DeskFault.{DeskFault}
use Rattle.site_journal.specs.declared.receipt.Receipt.{Receipt}
use Rattle.site_desk.specs.Passes.{PassState}
use Rattle.site_desk.specs.Ports.{MakesByPass, RefusesByPass}
use Rattle.stored_desk.specs.Failing.{FailsUnsaved, HasDoneUnanswered}
use Rattle.stored_desk.specs.Ports.{MakesByStoredPass, RefusesByStoredPass}
use Rattle.site_pumps.specs.Calls.{EachCallKeeps, HasCalled}
use Rattle.site_pumps.proofs.Calling.{calls_keep}

-- a port has the same borrow of a pass, and the pass has its number
pub record HasSamePass (old new : MutBor PassState) : Type 0 where
  pub ordinal : new.now.ordinal ≡ old.now.ordinal
  pub same : new.ghost_name ≡ old.ghost_name

-- calls keep that where each of them does
pass_kept : {P : Type 0} (lent : P → MutBor PassState) (Makes : P → Receipt → P → Type 0) (Refuses : P → DeskFault → P → Type 0)
    → EachCallKeeps Makes Refuses (λ (p q : P). HasSamePass (lent p) (lent q)) → (p q : P) → HasCalled Makes Refuses p q → HasSamePass (lent p) (lent q)
pass_kept {P} lent Makes Refuses each p q called = calls_keep Makes Refuses (λ (x y : P). HasSamePass (lent x) (lent y))
    (λ x. record { ordinal = refl; same = refl })
    (λ x y z first then. record { ordinal = then.ordinal ∙ first.ordinal; same = then.same ∙ first.same })
    each p q called

-- calls of a port of a desk
pub desk_port_called : {P : Type 0} (lent : P → MutBor PassState) (site : ℕ) (names : List (List ℕ)) (p q : P)
    → HasCalled (λ (old : P) receipt (new : P). MakesByPass site names (lent old) receipt (lent new)) (λ (old : P) cause (new : P). RefusesByPass (lent old) cause (lent new)) p q
    → HasSamePass (lent p) (lent q)
desk_port_called {P} lent site names p q called = pass_kept lent
    (λ (old : P) receipt (new : P). MakesByPass site names (lent old) receipt (lent new))
    (λ (old : P) cause (new : P). RefusesByPass (lent old) cause (lent new))
    (record {
      receipt = λ x y receipt makes. record { ordinal = ap (λ (s : PassState). s.ordinal) makes.done.counted; same = makes.same };
      fault = λ x y fault refuses. record { ordinal = ap (λ (s : PassState). s.ordinal) refuses.unchanged; same = refuses.same };
    }) p q called

-- a step without a receipt keeps the number of the pass
pub unanswered_kept : (base : SiteState) (old new : PassState) → (new ≡ old) ⊎ HasDoneUnanswered base old new → new.ordinal ≡ old.ordinal
unanswered_kept base old new is = ⊎_elim (λ same. ap (λ (s : PassState). s.ordinal) same) (λ done. ap (λ (s : PassState). s.ordinal) done.done.counted) is

-- so does a call of a desk with a store that fails
fails_ordinal : (base : SiteState) (old new : PassState) (fault : DeskFault) → FailsUnsaved base old fault new → new.ordinal ≡ old.ordinal
fails_ordinal base old new fault fails = unanswered_kept base old new (⊎_elim (λ same. inl same) (λ done. inr done.1) fails)

-- calls of a port of a desk with a store
pub stored_port_called : {P : Type 0} (lent : P → MutBor PassState) (base : SiteState) (p q : P)
    → HasCalled (λ (old : P) receipt (new : P). MakesByStoredPass base (lent old) receipt (lent new)) (λ (old : P) cause (new : P). RefusesByStoredPass base (lent old) cause (lent new)) p q
    → HasSamePass (lent p) (lent q)
stored_port_called {P} lent base p q called = pass_kept lent
    (λ (old : P) receipt (new : P). MakesByStoredPass base (lent old) receipt (lent new))
    (λ (old : P) cause (new : P). RefusesByStoredPass base (lent old) cause (lent new))
    (record {
      receipt = λ x y receipt makes. record { ordinal = ap (λ (s : PassState). s.ordinal) makes.done.counted; same = makes.same };
      fault = λ x y fault refuses. record { ordinal = fails_ordinal base (lent x).now (lent y).now fault refuses.fails; same = refuses.same };
    }) p q called
