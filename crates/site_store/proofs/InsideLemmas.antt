-- The statements that replace all steps, within a transaction.
use Rattle.std.proofs.Common.{◌≡◌, ℕ, Bool, not, refl, [], false, true, Ok, Err, Result, OnOk, IsTrue, sym, subst, ◌∙◌, if◌then◌else◌}
use Rattle.sqlite.specs.declared.error.Error.{Error}
use Rattle.sqlite.specs.State.{State, Executes, Shows}
use Rattle.site_store.specs.Steps.{Holds, IsInside, no_schema, step_schema}
use Rattle.site_store.proofs.StepLemmas.{creates, create_shows, create_text, drops, drop_shows, drop_text}

-- what a statement shows within a transaction
pub inside_of : (old new : State) → IsTrue old.in_transaction → Shows old new new.now (if old.in_transaction then old.committed else new.now) old.in_transaction → IsInside old new
inside_of old new inside shown = record { mode = subst IsTrue (sym shown.mode) inside; is_open = shown.is_open; committed = rw inside at shown.committed_is }

pub dropped_inside : (old new : State) (r : Result ℕ Error) → IsTrue old.in_transaction → old.now.schema ≡ step_schema → Executes drop_text [] old new r → OnOk r (IsInside old new × new.now.schema ≡ no_schema)
dropped_inside old new (Err e) inside has ran = tt
dropped_inside old new (Ok count) inside has ran = (inside_of old new inside (drop_shows old new count has ran), drops old new count has ran)

-- no rows are listed from any position on
made_at : (s : State) (at : ℕ) → Holds s 0 [] → Holds s at []
made_at s at holds = record { schema = holds.schema; rows = holds.rows }

pub made_inside : (old new : State) (at : ℕ) (r : Result ℕ Error) → IsTrue old.in_transaction → old.now.schema ≡ no_schema → Executes create_text [] old new r → OnOk r (IsInside old new × (new.now.schema ≡ step_schema) × Holds new at [])
made_inside old new at (Err e) inside has ran = tt
made_inside old new at (Ok count) inside has ran =
    let made = creates old new (Ok count) has ran in
    (inside_of old new inside (create_shows old new count has ran), made.0, made_at new at made.1)

-- within a transaction no statement commits that commits outside one alone
pub not_outside : (s : State) → IsTrue s.in_transaction → s.in_transaction ≡ false → ⊥
not_outside s inside outside = let both : true ≡ false = sym inside ∙ outside in cc

-- outside a transaction, by the test for it
pub is_outside : (autocommit in_transaction : Bool) → IsTrue autocommit → autocommit ≡ not in_transaction → in_transaction ≡ false
is_outside autocommit false passed same = refl
is_outside autocommit true passed same = absurd (let both : true ≡ false = sym passed ∙ same in cc)
