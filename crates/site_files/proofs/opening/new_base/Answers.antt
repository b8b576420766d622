use Rattle.std.proofs.Common.{Result, Ok, Err, IfOk}
use Rattle.replica.specs.Deeds.{IsNew}
use Rattle.site_files.proofs.opening.new_base.Goals as goal

-- what follows of what holds at Ok
if_ok : {A B : Type 0} (r : Result A B) (P Q : A → Type 0) → ((it : A) → P it → Q it) → IfOk r P → IfOk r Q
if_ok (Ok it) P Q f p = f it p
if_ok (Err fault) P Q f p = tt

-- the base is that of the new site
pub returns : goal.returns
returns c =
    let made = c.new-replica.ensures in
    let fresh : IsNew c.new-replica.result = record { state = made.state; pending = made.pending; last_count = made.last_count; last_time = made.last_time; frames = made.frames } in
    if_ok c.row_of_base-row.result _ _ (λ row of. (c.new-replica.result, fresh, of)) c.row_of_base-row.ensures
