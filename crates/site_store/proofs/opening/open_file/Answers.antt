use Rattle.std.proofs.Common.{◌≡◌, Result, Ok, Err, IfOk, sym, ap, subst, ◌∙◌}
use Rattle.sqlite.specs.Effect.{Database}
use Rattle.sqlite.specs.Files.{HoldsDatabase, file_state}
use Rattle.sqlite.specs.State.{HasCleanDisk}
use Rattle.sqlite.specs.Tree.{Trees}
use Rattle.sqlite.specs.WalFiles.{image_at}
use Rattle.site_store.specs.Steps.{Lists}
use Rattle.site_store.proofs.opening.open_file.Goals as goal

-- what holds of the value that is returned holds of the result
of_same : {A B : Type 0} (r : Result A B) (x : A) (P : A → Type 0) → P x → IfOk r (λ it. it ≡ x) → IfOk r P
of_same (Ok it) x P p same = subst P (sym same) p
of_same (Err fault) x P p same = tt

-- so does what follows of two facts
of_both : {A B : Type 0} (r : Result A B) (P Q S : A → Type 0) → ((it : A) → P it → Q it → S it) → IfOk r P → IfOk r Q → IfOk r S
of_both (Ok it) P Q S f p q = f it p q
of_both (Err fault) P Q S f p q = tt

pub returns-in-Ok-clause-finds : goal.returns-in-Ok-clause-finds
returns-in-Ok-clause-finds g c = of_same c.with_shape.result c.in-Ok.conn _ c.in-Ok.ensures.found c.with_shape.ensures.same

pub returns-in-Ok-clause-opened : goal.returns-in-Ok-clause-opened
returns-in-Ok-clause-opened g c = of_same c.with_shape.result c.in-Ok.conn _ (λ clean. (c.in-Ok.ensures.opened clean).0) c.with_shape.ensures.same

pub returns-in-Ok-clause-sums : goal.returns-in-Ok-clause-sums
returns-in-Ok-clause-sums g c = of_same c.with_shape.result c.in-Ok.conn _ c.in-Ok.ensures.sums c.with_shape.ensures.same

pub returns-in-Ok-clause-holds : goal.returns-in-Ok-clause-holds
returns-in-Ok-clause-holds g c store = of_both c.with_shape.result _ _ _
    (λ it schema held clean db first rows holds lists. record { schema = schema; rows = subst (λ listed. Lists listed first rows) (held clean db holds) lists })
    (c.with_shape.ensures.store store)
    (of_same c.with_shape.result c.in-Ok.conn (λ it. HasCleanDisk (file_state it) → (db : Trees) → HoldsDatabase (image_at g.S.Start) db → db 0 ≡ (file_state it).now.trees 0)
    (λ clean db holds. sym (ap (λ (d : Database). d.trees 0) (c.in-Ok.ensures.opened clean).0.clean ∙ ap (λ (t : Trees). t 0) ((c.in-Ok.ensures.found clean).holds db holds)))
    c.with_shape.ensures.same)

pub returns-in-Ok-clause-store : goal.returns-in-Ok-clause-store
returns-in-Ok-clause-store g c = c.with_shape.ensures.store

pub returns-in-Ok-clause-blank : goal.returns-in-Ok-clause-blank
returns-in-Ok-clause-blank g c = c.with_shape.ensures.blank
