-- What a store that keeps rows has before and after a statement.
use Rattle.std.proofs.Common.{◌≡◌, ◌⊎◌, inl, inr, ⊎_elim, ℕ, ◌+◌, ◌++◌, length, List, [], ◌∷◌, Ok, Err, Result, OnOk, IsTrue, sym, subst, ◌∙◌, arith, length-append}
use Rattle.std.proofs.lemmas.List.Sorted.{IsPermutation-refl}
use Rattle.sqlite.specs.Order.{Row}
use Rattle.sqlite.specs.Schema.{Schema}
use Rattle.sqlite.specs.Tree.{Trees}
use Rattle.sqlite.specs.declared.error.Error.{Error}
use Rattle.sqlite.specs.State.{State, Executes}
use Rattle.stored_steps.specs.Stored.{Stored}
use Rattle.site_store.specs.Kept.{HoldsAll, ListsAll}
use Rattle.site_store.specs.Steps.{Holds, IsIdle, IsInside, IsStoreSchema, LeavesOnly, Lists, kept_schema, step_schema}
use Rattle.site_store.proofs.InsideLemmas.{inside_of}
use Rattle.site_store.proofs.KeptLemmas.{lists_copied}
use Rattle.site_store.proofs.MoveLemmas.{copies, copy_text, deletes, delete_text, keeps, keep_text}

pub kept_made : (old new : State) (r : Result ℕ Error) → old.now.schema ≡ step_schema → Executes keep_text [] old new r
    → OnOk r ((new.now.schema ≡ kept_schema) × (new.now.trees 0 ≡ old.now.trees 0) × (new.now.trees 1 ≡ []))
kept_made old new (Err e) has ran = tt
kept_made old new (Ok count) has ran = let it = (keeps old new count has ran).0 in (it.schema, it.steps, it.empty)

pub kept_idle : (old new : State) (r : Result ℕ Error) → old.now.schema ≡ step_schema → IsIdle old → Executes keep_text [] old new r → OnOk r (IsIdle new)
kept_idle old new (Err e) has idle ran = tt
kept_idle old new (Ok count) has idle ran =
    let shown = (keeps old new count has ran).1 in
    let outside = idle.outside in
    record { is_open = shown.is_open; outside = shown.mode ∙ outside; committed = rw outside at shown.committed_is }

pub copied_inside : (old new : State) (r : Result ℕ Error) → IsTrue old.in_transaction → old.now.schema ≡ kept_schema → Executes copy_text [] old new r
    → OnOk r (IsInside old new × (new.now.schema ≡ kept_schema) × (new.now.trees 0 ≡ old.now.trees 0))
copied_inside old new (Err e) inside has ran = tt
copied_inside old new (Ok count) inside has ran =
    let it = copies old new count has ran in
    (inside_of old new inside it.1, it.0.schema, it.0.steps)

pub copied_kept : (old new : State) (first : ℕ) (kept list : List Stored) (r : Result ℕ Error) → old.now.schema ≡ kept_schema → ListsAll old.now.trees first kept list → Executes copy_text [] old new r
    → OnOk r (Lists (new.now.trees 1) first (kept ++ list))
copied_kept old new first kept list (Err e) has all ran = tt
copied_kept old new first kept list (Ok count) has all ran =
    let it = (copies old new count has ran).0 in
    let put = it.copies (first + length kept) list all.list_are in
    subst (λ (rows : List Row). Lists rows first (kept ++ list)) (sym put.1) (lists_copied (old.now.trees 1) (old.now.trees 0) it.rows first kept list all.kept_are all.list_are it.are put.0)

pub deleted_inside : (old new : State) (first : ℕ) (list : List Stored) (r : Result ℕ Error) → IsTrue old.in_transaction → old.now.schema ≡ kept_schema → Lists (old.now.trees 0) first list → Executes delete_text [] old new r
    → OnOk r (IsInside old new × (new.now.schema ≡ kept_schema) × (new.now.trees 0 ≡ []) × (new.now.trees 1 ≡ old.now.trees 1))
deleted_inside old new first list (Err e) inside has lists ran = tt
deleted_inside old new first list (Ok count) inside has lists ran =
    let it = deletes old new count has ran in
    (inside_of old new inside it.1, it.0.schema, it.0.steps first list lists, it.0.kept)

-- a table without rows lists no steps
pub no_rows : (rows : List Row) (at : ℕ) → rows ≡ [] → Lists rows at []
no_rows rows at none = subst (λ (all : List Row). Lists all at []) (sym none) (IsPermutation-refl [])

-- a store that begins to keep rows
pub all_begun : (old new : State) (first : ℕ) (list : List Stored) → Holds old first list → new.now.schema ≡ kept_schema → new.now.trees 0 ≡ old.now.trees 0 → new.now.trees 1 ≡ [] → HoldsAll new first [] list
all_begun old new first list holds schema steps empty = record {
  schema = schema;
  all = record { kept_are = no_rows (new.now.trees 1) first empty; list_are = at_start first list (new.now.trees 0) (subst (λ (rows : List Row). Lists rows first list) (sym steps) holds.rows) };
}
  where
    at_start : (first : ℕ) (list : List Stored) (rows : List Row) → Lists rows first list → Lists rows (first + 0) list
    at_start first list rows lists = let same : first ≡ first + 0 = omega arith in subst (λ (n : ℕ). Lists rows n list) same lists

-- a crash leaves the steps that it left before
pub still_leaves : (old new : State) (first : ℕ) (list : List Stored) → Holds old first list → LeavesOnly old first list → ((db : Trees) → new.may_leave db → old.may_leave db ⊎ (db 0 ≡ old.now.trees 0)) → LeavesOnly new first list
still_leaves old new first list holds leaves crash db may =
    ⊎_elim (λ was. leaves db was) (λ same. subst (λ (rows : List Row). Lists rows first list) (sym same) holds.rows) (crash db may)

-- no step is left in a store that keeps rows
pub none_held : (s : State) (at : ℕ) → s.now.schema ≡ kept_schema → s.now.trees 0 ≡ [] → Holds s at []
none_held s at schema none = record { schema = inr schema; rows = no_rows (s.now.trees 0) at none }

-- a base alone stands in a store that keeps rows
pub base_alone : (s : State) (first at : ℕ) (kept list : List Stored) (base : Stored) → s.now.schema ≡ kept_schema → Lists (s.now.trees 1) first (kept ++ list) → Holds s at (base ∷ []) → at ≡ first + length kept + length list
    → HoldsAll s first (kept ++ list) (base ∷ [])
base_alone s first at kept list base schema lists holds place = record {
  schema = schema;
  all = record { kept_are = lists; list_are = subst (λ (n : ℕ). Lists (s.now.trees 0) n (base ∷ [])) (omega (arith, length-append kept list, place)) holds.rows };
}

-- a schema of a store that keeps no rows
pub bare_schema : (schema : Schema) → IsStoreSchema schema → (schema ≡ kept_schema → ⊥) → schema ≡ step_schema
bare_schema schema (inl is) differs = is
bare_schema schema (inr is) differs = absurd (differs is)

-- what follows at Ok
pub on_ok : {A B : Type 0} (r : Result A B) (P Q : Type 0) → (P → Q) → OnOk r P → OnOk r Q
on_ok (Ok it) P Q f p = f p
on_ok (Err fault) P Q f p = tt

pub both_ok : {A B : Type 0} (r : Result A B) (P Q S : Type 0) → (P → Q → S) → OnOk r P → OnOk r Q → OnOk r S
both_ok (Ok it) P Q S f p q = f p q
both_ok (Err fault) P Q S f p q = tt
