-- What an append does to the steps that a database holds.
use Rattle.std.proofs.Common.{◌≡◌, ◌⊎◌, inl, inr, ℕ, ◌+◌, ◌++◌, length, List, [], ◌∷◌, false, true, Ok, Err, Result, OnOk, OnErr, IsTrue, sym, ap, subst, ◌∙◌}
use Rattle.sqlite.specs.Order.{Row}
use Rattle.sqlite.specs.Tree.{Trees}
use Rattle.sqlite.specs.Effect.{Database}
use Rattle.sqlite.specs.declared.error.Error.{Error}
use Rattle.sqlite.specs.State.{State, Executes, CommitsBy, IsUnchanged, IsRolledBack}
use Rattle.sqlite.proofs.InsideLemmas.{fails_whole}
use Rattle.stored_steps.specs.Stored.{Stored}
use Rattle.site_store.specs.Kept.{SparesKept}
use Rattle.site_store.specs.Steps.{Holds, IsIdle, IsStoreSchema, LeavesOnly, Lists, IsInside, step_row}
use Rattle.site_store.proofs.RowLemmas.{lists_more}
use Rattle.site_store.proofs.StepLemmas.{AddsTo, adds, commits_add, commits_outside, insert_text, params_of, stored_row}

lists_added : (old new : Database) (at first : ℕ) (s : Stored) (words : List ℕ) (list : List Stored) → AddsTo old new (stored_row at s words) → Lists (old.trees 0) first list → at ≡ first + length list
    → Lists (new.trees 0) first (list ++ s ∷ [])
lists_added old new at first s words list added lists place =
    subst (λ rows. Lists rows first (list ++ s ∷ [])) (sym added.rows)
    (lists_more (stored_row at s words) (old.trees 0) first list s added.fresh (ap (λ n. step_row n s) place) lists)

pub holds_added : (old new : State) (at first : ℕ) (s : Stored) (words : List ℕ) (list : List Stored) (r : Result ℕ Error) (params : Row) → params ≡ params_of at s words → Executes insert_text params old new r → Holds old first list → at ≡ first + length list
    → OnOk r (Holds new first (list ++ s ∷ []))
holds_added old new at first s words list (Err e) params same ran holds place = tt
holds_added old new at first s words list (Ok count) params same ran holds place =
    let added = (adds old new at s words count holds.schema (subst (λ p. Executes insert_text p old new (Ok count)) same ran)).0 in
    record { schema = subst IsStoreSchema (sym added.schema) holds.schema; rows = lists_added old.now new.now at first s words list added holds.rows place }

pub holds_same : (old new : State) (first : ℕ) (list : List Stored) → new.now ≡ old.now → Holds old first list → Holds new first list
holds_same old new first list same holds = record {
  schema = subst (λ (d : Database). IsStoreSchema d.schema) (sym same) holds.schema;
  rows = subst (λ (d : Database). Lists (d.trees 0) first list) (sym same) holds.rows;
}

pub holds_kept : (old new : State) (sql : List ℕ) (params : Row) (first : ℕ) (list : List Stored) (r : Result ℕ Error) → Executes sql params old new r → Holds old first list → old.committed ≡ old.now
    → OnErr r (IsTrue new.is_open → Holds new first list)
holds_kept old new sql params first list (Ok count) ran holds settled = tt
holds_kept old new sql params first list (Err e) ran holds settled = λ is_open. go is_open (fails_whole old new false sql params e ran)
  where
    go : IsTrue new.is_open → IsUnchanged old new ⊎ IsRolledBack old new → Holds new first list
    go is_open (inl same) = holds_same old new first list same.0.now_is holds
    go is_open (inr back) = holds_same old new first list ((back.undone is_open).0 ∙ settled) holds

-- `settled`: while it is open, a crash leaves the last commit
pub leaves_added : (old new : State) (at first : ℕ) (s : Stored) (words : List ℕ) (list : List Stored) (r : Result ℕ Error) (params : Row) → params ≡ params_of at s words → Executes insert_text params old new r → Holds old first list → at ≡ first + length list
    → old.in_transaction ≡ false → ((db : Trees) → IsTrue new.is_open → new.may_leave db → db ≡ new.committed.trees) → OnOk r (LeavesOnly new first (list ++ s ∷ []))
leaves_added old new at first s words list (Err e) params same ran holds place outside settled = tt
leaves_added old new at first s words list (Ok count) params same ran holds place outside settled =
    let all = adds old new at s words count holds.schema (subst (λ p. Executes insert_text p old new (Ok count)) same ran) in
    let committed : new.committed ≡ new.now = rw outside at all.1.committed_is in
    let lists = lists_added old.now new.now at first s words list all.0 holds.rows place in
    λ db may. subst (λ trees. Lists (trees 0) first (list ++ s ∷ [])) (sym (settled db all.1.is_open may ∙ ap (λ (d : Database). d.trees) committed)) lists

pub commits_added : (old : State) (at first : ℕ) (s : Stored) (words : List ℕ) (list : List Stored) (db : Trees) (params : Row) → params ≡ params_of at s words → Holds old first list → at ≡ first + length list → CommitsBy insert_text params old db
    → Lists (db 0) first (list ++ s ∷ [])
commits_added old at first s words list db params same holds place commits =
    let it = commits_add old at s words db holds.schema (subst (λ p. CommitsBy insert_text p old db) same commits) in
    subst (λ trees. Lists (trees 0) first (list ++ s ∷ [])) (sym it.2) (lists_added old.now it.0 at first s words list it.1 holds.rows place)

-- an append leaves the kept rows as they were
pub spares_added : (old new : State) (at : ℕ) (s : Stored) (words : List ℕ) (r : Result ℕ Error) (params : Row) → params ≡ params_of at s words → Executes insert_text params old new r → IsStoreSchema old.now.schema
    → OnOk r (SparesKept old new)
spares_added old new at s words (Err e) params same ran has = tt
spares_added old new at s words (Ok count) params same ran has =
    let added = (adds old new at s words count has (subst (λ p. Executes insert_text p old new (Ok count)) same ran)).0 in
    record { schema = added.schema; kept = added.kept }

-- an append outside a transaction leaves none open
pub idle_added : (old new : State) (at first : ℕ) (s : Stored) (words : List ℕ) (list : List Stored) (r : Result ℕ Error) (params : Row) → params ≡ params_of at s words → Executes insert_text params old new r → Holds old first list
    → old.in_transaction ≡ false → OnOk r (IsIdle new)
idle_added old new at first s words list (Err e) params same ran holds outside = tt
idle_added old new at first s words list (Ok count) params same ran holds outside =
    let shown = (adds old new at s words count holds.schema (subst (λ p. Executes insert_text p old new (Ok count)) same ran)).1 in
    let committed : new.committed ≡ new.now = rw outside at shown.committed_is in
    record { is_open = shown.is_open; outside = shown.mode ∙ outside; committed = committed }

-- ---- within a transaction

pub stays_inside : (old new : State) (at first : ℕ) (s : Stored) (words : List ℕ) (list : List Stored) (r : Result ℕ Error) (params : Row) → params ≡ params_of at s words → Executes insert_text params old new r → Holds old first list
    → IsTrue old.in_transaction → OnOk r (IsInside old new)
stays_inside old new at first s words list (Err e) params same ran holds inside = tt
stays_inside old new at first s words list (Ok count) params same ran holds inside =
    let all = adds old new at s words count holds.schema (subst (λ p. Executes insert_text p old new (Ok count)) same ran) in
    record { mode = subst IsTrue (sym all.1.mode) inside; is_open = all.1.is_open; committed = rw inside at all.1.committed_is }

pub commits_nothing_inside : (old : State) (at : ℕ) (s : Stored) (words : List ℕ) (db : Trees) (params : Row) → params ≡ params_of at s words → IsStoreSchema old.now.schema → IsTrue old.in_transaction
    → CommitsBy insert_text params old db → ⊥
commits_nothing_inside old at s words db params same has inside commits =
    let outside = commits_outside old (params_of at s words) db has (subst (λ p. CommitsBy insert_text p old db) same commits) in
    let both : true ≡ false = sym inside ∙ outside in cc
