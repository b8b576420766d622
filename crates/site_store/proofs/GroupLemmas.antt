-- Several statements in one transaction.
use Rattle.std.proofs.Common.{◌≡◌, inr, ℕ, ◌+◌, length, List, [], Ok, Err, Result, OnOk, IsTrue, false, sym, ap, subst, ◌∙◌}
use Rattle.sqlite.specs.Effect.{Database}
use Rattle.sqlite.specs.Order.{Row}
use Rattle.sqlite.specs.Tree.{Trees}
use Rattle.sqlite.specs.declared.error.Error.{Error}
use Rattle.sqlite.specs.State.{State, Executes, Shows}
use Rattle.stored_steps.specs.Stored.{Stored}
use Rattle.site_store.specs.Kept.{HoldsAll, IsCommitted, LeavesAll, ListsAll, SparesKept}
use Rattle.site_store.specs.Steps.{Holds, IsIdle, IsInside, LeavesOnly, Lists}
use Rattle.site_store.proofs.StepLemmas.{begins, commits, begin_text, commit_text}
use Rattle.site_store.proofs.WriteLemmas.{holds_same}

pub is_begun : (old new : State) (r : Result ℕ Error) → Executes begin_text [] old new r → OnOk r ((new.now ≡ old.now) × IsInside old new)
is_begun old new (Err e) ran = tt
is_begun old new (Ok count) ran =
    let shown = begins old new count ran in
    (shown.now_is, record { mode = shown.mode; is_open = shown.is_open; committed = shown.committed_is })

-- a connection whose commit is what it sees is idle
idle_of : (old new : State) (db : Database) → Shows old new db db false → IsIdle new
idle_of old new db shown = record { is_open = shown.is_open; outside = shown.mode; committed = shown.committed_is ∙ sym shown.now_is }

-- `settled`: while it is open, a crash leaves the last commit
pub is_committed : (old new : State) (r : Result ℕ Error) → Executes commit_text [] old new r → ((db : Trees) → IsTrue new.is_open → new.may_leave db → db ≡ new.committed.trees) → OnOk r (IsCommitted old new)
is_committed old new (Err e) ran settled = tt
is_committed old new (Ok count) ran settled =
    let shown = commits old new count ran in
    record {
      now = shown.now_is;
      leaves = λ db may. settled db shown.is_open may ∙ ap (λ (d : Database). d.trees) shown.committed_is;
      idle = idle_of old new old.now shown;
    }

-- what is held is listed by what is committed
pub lists_at : (s : State) (db : Trees) (first : ℕ) (list : List Stored) → Holds s first list → db ≡ s.now.trees → Lists (db 0) first list
lists_at s db first list holds same = subst (λ (trees : Trees). Lists (trees 0) first list) (sym same) holds.rows

pub all_at : (s : State) (db : Trees) (first : ℕ) (kept list : List Stored) → HoldsAll s first kept list → db ≡ s.now.trees → ListsAll db first kept list
all_at s db first kept list holds same = subst (λ (trees : Trees). ListsAll trees first kept list) (sym same) holds.all

-- what was held is held and alone left by a crash once it is committed
pub holds_committed : (old new : State) (first : ℕ) (list : List Stored) → IsCommitted old new → Holds old first list → Holds new first list × LeavesOnly new first list
holds_committed old new first list done holds =
    (holds_same old new first list done.now holds, λ db may. lists_at old db first list holds (done.leaves db may))

pub all_same_now : (old new : State) (first : ℕ) (kept list : List Stored) → new.now ≡ old.now → HoldsAll old first kept list → HoldsAll new first kept list
all_same_now old new first kept list same holds =
    record { schema = ap (λ (d : Database). d.schema) same ∙ holds.schema; all = subst (λ (d : Database). ListsAll d.trees first kept list) (sym same) holds.all }

pub all_committed : (old new : State) (first : ℕ) (kept list : List Stored) → IsCommitted old new → HoldsAll old first kept list → HoldsAll new first kept list × LeavesAll new first kept list
all_committed old new first kept list done holds =
    (all_same_now old new first kept list done.now holds, λ db may. all_at old db first kept list holds (done.leaves db may))

pub inside_then : (a b c : State) → IsInside a b → IsInside b c → IsInside a c
inside_then a b c one two = record { mode = two.mode; is_open = two.is_open; committed = two.committed ∙ one.committed }

-- ---- the kept rows beside the steps

-- a store that keeps rows holds its steps
pub steps_of_all : (s : State) (first : ℕ) (kept list : List Stored) → HoldsAll s first kept list → Holds s (first + length kept) list
steps_of_all s first kept list holds = record { schema = inr holds.schema; rows = holds.all.list_are }

-- and where other steps are held and the kept rows stay, it holds these
pub all_of_steps : (old new : State) (first : ℕ) (kept list more : List Stored) → HoldsAll old first kept list → Holds new (first + length kept) more → SparesKept old new → HoldsAll new first kept more
all_of_steps old new first kept list more holds steps spared = record {
  schema = spared.schema ∙ holds.schema;
  all = record { kept_are = subst (λ (rows : List Row). Lists rows first kept) (sym spared.kept) holds.all.kept_are; list_are = steps.rows };
}

pub spared_then : (a b c : State) → SparesKept a b → SparesKept b c → SparesKept a c
spared_then a b c one two = record { schema = two.schema ∙ one.schema; kept = two.kept ∙ one.kept }

pub spared_same : (old new : State) → new.now ≡ old.now → SparesKept old new
spared_same old new same = record { schema = ap (λ (d : Database). d.schema) same; kept = ap (λ (d : Database). d.trees 1) same }
