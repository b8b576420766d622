use Rattle.std.proofs.Common.{◌≡◌, ◌+◌, ◌++◌, ℕ, List, IsTrue, length, take}
use Rattle.sqlite.specs.Held.{state}
use Rattle.sqlite.specs.State.{HasCleanDisk}
use Rattle.sqlite.specs.Tree.{Trees}
use Rattle.stored_steps.specs.Stored.{Stored}
use Rattle.site_store.specs.Kept.{SparesKept}
use Rattle.site_store.specs.Steps.{Holds}
use Rattle.site_store.proofs.group.append_each.Given as goal

abbrev pub invariant-loop-step : goal.invariant-loop-step
invariant-loop-step g l =
    let old = state g.S.Store l.fn.conn in
    let now = state g.S.Store l.conn in
    (l.place ≡ l.fn.at + l.step-index) × (HasCleanDisk now → HasCleanDisk old)
    × (HasCleanDisk now → (first : ℕ) (list : List Stored) → Holds old first list → l.fn.at ≡ first + length list → IsTrue old.in_transaction → IsTrue old.is_open
    → Holds now first (list ++ take l.step-index l.steps) × IsTrue now.in_transaction × IsTrue now.is_open × (now.committed ≡ old.committed) × ((db : Trees) → now.may_leave db → old.may_leave db)
    × SparesKept old now)
