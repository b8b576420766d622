-- What a desk's port does by the pass that it has borrowed.
use Rattle.std.specs.Borrow.{MutBor}
use Rattle.std.specs.List.{All}
use Rattle.std.specs.Prelude.{ℕ, ◌≡◌, ◌≤◌, ◌+◌, List, [], ◌∷◌, length, Option}
use Rattle.site_journal.specs.declared.desk_fault.DeskFault.{DeskFault}
use Rattle.site_journal.specs.declared.receipt.Receipt.{Receipt}
use Rattle.site_desk.specs.Deeds.{IsPossibleSomewhere}
use Rattle.site_desk.specs.Passes.{HasDone, PassState, RewoundIsBelow}
use Rattle.site_desk.specs.declared.desk_port.DeskPort.{DeskPort}

-- the pass that the port of a desk has borrowed
abbrev pub lent_pass : {L : Type 0} → DeskPort L → MutBor PassState
lent_pass port = port.pass

-- the fault of the last call of a desk's port, if that had one
abbrev pub last_fault : {L : Type 0} → DeskPort L → Option DeskFault
last_fault port = port.fault

-- the pass of a port has done the step of `receipt`, and is the same borrow; some state of the site of
-- the number `site` with the queues `names`, reachable or not, does the deed
pub record MakesByPass (site : ℕ) (names : List (List ℕ)) (old : MutBor PassState) (receipt : Receipt) (new : MutBor PassState) : Type 0 where
  pub done : HasDone old.now receipt new.now
  pub possible : IsPossibleSomewhere site names receipt.deed
  pub same : new.ghost_name ≡ old.ghost_name

-- the pass of a port is as it was, and the same borrow; `fault` has no length of the journal, or one that is less than the pass has
-- seen
pub record RefusesByPass (old : MutBor PassState) (fault : DeskFault) (new : MutBor PassState) : Type 0 where
  pub unchanged : new.now ≡ old.now
  pub rewound : RewoundIsBelow old.now fault
  pub same : new.ghost_name ≡ old.ghost_name

-- the positions of receipts ascend, from the journal's length `seen` before the first of them to
-- its length `new` after the last
abbrev pub Ascend : ℕ → List Receipt → ℕ → Type 0
Ascend seen [] new = new ≡ seen
Ascend seen (receipt ∷ receipts) new = (seen ≤ receipt.position) × Ascend (receipt.position + 1) receipts new

-- from `old` to `new` a pass has done the steps of `receipts`, one after another: all are of its number,
-- which stays, it has counted and seen them, and some state of this site, reachable or not, does each deed
pub record HasDoneAll (site : ℕ) (names : List (List ℕ)) (old : PassState) (receipts : List Receipt) (new : PassState) : Type 0 where
  pub ordinal : new.ordinal ≡ old.ordinal
  pub passes : All (λ (receipt : Receipt). receipt.pass ≡ old.ordinal) receipts
  pub possible : All (λ (receipt : Receipt). IsPossibleSomewhere site names receipt.deed) receipts
  pub share : new.share ≡ old.share + length receipts
  pub seen : Ascend old.seen receipts new.seen

-- the pass of a port has done the steps of `receipts`, one after another, and is the same borrow
pub record WorksByPass (site : ℕ) (names : List (List ℕ)) (old : MutBor PassState) (receipts : List Receipt) (new : MutBor PassState) : Type 0 where
  pub done : HasDoneAll site names old.now receipts new.now
  pub same : new.ghost_name ≡ old.ghost_name
