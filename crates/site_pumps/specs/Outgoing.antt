-- How far a pump has come with a plan.
use Rattle.std.specs.Prelude.{ℕ, ◌≡◌, ◌≤◌, ◌+◌, ◌⊎◌, ◌++◌, Bool, true, List, [], ◌∷◌, Option, Some, Result, IfErr, OnErr, OnOk, length, vec_len}
use Rattle.site_pumps.specs.declared.deed.Deed.{Deed}
use Rattle.site_pumps.specs.declared.outgoing.Outgoing.{Outgoing}
use Rattle.site_journal.specs.declared.desk_fault.DeskFault.{DeskFault}
use Rattle.site_journal.specs.declared.desk_fault.DeskFault.TheVariants.{Memory}
use Rattle.site_journal.specs.declared.receipt.Receipt.{Receipt}
use Rattle.site_journal.specs.Ports.{PortRun, PortWork}
use Rattle.site_pumps.specs.Carried.{EachLink}
use Rattle.site_pumps.specs.Deeds.{cut_frames, whole_frames}
use Rattle.site_pumps.specs.Outlets.{OutletBegins, OutletRun}
use Rattle.site_pumps.specs.Plans.{held_from, planned, sent_from}

-- the frames that were cut so far were sent as the plan says: `used` deeds of it were used, and the frames `held` are held
pub record IsUnderWay {O : Type 0} (Given : O → List ℕ → O → Type 0) (plan : List Deed) (receipts : List Receipt) (used : ℕ) (held : List (List ℕ)) (start outlets : List O) : Type 0 where
  pub used_is : used ≡ length (cut_frames receipts)
  pub held_is : held ≡ held_from plan 0 [] (cut_frames receipts)
  pub carried : EachLink (OutletRun Given (sent_from plan 0 [] (cut_frames receipts))) start outlets
  pub no_whole : whole_frames receipts ≡ []

-- each outlet was given a prefix of what the plan makes of these receipts' frames
abbrev pub IsFrontOf : {O : Type 0} → (O → List ℕ → O → Type 0) → List Deed → List Receipt → List O → List O → Type 0
IsFrontOf Given plan receipts start outlets = EachLink (OutletBegins Given (planned plan (cut_frames receipts) (whole_frames receipts))) start outlets

-- these receipts' frames were sent as the plan says: those that it holds are held still, where there are no more cuts than rings; where there is one
-- more, the bell has ended, and they were sent too
abbrev pub IsStopped : {O : Type 0} → (O → List ℕ → O → Type 0) → List Deed → ℕ → List Receipt → Bool → List O → List O → Type 0
IsStopped Given plan rung receipts ended start outlets = ((length receipts ≤ rung) × EachLink (OutletRun Given (sent_from plan 0 [] (cut_frames receipts))) start outlets)
    ⊎ ((length receipts ≡ rung + 1) × (ended ≡ true) × EachLink (OutletRun Given (planned plan (cut_frames receipts) [])) start outlets)

-- a call of a pump has added one receipt of this kind if it succeeded, and may have if it failed; not if the port has refused its call for
-- the same fault
pub record AddsReceipt {T : Type 0} (IsOf : Receipt → Type 0) (last_fault : Option DeskFault) (old new : List Receipt) (result : Result T DeskFault) : Type 0 where
  pub receipt : OnOk result ((r : Receipt) × IsOf r × (new ≡ old ++ r ∷ []))
  pub perhaps : OnErr result ((new ≡ old) ⊎ ((r : Receipt) × IsOf r × (new ≡ old ++ r ∷ [])))
  pub refused : IfErr result (λ cause. last_fault ≡ Some cause → new ≡ old)

-- what a call of a pump has done at its port, from state `p` to `q`: the steps of its receipts, and perhaps a refusal for its fault, which
-- is the port's or `Memory`; its pass is the same, and has done a step for each receipt
pub record WorksAt {P T : Type 0} (Makes : P → Receipt → P → Type 0) (Refuses : P → DeskFault → P → Type 0) (last_fault : P → Option DeskFault) (ordinal share : P → ℕ) (p q : P) (old new : Outgoing) (result : Result T DeskFault) : Type 0 where
  pub run : OnOk result ((start : P) → PortRun Makes start old.receipts.items p → PortRun Makes start new.receipts.items q)
  pub work : IfErr result (λ cause. (start : P) → PortRun Makes start old.receipts.items p → PortWork Makes Refuses start new.receipts.items (Some cause) q)
  pub fault : IfErr result (λ cause. (last_fault q ≡ Some cause) ⊎ (cause ≡ Memory))
  pub same : ordinal q ≡ ordinal p
  pub done : share q + vec_len old.receipts ≡ share p + vec_len new.receipts
