-- Which receipts settle a journal.
use Rattle.std.specs.List.{All, Any}
use Rattle.std.specs.Prelude.{ℕ, suc, ◌≡◌, ◌≢◌, ◌<◌, ◌≤◌, ◌⊎◌, ◌==◌, if◌then◌else◌, List, [], ◌∷◌, Option, Some, None, slice_index_or}
use Rattle.site_journal.specs.declared.receipt.Receipt.{Receipt}
use Rattle.site_journal.specs.declared.settle_fault.SettleFault.{SettleFault}
use Rattle.site_journal.specs.declared.settle_fault.SettleFault.TheVariants.{Checkpointed, Differs}
use Rattle.site_journal.specs.declared.step.Step.{Step}

-- the receipts of the steps that the pass of the number `pass` has done, in order, where the first of all steps stands at
-- `position`
abbrev pub receipts_of : ℕ → ℕ → List Step → List Receipt
receipts_of pass position [] = []
receipts_of pass position (step ∷ steps) =
    if step.pass == pass then record { pass = pass; position = position; deed = step.deed } ∷ receipts_of pass (suc position) steps
    else receipts_of pass (suc position) steps

-- the receipts that `lists` has of the pass of the number `pass`; none where it has no list for it
abbrev pub list_of : List (List Receipt) → ℕ → List Receipt
list_of lists pass = slice_index_or lists pass []

-- in `lists` each pass has the receipts of its steps, in order, and no other
abbrev pub AreSettled : List Step → List (List Receipt) → Type 0
AreSettled steps lists = (pass : ℕ) → list_of lists pass ≡ receipts_of pass 0 steps

-- the pass of the number `pass` is the first whose list in `lists` isn't that of the receipts of
-- its steps
pub record IsFirstThatDiffers (steps : List Step) (lists : List (List Receipt)) (pass : ℕ) : Type 0 where
  pub before : (earlier : ℕ) → earlier < pass → list_of lists earlier ≡ receipts_of earlier 0 steps
  pub differs : list_of lists pass ≡ receipts_of pass 0 steps → ⊥

-- why the receipts in `lists` don't settle a journal of which `start` steps were dropped: some
-- were, or the first pass whose receipts differ
abbrev pub IsUnsettled : SettleFault → ℕ → List Step → List (List Receipt) → Type 0
IsUnsettled Checkpointed start steps lists = start ≢ 0
IsUnsettled (Differs pass) start steps lists = (start ≡ 0) × IsFirstThatDiffers steps lists pass

-- the given number is the least pass of `steps` that isn't below `from`; if none is given, all passes are below it
abbrev pub IsLeastPass : ℕ → List Step → Option ℕ → Type 0
IsLeastPass from steps None = All (λ (step : Step). step.pass < from) steps
IsLeastPass from steps (Some pass) = (from ≤ pass) × Any (λ (step : Step). step.pass ≡ pass) steps × All (λ (step : Step). (step.pass < from) ⊎ (pass ≤ step.pass)) steps
