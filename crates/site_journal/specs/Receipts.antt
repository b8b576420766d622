-- Which deeds receipts are of.
use Rattle.std.specs.Prelude.{ℕ, ◌≡◌, List, Option}
use Rattle.site_journal.specs.declared.receipt.Receipt.{Receipt}
use Rattle.site_journal.specs.declared.step.StepDeed.TheVariants.{Took, Cut, Whole}

-- a receipt is of a cut, of a frame or of an empty buffer
abbrev pub IsOfCut : Receipt → Type 0
IsOfCut receipt = (frame : Option (List ℕ)) × (receipt.deed ≡ Cut frame)

-- a receipt is of a whole: a frame of all that the site knows
abbrev pub IsOfWhole : Receipt → Type 0
IsOfWhole receipt = (frame : List ℕ) × (receipt.deed ≡ Whole frame)

-- a receipt is of the take of the frame that `bytes` spell
abbrev pub IsOfTake : List ℕ → Receipt → Type 0
IsOfTake bytes receipt = receipt.deed ≡ Took bytes
