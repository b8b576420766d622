-- Which frames receipts have, and of what they are.
use Rattle.std.specs.Prelude.{ℕ, ◌≡◌, ◌⊎◌, ◌+◌, ◌≤◌, List, [], ◌∷◌, ◌++◌, Option, Some, None, length, map}
use Rattle.site_journal.specs.declared.receipt.Receipt.{Receipt}
use Rattle.site_journal.specs.declared.step.StepDeed.{StepDeed}
use Rattle.site_journal.specs.declared.step.StepDeed.TheVariants.{Asked, Took, Cut, Whole}

-- the frame that was cut, if this is a cut and there was one
abbrev pub cut_frame : StepDeed → List (List ℕ)
cut_frame (Cut (Some frame)) = frame ∷ []
cut_frame (Cut None) = []
cut_frame (Asked ask answer) = []
cut_frame (Took frame) = []
cut_frame (Whole frame) = []

-- the frame of all that the site knew, if this is one
abbrev pub whole_frame : StepDeed → List (List ℕ)
whole_frame (Whole frame) = frame ∷ []
whole_frame (Cut frame) = []
whole_frame (Asked ask answer) = []
whole_frame (Took frame) = []

-- the frames that were cut, in their order
abbrev pub cut_frames : List Receipt → List (List ℕ)
cut_frames [] = []
cut_frames (r ∷ rs) = cut_frame r.deed ++ cut_frames rs

-- the frames of all that the site knew, in their order
abbrev pub whole_frames : List Receipt → List (List ℕ)
whole_frames [] = []
whole_frames (r ∷ rs) = whole_frame r.deed ++ whole_frames rs

-- n cuts
abbrev pub AreCuts : ℕ → List Receipt → Type 0
AreCuts n rs = (cuts : List (Option (List ℕ))) × (length cuts ≡ n) × (map (λ (r : Receipt). r.deed) rs ≡ map Cut cuts)

-- n cuts, and then a frame of all
abbrev pub AreCutsAndWhole : ℕ → List Receipt → Type 0
AreCutsAndWhole n rs = (cuts : List (Option (List ℕ))) × (last : List ℕ) × (length cuts ≡ n) × (map (λ (r : Receipt). r.deed) rs ≡ map Cut cuts ++ Whole last ∷ [])

-- a cut for each of `rung` rings, but perhaps for the last, or one more; and then perhaps a frame of all
abbrev pub AreCutsFor : ℕ → List Receipt → Type 0
AreCutsFor rung rs = (n : ℕ) × (n ≤ rung + 1) × (rung ≤ n + 1) × (AreCuts n rs ⊎ AreCutsAndWhole n rs)

-- takes of these items
abbrev pub AreTakes : List (List ℕ) → List Receipt → Type 0
AreTakes items rs = map (λ (r : Receipt). r.deed) rs ≡ map Took items
