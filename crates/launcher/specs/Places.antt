-- What holds of the elements of a list and of their places (this project's own).
use Rattle.std.specs.Prelude.{ℕ, ◌<◌, List, length, slice_index_or}

-- `Holds place element` for each place of `xs`, from 0, and the element there
abbrev pub AtEach : {E : Type 0} → (ℕ → E → Type 0) → List E → Type 0
AtEach {E} Holds xs = (k : ℕ) (none : E) → k < length xs → Holds k (slice_index_or xs k none)
