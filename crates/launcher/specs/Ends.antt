-- What is launched, and what it ends with (this project's own).
use Rattle.std.specs.Prelude.{ℕ, ◌≡◌, IfOk, List, Result, Some, slice_get}
use Rattle.launcher.specs.declared.site_fault.SiteFault.{SiteFault}

-- each result that a call for a site may give is a fault, or an output that the site ends with under this limit
abbrev pub GivesEnds : {X O : Type 0} → (X → Result O SiteFault → Type 0) → (X → ℕ → O → Type 0) → ℕ → Type 0
GivesEnds {X} {O} Gives Ends limit = (site : X) (ended : Result O SiteFault) → Gives site ended → IfOk ended (λ output. Ends site limit output)

-- what was launched at each place of `sites` has ended with the output at that place
abbrev pub HaveAllEnded : {X O : Type 0} → (X → ℕ → O → Type 0) → ℕ → List X → List O → Type 0
HaveAllEnded {X} {O} Ends limit sites outputs = (place : ℕ) (site : X) (output : O) → slice_get sites place ≡ Some site → slice_get outputs place ≡ Some output → Ends site limit output
