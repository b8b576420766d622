-- What outlets are given, send by send (this project's own).
use Rattle.std.specs.Prelude.{ℕ, ◌≡◌, List, [], ◌∷◌, ◌++◌}
use Rattle.site_links.specs.Links.{Sending}
use Rattle.site_pumps.specs.Carried.{Carries}

-- an outlet whose sends do what `Given` says comes from state `p` to `q` by being given these items in order
abbrev pub OutletRun : {O : Type 0} → (O → List ℕ → O → Type 0) → List (List ℕ) → O → O → Type 0
OutletRun Given [] p q = p ≡ q
OutletRun {O = O} Given (item ∷ items) p q = (next : O) × Given p item next × OutletRun Given items next q

-- an outlet comes from state `p` to `q` by being given a prefix of these items in order
abbrev pub OutletBegins : {O : Type 0} → (O → List ℕ → O → Type 0) → List (List ℕ) → O → O → Type 0
OutletBegins Given items p q = (front : List (List ℕ)) × (rest : List (List ℕ)) × (items ≡ front ++ rest) × OutletRun Given front p q

-- the sender of a link has sent `item`, or is down
abbrev pub SenderGiven : Sending → List ℕ → Sending → Type 0
SenderGiven old item new = Carries (item ∷ []) old new
