-- What inlets do, receive by receive (this project's own).
use Rattle.std.specs.Prelude.{ℕ, ◌≡◌, List, [], ◌∷◌, ◌++◌, Option, Some, None, true}
use Rattle.site_links.specs.Links.{Receiving}

-- an inlet whose receives do what `Gives` says comes from state `p` to `q` by giving these items in order
abbrev pub InletRun : {I : Type 0} → (I → List ℕ → I → Type 0) → I → List (List ℕ) → I → Type 0
InletRun Gives p [] q = p ≡ q
InletRun {I = I} Gives p (item ∷ items) q = (next : I) × Gives p item next × InletRun Gives next items q

-- an inlet gives these items and then finds the end, unless a fault has stopped its caller
abbrev pub InletWork : {I F : Type 0} → (I → List ℕ → I → Type 0) → (I → I → Type 0) → I → List (List ℕ) → Option F → I → Type 0
InletWork Gives Ends p items (Some fault) q = InletRun Gives p items q
InletWork {I = I} Gives Ends p items None q = (last : I) × InletRun Gives p items last × Ends last q

-- a receive of a link's receiver gives `item`
abbrev pub ReceiverGives : Receiving → List ℕ → Receiving → Type 0
ReceiverGives old item new = new ≡ record old { received = old.received ++ item ∷ [] }

-- a receive of a link's receiver finds the end of the link
abbrev pub ReceiverEnds : Receiving → Receiving → Type 0
ReceiverEnds old new = new ≡ record old { ended = true }
