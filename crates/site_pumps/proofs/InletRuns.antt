-- What an inlet has given.
use Rattle.std.proofs.Common.{◌≡◌, ◌∙◌, ℕ, List, [], ◌∷◌, ◌++◌, Option, Some, None, true, refl, sym, ap, subst, append_assoc, append-nil}
use Rattle.site_links.specs.Links.{Receiving}
use Rattle.site_pumps.specs.Inlets.{InletRun, InletWork, ReceiverEnds, ReceiverGives}

-- one item more
pub inlet_more : {I : Type 0} (Gives : I → List ℕ → I → Type 0) (items : List (List ℕ)) (item : List ℕ) (p q r : I)
    → InletRun Gives p items q → Gives q item r → InletRun Gives p (items ++ item ∷ []) r
inlet_more Gives [] item p q r run gives = (r, subst (λ x. Gives x item r) (sym run) gives, refl)
inlet_more Gives (x ∷ xs) item p q r run gives = (run.0, run.1, inlet_more Gives xs item run.0 q r run.2 gives)

-- what a link's receiver has received that gave these items
pub link_gave : (items : List (List ℕ)) (p q : Receiving) → InletRun ReceiverGives p items q → (q.received ≡ p.received ++ items) × (q.link ≡ p.link)
link_gave [] p q run = subst (λ (x : Receiving). (x.received ≡ p.received ++ []) × (x.link ≡ p.link)) run (sym (append-nil p.received), refl)
link_gave (item ∷ items) p q run = let rest = link_gave items run.0 q run.2 in (
  rest.0 ∙ ap (λ (r : Receiving). r.received ++ items) run.1 ∙ append_assoc p.received (item ∷ []) items,
  rest.1 ∙ ap (λ (r : Receiving). r.link) run.1,
)

-- what it has received, and whether it has ended
pub link_worked : {F : Type 0} (items : List (List ℕ)) (fault : Option F) (p q : Receiving) → InletWork ReceiverGives ReceiverEnds p items fault q
    → (q.received ≡ p.received ++ items) × (q.link ≡ p.link) × (fault ≡ None → q.ended ≡ true)
link_worked items (Some fault) p q work = let run = link_gave items p q work in (run.0, run.1, λ none. cc)
link_worked items None p q work = let run = link_gave items p work.0 work.1 in (
  ap (λ (r : Receiving). r.received) work.2 ∙ run.0,
  ap (λ (r : Receiving). r.link) work.2 ∙ run.1,
  λ none. ap (λ (r : Receiving). r.ended) work.2,
)
