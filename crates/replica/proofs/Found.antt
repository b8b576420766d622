-- What is found in a list or a map: some element of which something holds.
use Rattle.std.proofs.Common.{◌≡◌, ◌↔◌, inl, inr, ℕ, ◌<◌, true, cond, List, [], ◌∷◌, length, get_or, Some, Contains, sym, ap, subst, ◌∙◌}
use Rattle.std.specs.FinMap as map
use Rattle.std.specs.FinMap.Entries.{find}
use Rattle.std.specs.List.{Any}
use Rattle.std.specs.Ordering.{eq_by_cmp}
use Rattle.std.specs.declared.cmp.Ordering.{Ordering}
use Rattle.std.specs.Cmp.{IsTotalOrder}
use Rattle.std.proofs.lemmas.Bool.{cases_Bool}
use Rattle.std.proofs.lemmas.List.{get_or_default}
use Rattle.std.proofs.lemmas.Option.{same_Some}
use Rattle.general_lemmas.proofs.Membership.{cases_in, first_in, later_in, nothing_in}
use Rattle.general_lemmas.proofs.SortedEntries.{find_at}
use Rattle.general_lemmas.proofs.TruthTables.{fact}

-- ---- in a list

module _ {X : Type 0} (P : X → Type 0) where
  -- an element of which it holds
  pub any_of : (xs : List X) (x : X) → Contains xs x → P x → Any P xs
  any_of xs x here p = (here.0, x, here.1, here.2, p)

  -- is found
  pub of_any : (xs : List X) → Any P xs → (x : X) × Contains xs x × P x
  of_any xs a = (a.1, (a.0, a.2, a.3), a.4)

  -- a property that the first element lacks is found in the rest exactly where it is found in all
  pub none_yet : (x : X) (left rest all : List X) → left ≡ x ∷ rest → (P x → ⊥) → (Any P left ↔ Any P all) → Any P rest ↔ Any P all
  none_yet x left rest all step not_here found = (
    λ a. let e = of_any rest a in found.0 (any_of left e.0 (subst (λ xs. Contains xs e.0) (sym step) (later_in x rest e.0 e.1)) e.2),
    λ a. let e = of_any left (found.1 a) in elim (cases_in x rest e.0 (subst (λ xs. Contains xs e.0) step e.1)) [
      | inl is ↦ absurd (not_here (subst P (sym is) e.2))
      | inr later ↦ any_of rest e.0 later e.2
    ],
  )

  -- a property is found at the first element of the rest
  pub found_now : (x : X) (left rest all : List X) → left ≡ x ∷ rest → P x → (Any P left ↔ Any P all) → Any P all
  found_now x left rest all step here found = found.0 (any_of left x (subst (λ xs. Contains xs x) (sym step) (first_in x rest)) here)

  -- nothing is left, so it isn't found
  pub none_left : (left all : List X) → left ≡ [] → (Any P left ↔ Any P all) → Any P all → ⊥
  none_left left all step found a = let e = of_any left (found.1 a) in nothing_in e.0 (subst (λ xs. Contains xs e.0) step e.1)
