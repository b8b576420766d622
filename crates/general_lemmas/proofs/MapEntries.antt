-- The entries of a map, and what the map gives.
use Rattle.std.proofs.Common.{◌≡◌, ℕ, ◌<◌, true, cond, Contains, List, [], ◌∷◌, length, get_or, Option, Some, None, refl, inl, inr, sym, ap, subst, ◌∙◌}
use Rattle.std.specs.Cmp.{IsTotalOrder}
use Rattle.std.specs.Ordering.{eq_by_cmp}
use Rattle.std.specs.declared.cmp.Ordering.{Ordering}
use Rattle.std.specs.FinMap as map
use Rattle.std.specs.FinMap.{IsAntisymmetric}
use Rattle.std.specs.FinMap.Entries.{find}
use Rattle.std.proofs.lemmas.Bool.{cases_Bool}
use Rattle.std.proofs.lemmas.List.{get_or_default}
use Rattle.std.proofs.lemmas.Option.{same_Some}
use Rattle.general_lemmas.proofs.Membership.{first_in, later_in}
use Rattle.general_lemmas.proofs.SortedEntries.{find_at}
use Rattle.general_lemmas.proofs.TruthTables.{fact}

module _ {K V : Type 0} (R : K → K → Ordering) (total : IsTotalOrder R) where
  -- each entry is given by the map
  pub entry_is : (m : map.FinMap R V) (e : K × V) → Contains (map.entries m) e → map.get m e.0 ≡ Some e.1
  entry_is m e h =
      map.get-entries m e.0
      ∙ find_at R total (map.entries m) (fact _ (map.entries_sorted m)) e.0 h.0 e (record { in_range = h.1; has_key = λ d. ap (λ x. x.0) (default (map.entries m) h.0 d e h.1 ∙ h.2) })
      ∙ ap (λ x. Some x.1) h.2
    where
      default : (es : List (K × V)) (i : ℕ) (a b : K × V) → i < length es → get_or es i a ≡ get_or es i b
      default es i a b l = get_or_default es i a b l

  -- where only equal keys tie
  module _ (exact : (a b : K) → eq_by_cmp R a b ≡ true → a ≡ b) where
    found_in : (q : K) (v : V) (es : List (K × V)) → find R q es ≡ Some v → Contains es (q, v)
    found_in q v [] h = absurd (cc)
    found_in q v (e ∷ es) h = elim (cases_Bool (eq_by_cmp R q e.0)) [
      | inl t ↦ subst (Contains (e ∷ es)) (λ i. (sym (exact q e.0 t) i, same_Some e.1 v (ap (λ b. cond b (Some e.1) (find R q es)) (sym t) ∙ h) i)) (first_in e es)
      | inr f ↦ later_in e es (q, v) (found_in q v es (ap (λ b. cond b (Some e.1) (find R q es)) (sym f) ∙ h))
    ]

    -- a value of the map is that of an entry
    pub entry_in : (m : map.FinMap R V) (q : K) (v : V) → map.get m q ≡ Some v → Contains (map.entries m) (q, v)
    entry_in m q v h = found_in q v (map.entries m) (sym (map.get-entries m q) ∙ h)

  -- maps that give each other's values are one
  pub same_both : IsAntisymmetric R → (m n : map.FinMap R V) → ((q : K) (v : V) → map.get n q ≡ Some v → map.get m q ≡ Some v) → ((q : K) (v : V) → map.get m q ≡ Some v → map.get n q ≡ Some v) → m ≡ n
  same_both antisymmetric m n f g = map.same_map total antisymmetric m n (λ q. at q (map.get m q) (map.get n q) refl refl)
    where
      at : (q : K) (x y : Option V) → map.get m q ≡ x → map.get n q ≡ y → map.get m q ≡ map.get n q
      at q (Some v) y a b = a ∙ sym (g q v a)
      at q None (Some v) a b = f q v b ∙ sym b
      at q None None a b = a ∙ sym b
