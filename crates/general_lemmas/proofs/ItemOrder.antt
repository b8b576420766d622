-- The items of a set are the keys of each map that has these keys, in whatever way it came to be.
use Rattle.std.proofs.Common.{◌≡◌, Bool, true, cond, ◌&&◌, List, [], ◌∷◌, Option, Some, None, is_some, T, refl, sym, ap, subst, ◌∙◌, map as each}
use Rattle.std.specs.List.{list_any}
use Rattle.std.specs.Cmp.{IsTotalOrder}
use Rattle.std.specs.FinMap as map
use Rattle.std.specs.FinMap.Entries.{below_all, is_some-find}
use Rattle.std.specs.FinSet as set
use Rattle.std.specs.Ordering.{eq_by_cmp, is_lt}
use Rattle.std.specs.declared.cmp.Ordering.{Ordering}
use Rattle.general_lemmas.specs.SetItems.{in_order}
use Rattle.general_lemmas.proofs.TruthTables.{fact}

-- an entry for each key, with nothing at it
abbrev pub units : {K : Type 0} → List K → List (K × Unit {0})
units ks = each (λ k. (k, tt)) ks

keys_units : {K : Type 0} (ks : List K) → each (λ e. e.0) (units ks) ≡ ks
keys_units [] = refl
keys_units (k ∷ ks) = ap (λ rest. k ∷ rest) (keys_units ks)

below_units : {K X : Type 0} (R : K → K → Ordering) (x : K) (es : List (K × X)) → below_all R x (units (each (λ e. e.0) es)) ≡ below_all R x es
below_units R x [] = refl
below_units R x (e ∷ es) = ap (λ b. is_lt (R x e.0) && b) (below_units R x es)

sorted_units : {K X : Type 0} (R : K → K → Ordering) (es : List (K × X)) → map.is_sorted R (units (each (λ e. e.0) es)) ≡ map.is_sorted R es
sorted_units R [] = refl
sorted_units R (e ∷ es) = λ i. below_units R e.0 es i && sorted_units R es i

there : Bool → Option (Unit {0})
there b = cond b (Some tt) None

same_unit : (x : Option (Unit {0})) → x ≡ there (is_some x)
unfolding there
same_unit None = refl
same_unit (Some u) = refl

module _ {K : Type 0} {R : K → K → Ordering} where
  -- the set of a map's keys
  key_set : {X : Type 0} → map.FinMap R X → set.FinSet R
  key_set m = map.from_sorted (units (map.keys m))

  entries_key_set : {X : Type 0} (m : map.FinMap R X) → map.entries (key_set m) ≡ units (map.keys m)
  unfolding key_set
  entries_key_set m = map.entries-from_sorted R (units (map.keys m)) (subst T (sym (sorted_units R (map.entries m))) (map.entries_sorted m))

  keys_key_set : {X : Type 0} (m : map.FinMap R X) → map.keys (key_set m) ≡ map.keys m
  keys_key_set m = ap (each (λ e. e.0)) (entries_key_set m) ∙ keys_units (map.keys m)

  has_key_set : {X : Type 0} (m : map.FinMap R X) (q : K) → map.contains_key (key_set m) q ≡ map.contains_key m q
  has_key_set m q = map.contains_key-keys (key_set m) q ∙ ap (list_any (eq_by_cmp R q)) (keys_key_set m) ∙ sym (map.contains_key-keys m q)

  -- two maps that have the same keys list them alike
  pub same_keys : IsTotalOrder R → map.IsAntisymmetric R → {X Y : Type 0} (m : map.FinMap R X) (n : map.FinMap R Y)
      → ((q : K) → map.contains_key m q ≡ map.contains_key n q) → map.keys m ≡ map.keys n
  same_keys o exact m n same =
      sym (keys_key_set m)
      ∙ ap map.keys (map.same_map o exact (key_set m) (key_set n) (λ q.
      same_unit (map.get (key_set m) q) ∙ ap there (has_key_set m q ∙ same q ∙ sym (has_key_set n q)) ∙ sym (same_unit (map.get (key_set n) q))))
      ∙ keys_key_set n

  has_from : IsTotalOrder R → (ks : List K) (q : K) → map.contains_key (map.from_entries {R = R} (units ks)) q ≡ list_any (eq_by_cmp R q) ks
  has_from o ks q = ap is_some (map.get-from_entries o (units ks) q) ∙ is_some-find R q (units ks) ∙ ap (list_any (eq_by_cmp R q)) (keys_units ks)

  -- the items of a set in order are the keys of a map that has just these keys
  pub in_order_keys : IsTotalOrder R → map.IsAntisymmetric R → (s : set.FinSet R) {X : Type 0} (m : map.FinMap R X)
      → ((q : K) → set.contains s q ≡ map.contains_key m q) → in_order s ≡ map.keys m
  in_order_keys o exact s m same =
      same_keys o exact (map.from_entries (units (set.items s))) m (λ q. has_from o (set.items s) q ∙ sym (set.contains-items s q) ∙ same q)

  -- the items of a set in order are exactly the set's
  pub in_order_has : IsTotalOrder R → (s : set.FinSet R) (q : K) → list_any (eq_by_cmp R q) (in_order s) ≡ set.contains s q
  in_order_has o s q =
      sym (map.contains_key-keys (map.from_entries (units (set.items s))) q) ∙ has_from o (set.items s) q ∙ sym (set.contains-items s q)

  -- a list that rises and has just the set's items is the set in order
  pub in_order_list : IsTotalOrder R → map.IsAntisymmetric R → (s : set.FinSet R) (ks : List K) → T (map.is_sorted R (units ks))
      → ((q : K) → set.contains s q ≡ list_any (eq_by_cmp R q) ks) → in_order s ≡ ks
  in_order_list o exact s ks rises same =
      let listed = map.entries-from_sorted R (units ks) rises in
      let keys : map.keys (map.from_sorted {R = R} (units ks)) ≡ ks = ap (each (λ e. e.0)) listed ∙ keys_units ks in
      in_order_keys o exact s (map.from_sorted (units ks)) (λ q. same q ∙ ap (list_any (eq_by_cmp R q)) (sym keys) ∙ sym (map.contains_key-keys (map.from_sorted (units ks)) q))
      ∙ keys

  -- the items of a set in order are sorted
  pub in_order_rises : (s : set.FinSet R) → map.is_sorted R (units (in_order s)) ≡ true
  in_order_rises s =
      let m : map.FinMap R (Unit {0}) = map.from_entries (each (λ k. (k, tt)) (set.items s)) in
      sorted_units R (map.entries m) ∙ fact _ (map.entries_sorted m)
