-- What a map and a set have at one key after a change at another, or at that key.
use Rattle.std.proofs.Common.{◌≡◌, ◌≢◌, Bool, true, false, cond, ◌||◌, Some, None, refl, sym, ap, ◌∙◌, inl, inr}
use Rattle.std.specs.Cmp.{IsTotalOrder}
use Rattle.std.specs.FinMap as maps
use Rattle.std.specs.FinSet as sets
use Rattle.std.specs.Ordering.{eq_by_cmp}
use Rattle.std.specs.declared.cmp.Ordering.{Ordering}
use Rattle.std.proofs.lemmas.Bool.{cases_Bool}
use Rattle.live_cells.proofs.Rising as rising

not_true : (b : Bool) → b ≢ true → b ≡ false
not_true true n = absurd (n refl)
not_true false n = refl

-- keys in a total order, in which only equal keys tie
module _ {K : Type 0} (R : K → K → Ordering) (o : IsTotalOrder R) (exact : maps.IsAntisymmetric R) where
  pub untied : (a b : K) → a ≢ b → eq_by_cmp R a b ≡ false
  untied a b n = not_true (eq_by_cmp R a b) (λ t. n (rising.one_key R o exact a b t))

  pub apart_by : (a b : K) → eq_by_cmp R a b ≡ false → a ≢ b
  apart_by a b f same = let t = rising.same_tied R o exact a b same in cc

  pub spent_more : (s : sets.FinSet R) (k q : K) → q ≢ k → sets.contains s q ≡ false → sets.contains (sets.insert s k) q ≡ false
  spent_more s k q n f = sets.contains-insert o s k q ∙ (λ i. untied q k n i || f i)

module _ {K V : Type 0} (R : K → K → Ordering) (o : IsTotalOrder R) (exact : maps.IsAntisymmetric R) where
  pub got : (m : maps.FinMap R V) (k : K) (v : V) → maps.get (maps.insert m k v) k ≡ Some v
  got m k v = maps.get-insert o m k v k ∙ ap (λ b. cond b (Some v) (maps.get m k)) (rising.same_itself R o exact k)

  pub got_other : (m : maps.FinMap R V) (k : K) (v : V) (q : K) → q ≢ k → maps.get (maps.insert m k v) q ≡ maps.get m q
  got_other m k v q n = maps.get-insert o m k v q ∙ ap (λ b. cond b (Some v) (maps.get m q)) (untied R o exact q k n)

  pub gone : (m : maps.FinMap R V) (k : K) → maps.get (maps.remove m k) k ≡ None
  gone m k = maps.get-remove o m k k ∙ ap (λ b. cond b None (maps.get m k)) (rising.same_itself R o exact k)

  pub gone_other : (m : maps.FinMap R V) (k q : K) → q ≢ k → maps.get (maps.remove m k) q ≡ maps.get m q
  gone_other m k q n = maps.get-remove o m k q ∙ ap (λ b. cond b None (maps.get m q)) (untied R o exact q k n)

  -- nothing changes where a key that isn't there is removed
  pub kept_without : (m : maps.FinMap R V) (k : K) → maps.get m k ≡ None → m ≡ maps.remove m k
  kept_without m k none = maps.same_map o exact m (maps.remove m k) (λ q. elim (cases_Bool (eq_by_cmp R q k)) [
    | inl t ↦ ap (maps.get m) (rising.one_key R o exact q k t) ∙ none ∙ ap (λ b. cond b None (maps.get m q)) (sym t) ∙ sym (maps.get-remove o m k q)
    | inr f ↦ ap (λ b. cond b None (maps.get m q)) (sym f) ∙ sym (maps.get-remove o m k q)
  ])
