-- What holds of all items after one item more, or one less, and what a function makes of them.
use Rattle.std.proofs.Common.{◌≡◌, ◌≢◌, ℕ, suc, zero, ◌<◌, List, [], ◌∷◌, ◌++◌, length, get_or, take, drop, map as each, sym, ◌∙◌, arith}
use Rattle.std.specs.List.{All, insert, remove}
use Rattle.std.proofs.lemmas.List.{drop-map, map-append, take-map}
use Rattle.std.proofs.lemmas.List.Elements.{All-append, All-cons, All-drop, All-nil, All-take}

module _ {X : Type 0} (P : X → Type 0) where
  pub All_remove : (xs : List X) (i : ℕ) → All P xs → All P (remove xs i)
  All_remove xs i a = All-append P (take i xs) (drop (suc i) xs) (All-take P i xs a) (All-drop P (suc i) xs a)

  pub All_insert : (xs : List X) (i : ℕ) (x : X) → P x → All P xs → All P (insert xs i x)
  All_insert xs i x p a = All-append P (take i xs) (x ∷ drop i xs) (All-take P i xs a) (All-cons P x (drop i xs) p (All-drop P i xs a))

  -- of all but the one that is taken out
  pub All_others : (xs : List X) (i : ℕ) → ((k : ℕ) (d : X) → k < length xs → k ≢ i → P (get_or xs k d)) → All P (remove xs i)
  All_others [] zero h = All-nil P
  All_others [] (suc i) h = All-nil P
  All_others (x ∷ xs) zero h = λ k d l. h (suc k) d (omega arith) (λ e. absurd (omega arith))
  All_others (x ∷ xs) (suc i) h = All-cons P x (remove xs i) (h 0 x (omega arith) (λ e. absurd (omega arith))) (All_others xs i (λ k d l n. h (suc k) d (omega arith) (λ e. n (omega arith))))

module _ {X Y : Type 0} (f : X → Y) where
  pub map_insert : (xs : List X) (i : ℕ) (x : X) → each f (insert xs i x) ≡ insert (each f xs) i (f x)
  map_insert xs i x = map-append f (take i xs) (x ∷ drop i xs) ∙ (λ k. sym (take-map f i xs) k ++ (f x ∷ sym (drop-map f i xs) k))

  pub map_remove : (xs : List X) (i : ℕ) → each f (remove xs i) ≡ remove (each f xs) i
  map_remove xs i = map-append f (take i xs) (drop (suc i) xs) ∙ (λ k. sym (take-map f i xs) k ++ sym (drop-map f (suc i) xs) k)
