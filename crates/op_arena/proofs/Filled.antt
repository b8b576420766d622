-- Places of which the first hold values, and the others are empty.
use Rattle.std.proofs.Common.{◌≡◌, ℕ, zero, suc, ◌+◌, ◌-◌, ◌^◌, ◌<◌, ◌≤◌, List, [], ◌∷◌, ◌++◌, length, map, replicate, get_or, slice_get, slice_set, Some, None, refl, sym, ap, ◌∙◌, arith}
use Rattle.std.specs.Prelude.{Option}
use Rattle.std.proofs.lemmas.List.{length-replicate, length-set}
use Rattle.op_arena.specs.CellRows.{values, IsFilled}

module _ {X : Type 0} where
  abbrev pub laid : List X → ℕ → List (Option X)
  laid xs k = map Some xs ++ replicate k None

  none_there : (k : ℕ) → values (replicate {A = Option X} k None) ≡ []
  none_there zero = refl
  none_there (suc k) = none_there k

  pub values_laid : (xs : List X) (k : ℕ) → values (laid xs k) ≡ xs
  values_laid [] k = none_there k
  values_laid (x ∷ xs) k = ap (λ ys. x ∷ ys) (values_laid xs k)

  empty_at : (k i : ℕ) → get_or (replicate {A = Option X} k None) i None ≡ None
  empty_at zero i = refl
  empty_at (suc k) zero = refl
  empty_at (suc k) (suc i) = empty_at k i

  -- a place reads as the list of the values does
  pub get_or_laid : (xs : List X) (k i : ℕ) → get_or (laid xs k) i None ≡ slice_get xs i
  get_or_laid [] k i = empty_at k i
  get_or_laid (x ∷ xs) k zero = refl
  get_or_laid (x ∷ xs) k (suc i) = get_or_laid xs k i

  pub one_there : (xs : List X) (i : ℕ) → i < length xs → (x : X) × (slice_get xs i ≡ Some x)
  one_there [] i lt = absurd (omega arith)
  one_there (x ∷ xs) zero lt = (x, refl)
  one_there (x ∷ xs) (suc i) lt = one_there xs i (omega arith)

  pub none_past : (xs : List X) → slice_get xs (length xs) ≡ None
  none_past [] = refl
  none_past (x ∷ xs) = none_past xs

  pub set_laid : (xs : List X) (k i : ℕ) (w : X) → i < length xs → slice_set (laid xs k) i (Some w) ≡ laid (slice_set xs i w) k
  set_laid [] k i w lt = absurd (omega arith)
  set_laid (x ∷ xs) k zero w lt = refl
  set_laid (x ∷ xs) k (suc i) w lt = ap (λ ys. Some x ∷ ys) (set_laid xs k i w (omega arith))

  pub push_laid : (xs : List X) (k : ℕ) (v : X) → slice_set (laid xs (suc k)) (length xs) (Some v) ≡ laid (xs ++ v ∷ []) k
  push_laid [] k v = refl
  push_laid (x ∷ xs) k v = ap (λ ys. Some x ∷ ys) (push_laid xs k v)

  pub length_laid : (xs : List X) (k : ℕ) → length (laid xs k) ≡ length xs + k
  length_laid [] k = length-replicate k None ∙ omega arith
  length_laid (x ∷ xs) k = omega (arith, length_laid xs k)

  pub length_more : (xs : List X) (v : X) → length (xs ++ v ∷ []) ≡ length xs + 1
  length_more [] v = refl
  length_more (x ∷ xs) v = omega (arith, length_more xs v)

  pub filled : (places : List (Option X)) (xs : List X) (len capacity : ℕ) → places ≡ laid xs (capacity - len) → len ≡ length xs → len ≤ capacity → capacity < 2 ^ 63
      → IsFilled places len capacity × (values places ≡ xs)
  filled places xs len capacity e l le small =
      let all : values places ≡ xs = ap values e ∙ values_laid xs (capacity - len) in
      (record { laid = e ∙ ap (λ ys. laid ys (capacity - len)) (sym all); count = l ∙ ap length (sym all); within = le; small = small }, all)

  -- the first i places are emptied
  abbrev pub gone : ℕ → List X → ℕ → List (Option X)
  gone zero xs k = laid xs k
  gone (suc i) [] k = replicate k None
  gone (suc i) (x ∷ xs) k = None ∷ gone i xs k

  pub gone_at : (i : ℕ) (xs : List X) (k : ℕ) → i < length xs → (x : X) × (get_or (gone i xs k) i None ≡ Some x)
  gone_at i [] k lt = absurd (omega arith)
  gone_at zero (x ∷ xs) k lt = (x, refl)
  gone_at (suc i) (x ∷ xs) k lt = gone_at i xs k (omega arith)

  pub gone_set : (i : ℕ) (xs : List X) (k : ℕ) → i < length xs → slice_set (gone i xs k) i None ≡ gone (suc i) xs k
  gone_set i [] k lt = absurd (omega arith)
  gone_set zero (x ∷ xs) k lt = refl
  gone_set (suc i) (x ∷ xs) k lt = ap (λ ys. None ∷ ys) (gone_set i xs k (omega arith))

  pub gone_all : (xs : List X) (k n : ℕ) → n ≡ length xs + k → gone (length xs) xs k ≡ replicate n None
  gone_all [] k n e = let same : k ≡ n = omega arith in ap (λ m. replicate m None) same
  gone_all (x ∷ xs) k zero e = absurd (omega arith)
  gone_all (x ∷ xs) k (suc n) e = ap (λ ys. None ∷ ys) (gone_all xs k n (omega arith))

  -- one more value, in the first empty place
  pub pushed : (places new : List (Option X)) (len capacity : ℕ) (v : X) → new ≡ slice_set places len (Some v) → IsFilled places len capacity → len < capacity
      → IsFilled new (len + 1) capacity × (values new ≡ values places ++ v ∷ [])
  pushed places new len capacity v set fills lt =
      let xs = values places in let k : ℕ = capacity - (len + 1) in let one : capacity - len ≡ suc k = omega arith in
      let all : new ≡ laid (xs ++ v ∷ []) k = set ∙ ap (λ ys. slice_set ys len (Some v)) fills.laid ∙ ap (λ m. slice_set (laid xs m) len (Some v)) one ∙ ap (λ m. slice_set (laid xs (suc k)) m (Some v)) fills.count ∙ push_laid xs k v in
      filled new (xs ++ v ∷ []) (len + 1) capacity all (omega (arith, fills.count, length_more xs v)) (omega arith) fills.small

  -- a value is written over
  pub rewritten : (places : List (Option X)) (len capacity i : ℕ) (w : X) → IsFilled places len capacity → i < length (values places)
      → IsFilled (slice_set places i (Some w)) len capacity × (values (slice_set places i (Some w)) ≡ slice_set (values places) i w)
  rewritten places len capacity i w fills lt =
      let xs = values places in
      filled (slice_set places i (Some w)) (slice_set xs i w) len capacity (ap (λ ys. slice_set ys i (Some w)) fills.laid ∙ set_laid xs (capacity - len) i w lt) (fills.count ∙ sym (length-set xs i w)) fills.within fills.small
