-- Where the values of all chunks lie.
use Rattle.std.proofs.Common.{◌≡◌, ℕ, zero, suc, ◌+◌, ◌-◌, ◌^◌, ◌<◌, ◌≤◌, List, [], ◌∷◌, ◌++◌, length, slice_get, slice_set, Some, refl, sym, ap, ◌∙◌, subst, arith, length-append}
use Rattle.std.specs.Prelude.{get_or, ◌*◌, ◌%◌, ◌⊎◌}
use lib.Count.{count_leading_zeros}
use Rattle.std.proofs.lemmas.Nat.{leading_top, one_shl}
use Rattle.std.proofs.lemmas.Option.{slice_get-get_or}
use Rattle.std.proofs.Common.{inl, inr}
use Rattle.std.proofs.Math.Nat.{pow-succ', pow-le-pow_right, one-le-pow}
use Rattle.std.proofs.lemmas.List.{length-set}
use Rattle.op_arena.specs.Columns.{Column, column}
use Rattle.op_arena.specs.Sizes.{size, total, all_items, IsLaid, IsPlaceOf}

-- the number of values that `d` chunks from chunk `k` on hold
abbrev pub span : ℕ → ℕ → ℕ
span k zero = 0
span k (suc d) = size k + span (suc k) d

doubled : (n : ℕ) → 2 ^ suc n ≡ 2 ^ n + 2 ^ n
doubled n = omega (arith, pow-succ' 2 n)

span_power : (a d : ℕ) → span (suc a) d + 2 ^ a ≡ 2 ^ (a + d)
span_power a zero = let e : a ≡ a + 0 = omega arith in let same : 2 ^ a ≡ 2 ^ (a + 0) = ap (λ m. 2 ^ m) e in omega (arith, same)
span_power a (suc d) =
    let e : suc a + d ≡ a + suc d = omega arith in
    let all : span (suc (suc a)) d + 2 ^ suc a ≡ 2 ^ (suc a + d) = span_power (suc a) d in
    let twice : 2 ^ suc a ≡ 2 ^ a + 2 ^ a = doubled a in
    let same : 2 ^ (suc a + d) ≡ 2 ^ (a + suc d) = ap (λ m. 2 ^ m) e in
    omega (arith, all, twice, same)

pub span_total : (m : ℕ) → span 0 m ≡ total m
span_total zero = refl
span_total (suc d) =
    let all : span 1 d + 2 ^ 0 ≡ 2 ^ (0 + d) = span_power 0 d in let e : 0 + d ≡ d = omega arith in let same : 2 ^ (0 + d) ≡ 2 ^ d = ap (λ m. 2 ^ m) e in
    let first : 2 ^ 0 ≡ 1 = refl in omega (arith, all, same, first)

-- the next chunk is as large as all before it together
pub total_next : (m : ℕ) → total (suc (suc m)) ≡ total (suc m) + total (suc m)
total_next m = doubled m

pub total_limit : (m : ℕ) → m ≤ 21 → total m ≤ 2 ^ 20
total_limit zero le = omega arith
total_limit (suc m) le = let few : m ≤ 20 = omega arith in pow-le-pow_right {n = 2} (omega arith) few

pub total_below : (m : ℕ) → m ≤ 21 → total m < 2 ^ 20 → suc m ≤ 21
total_below m le lt =
    let full : m ≡ 21 → ⊥ = λ e. let t : total m ≡ 2 ^ 20 = ap total e in omega (arith, t, lt) in omega (arith, le, full)

-- the size of the next chunk, from what all before it hold
pub next_size : (m capacity s : ℕ) → capacity ≡ total m → ((capacity ≡ 0) × (s ≡ 1)) ⊎ ((capacity ≡ 0 → ⊥) × (s ≡ capacity)) → (s ≡ size m) × (capacity + s ≡ total (suc m))
next_size zero capacity s e (inl (none, is)) = let first : 2 ^ 0 ≡ 1 = refl in (is, omega (arith, none, is, first))
next_size zero capacity s e (inr (some, is)) = absurd (some e)
next_size (suc m) capacity s e (inl (none, is)) = let some : 1 ≤ 2 ^ m = one-le-pow m 2 (omega arith) in absurd (omega (arith, e, none, some))
next_size (suc m) capacity s e (inr (some, is)) = (is ∙ e, omega (arith, total_next m, e, is))

-- past the first chunk, the highest bit of an index gives its chunk
pub located : (i p one : ℕ) → 1 ≤ i → i < 2 ^ 64 → p ≡ 63 - count_leading_zeros 64 i → one ≡ (1 * 2 ^ p) % 2 ^ 64 → (one ≤ i) × IsPlaceOf i (p + 1) (i - one)
located i p one large fits is bit =
    let top = leading_top 64 i (omega arith) fits in let j = top.0 in let same : p ≡ j = omega (arith, top.1, is) in
    let power : one ≡ 2 ^ j = bit ∙ one_shl p 64 (omega (arith, top.1, same)) ∙ ap (λ m. 2 ^ m) same in
    let after_first : p + 1 ≡ suc j = omega (arith, same) in
    let start : total (p + 1) ≡ 2 ^ j = ap total after_first in let large_enough : size (p + 1) ≡ 2 ^ j = ap size after_first in
    (omega (arith, power, top.2), (omega (arith, start, power, top.2), omega (arith, large_enough, power, top.2, top.3, doubled j)))

module _ {X : Type 0} where
  same_column : (b c : Column X) → Some b ≡ Some c → b ≡ c
  same_column b c e = cc

  before : (xs ys : List X) (i : ℕ) → i < length xs → slice_get (xs ++ ys) i ≡ slice_get xs i
  before [] ys i lt = absurd (omega arith)
  before (x ∷ xs) ys zero lt = refl
  before (x ∷ xs) ys (suc i) lt = before xs ys i (omega arith)

  after : (xs ys : List X) (n i : ℕ) → n ≡ length xs + i → slice_get (xs ++ ys) n ≡ slice_get ys i
  after [] ys n i e = let same : n ≡ i = omega arith in ap (slice_get ys) same
  after (x ∷ xs) ys zero i e = absurd (omega arith)
  after (x ∷ xs) ys (suc n) i e = after xs ys n i (omega arith)

  set_before : (xs ys : List X) (i : ℕ) (w : X) → i < length xs → slice_set xs i w ++ ys ≡ slice_set (xs ++ ys) i w
  set_before [] ys i w lt = absurd (omega arith)
  set_before (x ∷ xs) ys zero w lt = refl
  set_before (x ∷ xs) ys (suc i) w lt = ap (λ zs. x ∷ zs) (set_before xs ys i w (omega arith))

  set_after : (xs ys : List X) (n i : ℕ) (w : X) → n ≡ length xs + i → xs ++ slice_set ys i w ≡ slice_set (xs ++ ys) n w
  set_after [] ys n i w e = let same : i ≡ n = omega arith in ap (λ m. slice_set ys m w) same
  set_after (x ∷ xs) ys zero i w e = absurd (omega arith)
  set_after (x ∷ xs) ys (suc n) i w e = ap (λ zs. x ∷ zs) (set_after xs ys n i w (omega arith))

  assoc : (xs ys zs : List X) → (xs ++ ys) ++ zs ≡ xs ++ (ys ++ zs)
  assoc [] ys zs = refl
  assoc (x ∷ xs) ys zs = ap (λ l. x ∷ l) (assoc xs ys zs)

  no_more : (xs : List X) → xs ++ [] ≡ xs
  no_more [] = refl
  no_more (x ∷ xs) = ap (λ l. x ∷ l) (no_more xs)

  no_items : (xs : List X) → length xs ≡ 0 → xs ≡ []
  no_items [] e = refl
  no_items (x ∷ xs) e = absurd (omega arith)

  pub length_all : (k n : ℕ) (cs : List (Column X)) → IsLaid k n cs → length (all_items cs) ≡ n
  length_all k n [] laid = sym laid
  length_all k n (c ∷ cs) laid = omega (arith, length-append c.items (all_items cs), length_all (suc k) (n - size k) cs laid.2, laid.1)

  pub within_span : (k n : ℕ) (cs : List (Column X)) → IsLaid k n cs → n ≤ span k (length cs)
  within_span k n [] laid = omega (arith, laid)
  within_span k n (c ∷ cs) laid = omega (arith, within_span (suc k) (n - size k) cs laid.2)

  none_laid : (k n : ℕ) (cs : List (Column X)) → n ≡ 0 → IsLaid k n cs → all_items cs ≡ []
  none_laid k n cs e laid = no_items (all_items cs) (length_all k n cs laid ∙ e)

  -- the chunk of a place is there
  pub chunk_there : (k d j : ℕ) (cs : List (Column X)) → span k d + j < span k (length cs) → d < length cs
  chunk_there k d j [] lt = absurd (omega arith)
  chunk_there k zero j (c ∷ cs) lt = omega arith
  chunk_there k (suc d) j (c ∷ cs) lt = omega (arith, chunk_there (suc k) d j cs (omega (arith, lt)))

  -- the value at an index is at its place
  pub found : (k n d j : ℕ) (cs : List (Column X)) (c : Column X) → IsLaid k n cs → j < size (k + d) → span k d + j < n → slice_get cs d ≡ Some c
      → (j < length c.items) × (slice_get (all_items cs) (span k d + j) ≡ slice_get c.items j)
  found k n d j [] c laid small lt e = cc
  found k n zero j (b ∷ cs) c laid small lt e =
      let same : b ≡ c = same_column b c e in let here : k + 0 ≡ k = omega arith in let near : j < size k = subst (λ m. j < size m) here small in
      let short : j < length b.items = omega (arith, laid.1, near, lt) in
      subst (λ (a : Column X). (j < length a.items) × (slice_get (b.items ++ all_items cs) (0 + j) ≡ slice_get a.items j)) same
      (let zero_less : 0 + j ≡ j = omega arith in (short, ap (slice_get (b.items ++ all_items cs)) zero_less ∙ before b.items (all_items cs) j short))
  found k n (suc d) j (b ∷ cs) c laid small lt e =
      let there : k + suc d ≡ suc k + d = omega arith in let rest = found (suc k) (n - size k) d j cs c laid.2 (subst (λ m. j < size m) there small) (omega (arith, lt)) e in
      (rest.0, after b.items (all_items cs) (span k (suc d) + j) (span (suc k) d + j) (omega (arith, laid.1, lt)) ∙ rest.1)

  -- a value is written over
  pub found_set : (k n d j : ℕ) (cs : List (Column X)) (c new : Column X) (w : X) → IsLaid k n cs → j < size (k + d) → span k d + j < n → slice_get cs d ≡ Some c → new ≡ column (slice_set c.items j w) c.capacity
      → IsLaid k n (slice_set cs d new) × (all_items (slice_set cs d new) ≡ slice_set (all_items cs) (span k d + j) w)
  found_set k n d j [] c new w laid small lt e is = cc
  found_set k n zero j (b ∷ cs) c new w laid small lt e is =
      let same : c ≡ b = sym (same_column b c e) in let here : k + 0 ≡ k = omega arith in let near : j < size k = subst (λ m. j < size m) here small in
      let short : j < length b.items = omega (arith, laid.1, near, lt) in let zero_less : j ≡ 0 + j = omega arith in
      let new_is : new ≡ column (slice_set b.items j w) b.capacity = is ∙ ap (λ (a : Column X). column (slice_set a.items j w) a.capacity) same in
      subst (λ (a : Column X). IsLaid k n (a ∷ cs) × (a.items ++ all_items cs ≡ slice_set (b.items ++ all_items cs) (0 + j) w)) (sym new_is)
      ((laid.0, length-set b.items j w ∙ laid.1, laid.2), set_before b.items (all_items cs) j w short ∙ ap (λ m. slice_set (b.items ++ all_items cs) m w) zero_less)
  found_set k n (suc d) j (b ∷ cs) c new w laid small lt e is =
      let there : k + suc d ≡ suc k + d = omega arith in let rest = found_set (suc k) (n - size k) d j cs c new w laid.2 (subst (λ m. j < size m) there small) (omega (arith, lt)) e is in
      ((laid.0, laid.1, rest.0), ap (λ l. b.items ++ l) rest.1 ∙ set_after b.items (all_items cs) (span k (suc d) + j) (span (suc k) d + j) w (omega (arith, laid.1, lt)))

  -- one more value goes to the first empty place
  pub found_push : (k n d j : ℕ) (cs : List (Column X)) (c new : Column X) (w : X) → IsLaid k n cs → j < size (k + d) → span k d + j ≡ n → slice_get cs d ≡ Some c → new ≡ column (c.items ++ w ∷ []) c.capacity
      → IsLaid k (n + 1) (slice_set cs d new) × (all_items (slice_set cs d new) ≡ all_items cs ++ w ∷ [])
  found_push k n d j [] c new w laid small end e is = cc
  found_push k n zero j (b ∷ cs) c new w laid small end e is =
      let same : c ≡ b = sym (same_column b c e) in let here : k + 0 ≡ k = omega arith in let near : j < size k = subst (λ m. j < size m) here small in
      let none : n - size k ≡ 0 = omega (arith, near, end) in let still : n - size k ≡ n + 1 - size k = omega (arith, near, end) in let empty = none_laid (suc k) (n - size k) cs none laid.2 in
      let new_is : new ≡ column (b.items ++ w ∷ []) b.capacity = is ∙ ap (λ (a : Column X). column (a.items ++ w ∷ []) a.capacity) same in
      subst (λ (a : Column X). IsLaid k (n + 1) (a ∷ cs) × (a.items ++ all_items cs ≡ (b.items ++ all_items cs) ++ w ∷ [])) (sym new_is) (
        (laid.0, omega (arith, length-append b.items (w ∷ []), laid.1, near, end), subst (λ m. IsLaid (suc k) m cs) still laid.2),
        ap (λ l. (b.items ++ w ∷ []) ++ l) empty ∙ no_more (b.items ++ w ∷ []) ∙ ap (λ l. l ++ w ∷ []) (sym (no_more b.items)) ∙ ap (λ l. (b.items ++ l) ++ w ∷ []) (sym empty),
      )
  found_push k n (suc d) j (b ∷ cs) c new w laid small end e is =
      let there : k + suc d ≡ suc k + d = omega arith in let rest = found_push (suc k) (n - size k) d j cs c new w laid.2 (subst (λ m. j < size m) there small) (omega (arith, end)) e is in
      let further : n - size k + 1 ≡ n + 1 - size k = omega (arith, end) in
      ((laid.0, omega (arith, laid.1, end), subst (λ m. IsLaid (suc k) m (slice_set cs d new)) further rest.0), ap (λ l. b.items ++ l) rest.1 ∙ sym (assoc b.items (all_items cs) (w ∷ [])))

  -- one more chunk, with no value
  pub grown : (k n m : ℕ) (cs : List (Column X)) → IsLaid k n cs → m ≡ k + length cs → IsLaid k n (cs ++ column [] (size m) ∷ []) × (all_items (cs ++ column [] (size m) ∷ []) ≡ all_items cs)
  grown k n m [] laid e = let here : m ≡ k = omega arith in ((ap size here, omega (arith, laid), omega (arith, laid)), refl)
  grown k n m (c ∷ cs) laid e = let rest = grown (suc k) (n - size k) m cs laid.2 (omega arith) in ((laid.0, laid.1, rest.0), ap (λ l. c.items ++ l) rest.1)

  found_room : (k n d j : ℕ) (cs : List (Column X)) (c : Column X) → IsLaid k n cs → j < size (k + d) → span k d + j ≡ n → slice_get cs d ≡ Some c → length c.items < c.capacity
  found_room k n d j [] c laid small end e = cc
  found_room k n zero j (b ∷ cs) c laid small end e =
      let same : b ≡ c = same_column b c e in let here : k + 0 ≡ k = omega arith in let near : j < size k = subst (λ m. j < size m) here small in
      subst (λ (a : Column X). length a.items < a.capacity) same (omega (arith, laid.0, laid.1, near, end))
  found_room k n (suc d) j (b ∷ cs) c laid small end e =
      let there : k + suc d ≡ suc k + d = omega arith in found_room (suc k) (n - size k) d j cs c laid.2 (subst (λ m. j < size m) there small) (omega (arith, end)) e

  -- the chunk of an index exists, from the first chunk on
  pub there : (i d j : ℕ) (cs : List (Column X)) → IsPlaceOf i d j → i < total (length cs) → d < length cs
  there i d j cs at lt = chunk_there 0 d j cs (omega (arith, span_total d, at.0, span_total (length cs), lt))

  pub length_within : (n : ℕ) (cs : List (Column X)) → IsLaid 0 n cs → (length (all_items cs) ≡ n) × (n ≤ total (length cs))
  length_within n cs laid = (length_all 0 n cs laid, omega (arith, within_span 0 n cs laid, span_total (length cs)))

  module _ (n i d j : ℕ) (cs : List (Column X)) (c : Column X) (laid : IsLaid 0 n cs) (at : IsPlaceOf i d j) where
    small : j < size (0 + d)
    small = let e : d ≡ 0 + d = omega arith in subst (λ m. j < size m) e at.1

    sum : span 0 d + j ≡ i
    sum = omega (arith, span_total d, at.0)

    module _ (within : d < length cs) (read : c ≡ get_or cs d c) where
      is : slice_get cs d ≡ Some c
      is = slice_get-get_or cs d c within ∙ ap Some (sym read)

      pub read_at : i < n → (j < length c.items) × (slice_get (all_items cs) i ≡ slice_get c.items j)
      read_at lt = let r = found 0 n d j cs c laid small (omega (arith, sum, lt)) is in (r.0, ap (slice_get (all_items cs)) (sym sum) ∙ r.1)

      pub set_at : (new : Column X) (w : X) → i < n → new ≡ column (slice_set c.items j w) c.capacity → IsLaid 0 n (slice_set cs d new) × (all_items (slice_set cs d new) ≡ slice_set (all_items cs) i w)
      set_at new w lt e = let r = found_set 0 n d j cs c new w laid small (omega (arith, sum, lt)) is e in (r.0, r.1 ∙ ap (λ m. slice_set (all_items cs) m w) sum)

      pub push_at : (new : Column X) (w : X) → i ≡ n → new ≡ column (c.items ++ w ∷ []) c.capacity → IsLaid 0 (n + 1) (slice_set cs d new) × (all_items (slice_set cs d new) ≡ all_items cs ++ w ∷ [])
      push_at new w end e = found_push 0 n d j cs c new w laid small (sum ∙ end) is e

      pub room_at : i ≡ n → length c.items < c.capacity
      room_at end = found_room 0 n d j cs c laid small (sum ∙ end) is
