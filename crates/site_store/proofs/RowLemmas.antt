-- Rows as lists: one more row, and the rows that a query shows.
use Rattle.std.proofs.Common.{◌≡◌, ◌⊎◌, inl, inr, ℕ, zero, suc, ◌+◌, ◌<◌, List, [], ◌∷◌, ◌++◌, map, length, Bool, true, false, ◌||◌, ◌≤◌, ◌≢◌, get_or, refl, sym, ap, ap₂, subst, ◌∙◌, arith}
use Rattle.std.specs.List.{flat_map}
use Rattle.std.specs.declared.cmp.Ordering.{Ordering}
use Rattle.std.specs.declared.cmp.Ordering.TheVariants.{Less, Equal, Greater}
use Rattle.std.specs.Ordering.{is_eq, match_ordering}
use Rattle.std.specs.List.Sorted.{IsPermutation}
use Rattle.std.proofs.lemmas.List.Sorted.{IsPermutation-refl, IsPermutation-sym, IsPermutation-trans, IsPermutation-cons, IsPermutation-middle, IsPermutation-to_front, IsPermutation-map, length_permutation, All-permutation}
use Rattle.sqlite.specs.declared.types.Value.{Value}
use Rattle.sqlite.specs.Order.{Row, value_cmp}
use Rattle.sqlite.specs.Tree.{rowid, put_row}
use Rattle.sqlite.specs.Edit.{is_taken}
use Rattle.stored_steps.specs.Stored.{Stored}
use Rattle.site_store.specs.Steps.{shown, step_row, rows_from, Lists}

-- five values, each the same
pub all_same : {a b c d e p q r s t : Value} → a ≡ p → b ≡ q → c ≡ r → d ≡ s → e ≡ t → a ∷ b ∷ c ∷ d ∷ e ∷ [] ≡ p ∷ q ∷ r ∷ s ∷ t ∷ []
all_same one two three four five = λ i. one i ∷ two i ∷ three i ∷ four i ∷ five i ∷ []

put_one : (new r : Row) (rs put : List Row) (o : Ordering) → is_eq o ≡ false → IsPermutation (new ∷ rs) put
    → IsPermutation (new ∷ r ∷ rs) (match_ordering o (r ∷ put) (new ∷ rs) (new ∷ r ∷ rs))
put_one new r rs put Less apart more =
    IsPermutation-trans (new ∷ r ∷ rs) (r ∷ new ∷ rs) (r ∷ put) (IsPermutation-sym (r ∷ new ∷ rs) (new ∷ r ∷ rs) (IsPermutation-middle (r ∷ []) new rs)) (IsPermutation-cons r (new ∷ rs) put more)
put_one new r rs put Equal apart more = absurd cc
put_one new r rs put Greater apart more = IsPermutation-refl (new ∷ r ∷ rs)

or_left_false : (a b : Bool) → (a || b) ≡ false → a ≡ false
or_left_false true b h = absurd cc
or_left_false false b h = refl

or_right_false : (a b : Bool) → (a || b) ≡ false → b ≡ false
or_right_false true b h = absurd cc
or_right_false false b h = h

-- a row whose rowid no row has is put beside them
pub put_fresh : (new : Row) (rows : List Row) → is_taken rows new ≡ false → IsPermutation (new ∷ rows) (put_row new rows)
put_fresh new [] fresh = IsPermutation-refl (new ∷ [])
put_fresh new (r ∷ rs) fresh =
    put_one new r rs (put_row new rs) (value_cmp (rowid r) (rowid new)) (or_left_false _ _ fresh) (put_fresh new rs (or_right_false _ _ fresh))

pub rows_from-push : (at : ℕ) (list : List Stored) (s : Stored) → rows_from at (list ++ s ∷ []) ≡ rows_from at list ++ step_row (at + length list) s ∷ []
rows_from-push at [] s = let same : at + 0 ≡ at = omega arith in rw same
rows_from-push at (x ∷ list) s =
    let more = rows_from-push (at + 1) list s in
    let same : at + 1 + length list ≡ at + length (x ∷ list) = omega arith in
    ap (λ rows. step_row at x ∷ rows) (rw same at more)

-- one more step is listed where its row is put
pub lists_more : (new : Row) (rows : List Row) (at : ℕ) (list : List Stored) (s : Stored) → is_taken rows new ≡ false → shown new ≡ step_row (at + length list) s → Lists rows at list
    → Lists (put_row new rows) at (list ++ s ∷ [])
lists_more new rows at list s fresh shows lists =
    let put = IsPermutation-map shown (put_row new rows) (new ∷ rows) (IsPermutation-sym (new ∷ rows) (put_row new rows) (put_fresh new rows fresh)) in
    let all = IsPermutation-cons (shown new) (map shown rows) (rows_from at list) lists in
    let last = IsPermutation-sym (rows_from at list ++ shown new ∷ []) (shown new ∷ rows_from at list) (IsPermutation-to_front (rows_from at list) (shown new)) in
    let whole = IsPermutation-trans _ _ _ (IsPermutation-trans _ _ _ put all) last in
    rw (rows_from-push at list s, sym shows) whole

pub flat_map_single : {X Y : Type 0} (f : X → Y) (xs : List X) → flat_map (λ x. f x ∷ []) xs ≡ map f xs
flat_map_single f [] = refl
flat_map_single f (x ∷ xs) = ap (λ ys. f x ∷ ys) (flat_map_single f xs)

-- ---- rows are those of one list of steps alone

step_position : (a b : ℕ) (s t : Stored) → step_row a s ≡ step_row b t → a ≡ b
step_position a b s t e = cc

step_stored : (a b : ℕ) (s t : Stored) → step_row a s ≡ step_row b t → s ≡ t
step_stored a b s t e =
    let pass : s.pass ≡ t.pass = cc in
    let kind : s.kind ≡ t.kind = cc in
    let bytes : s.bytes ≡ t.bytes = cc in
    λ i. record { pass = pass i; kind = kind i; bytes = bytes i }

-- a row is that of one of the steps
abbrev IsOf : ℕ → List Stored → Row → Type 0
IsOf at [] row = ⊥
IsOf at (s ∷ more) row = (row ≡ step_row at s) ⊎ IsOf (at + 1) more row

-- the row of each of these steps is that of one of those
abbrev AreOf : ℕ → List Stored → ℕ → List Stored → Type 0
AreOf at list n [] = Unit {0}
AreOf at list n (s ∷ more) = IsOf at list (step_row n s) × AreOf at list (n + 1) more

is_of_each : (at : ℕ) (list : List Stored) (i : ℕ) (d : Row) → i < length (rows_from at list) → IsOf at list (get_or (rows_from at list) i d)
is_of_each at [] i d low = absurd (omega arith)
is_of_each at (s ∷ more) zero d low = inl refl
is_of_each at (s ∷ more) (suc i) d low = inr (is_of_each (at + 1) more i d (omega arith))

are_of_all : (at : ℕ) (list : List Stored) (n : ℕ) (others : List Stored) → ((i : ℕ) (d : Row) → i < length (rows_from n others) → IsOf at list (get_or (rows_from n others) i d)) → AreOf at list n others
are_of_all at list n [] each = tt
are_of_all at list n (s ∷ more) each = (each 0 [] (omega arith), are_of_all at list (n + 1) more (λ i d low. each (suc i) d (omega arith)))

is_not_before : (at : ℕ) (list : List Stored) (n : ℕ) (s : Stored) → IsOf at list (step_row n s) → at ≤ n
is_not_before at [] n s h = absurd h
is_not_before at (t ∷ more) n s (inl e) = let same = step_position n at s t e in omega arith
is_not_before at (t ∷ more) n s (inr h) = let later = is_not_before (at + 1) more n s h in omega arith

are_of_rest : (at n : ℕ) (t : Stored) (list others : List Stored) → at < n → AreOf at (t ∷ list) n others → AreOf (at + 1) list n others
are_of_rest at n t list [] below h = tt
are_of_rest at n t list (s ∷ more) below h = (rest h.0, are_of_rest at (n + 1) t list more (omega arith) h.1)
  where
    rest : IsOf at (t ∷ list) (step_row n s) → IsOf (at + 1) list (step_row n s)
    rest (inl e) = let same = step_position n at s t e in absurd (omega arith)
    rest (inr h) = h

same_steps : (at : ℕ) (list others : List Stored) → length list ≡ length others → AreOf at list at others → list ≡ others
same_steps at [] [] len h = refl
same_steps at [] (s ∷ more) len h = absurd (omega arith)
same_steps at (t ∷ list) [] len h = absurd (omega arith)
same_steps at (t ∷ list) (s ∷ more) len h = ap₂ (λ x xs. x ∷ xs) (head h.0) (same_steps (at + 1) list more (omega arith) (are_of_rest at (at + 1) t list more (omega arith) h.1))
  where
    head : IsOf at (t ∷ list) (step_row at s) → t ≡ s
    head (inl e) = sym (step_stored at at s t e)
    head (inr h) = let late = is_not_before (at + 1) list at s h in absurd (omega arith)

pub rows_length : (at : ℕ) (list : List Stored) → length (rows_from at list) ≡ length list
rows_length at [] = refl
rows_length at (s ∷ more) = ap suc (rows_length (at + 1) more)

are_of_lists : (rows : List Row) (at n : ℕ) (list others : List Stored) → Lists rows at list → Lists rows n others → AreOf at list n others
are_of_lists rows at n list others one two =
    let both = IsPermutation-trans (rows_from at list) (map shown rows) (rows_from n others) (IsPermutation-sym (map shown rows) (rows_from at list) one) two in
    are_of_all at list n others (All-permutation (IsOf at list) (rows_from at list) (rows_from n others) both (is_of_each at list))

same_start : (at n : ℕ) (list others : List Stored) → list ≢ [] → length list ≡ length others → AreOf at list n others → AreOf n others at list → at ≡ n
same_start at n [] others some len one two = absurd (some refl)
same_start at n (t ∷ list) [] some len one two = absurd (omega arith)
same_start at n (t ∷ list) (s ∷ others) some len one two =
    let low = is_not_before at (t ∷ list) n s one.0 in
    let high = is_not_before n (s ∷ others) at t two.0 in
    omega arith

-- rows list one list of steps alone
pub lists_once : (rows : List Row) (at n : ℕ) (list others : List Stored) → Lists rows at list → Lists rows n others → list ≢ [] → (at ≡ n) × (list ≡ others)
lists_once rows at n list others one two some =
    let size : length list ≡ length others =
    sym (rows_length at list) ∙ length_permutation (map shown rows) (rows_from at list) one ∙ sym (length_permutation (map shown rows) (rows_from n others) two) ∙ rows_length n others in
    let here = are_of_lists rows at n list others one two in
    let start = same_start at n list others some size here (are_of_lists rows n at others list two one) in
    let there : AreOf at list at others = subst (λ k. AreOf at list k others) (sym start) here in
    (start, same_steps at list others size there)
