-- Lists of names: when two are the same, and what stands where a name is found.
use Rattle.std.proofs.Common.{◌≡◌, ℕ, ◌+◌, ◌<◌, ◌≤◌, ◌==◌, Bool, take, drop, suc, arith, true, false, ◌||◌, List, [], ◌∷◌, ◌++◌, Some, slice_get, slice_index_or, if◌then◌else◌, position, refl, sym, ap, subst, ◌∙◌, nat_eq, true≢false, length}
use Rattle.std.specs.Bool.{Decides}
use Rattle.std.specs.Cmp.{IsEquivalence}
use Rattle.std.specs.Cmp.Lexicographic.{pointwise}
use Rattle.std.specs.List.{All, list_any, IsDistinct, AllByRecursion}
use Rattle.std.proofs.lemmas.Bool.Decides.{Decides-eqb}
use Rattle.std.proofs.lemmas.List.Elements.{All-append, All-cons, All-nil}
use Rattle.indexmap.specs.IndexSet.{insert_key}
use Rattle.std.proofs.lemmas.List.Quantifiers.{position-Some}
use Rattle.std.proofs.Math.Seq.{split_at}
use Rattle.std.proofs.lemmas.Bool.Decides.{nat_tests}
use Rattle.std.proofs.lemmas.Cmp.{nat_list_eq_equiv}
use Rattle.std.proofs.lemmas.List.{take_all, take_more}
use Rattle.std.proofs.lemmas.Map.Made.{AllPairs-from_IsDistinct, IsDistinct-from_AllPairs}
use Rattle.std.proofs.lemmas.Map.Keys.{IsDistinct-head, IsDistinct-tail}
use Rattle.std.proofs.lemmas.Option.{slice_get-get_or}
use Rattle.std.proofs.lemmas.Slice.Eq.{slice_eq-Decides}
use Rattle.dots.specs.declared.limits.TheConstants.{QUEUES}
use Rattle.dots.specs.Values.{IsName}
use Rattle.replica.specs.Queues.{AreDistinct, AreQueues}

-- `==` of two names decides whether their bytes are the same
pub same_names : (a b : List ℕ) → Decides (pointwise nat_eq a b) (a ≡ b)
same_names a b = slice_eq-Decides Decides-eqb a b (pointwise nat_eq a b) refl

-- where a name is found it stands
pub found_at : (name : List ℕ) (names : List (List ℕ)) (i : ℕ) → Some i ≡ position (pointwise nat_eq name) names → slice_get names i ≡ Some name
found_at name names i h =
    let there = position-Some (pointwise nat_eq name) names i [] (sym h) in
    slice_get-get_or names i [] there.0 ∙ ap Some (sym ((same_names name (slice_index_or names i [])).0 there.1))

fails_later : {K : Type 0} (eq : K → K → Bool) (y x : K) (xs ys : List K) → AllByRecursion (λ z. eq y z ≡ false) (xs ++ x ∷ ys) → eq y x ≡ false
fails_later eq y x [] ys h = h.0
fails_later eq y x (z ∷ xs) ys h = fails_later eq y x xs ys h.1

-- of distinct names none before one is the same
pub distinct_before : {K : Type 0} {eq : K → K → Bool} → IsEquivalence eq → (x : K) (xs ys : List K) → IsDistinct eq (xs ++ x ∷ ys) → list_any (eq x) xs ≡ false
distinct_before laws x [] ys h = refl
distinct_before {K} {eq} laws x (y ∷ xs) ys h =
    let apart = fails_later eq y x xs ys (IsDistinct-head eq y (xs ++ x ∷ ys) h) in
    (λ i. (laws.symm x y ∙ apart) i || list_any (eq x) xs) ∙ distinct_before laws x xs ys (IsDistinct-tail eq y (xs ++ x ∷ ys) h)

-- what the loop over the names keeps: those so far are held in order, and are distinct
pub record HoldsNames (held front : List (List ℕ)) : Type 0 where
  pub same : held ≡ front
  pub distinct : IsDistinct (pointwise nat_eq) held

some_names : (n : ℕ) → false ≡ (n == 0) → 0 < n
some_names n h = grind (arith, nat_tests)

-- when all names were put in, they are held, and are a list of queues
pub all_held : (held names : List (List ℕ)) (i : ℕ) → HoldsNames held (take i names) → length names ≤ i → held ≡ names
all_held held names i h past = h.same ∙ take_all i names past

pub queues_held : (held names : List (List ℕ)) (i : ℕ) → HoldsNames held (take i names) → All IsName held → length names ≤ i → false ≡ (length names == 0) → length names ≤ QUEUES → AreQueues names
queues_held held names i h all past some few = record {
  some = some_names (length names) some;
  few = few;
  are_names = subst (All IsName) (all_held held names i h past) all;
  distinct = AllPairs-from_IsDistinct same_names names (subst (IsDistinct (pointwise nat_eq)) (all_held held names i h past) h.distinct);
}

-- a name that is not held yet is held behind the others
pub holds_one_more : (held names after : List (List ℕ)) (i : ℕ) (name : List ℕ) → HoldsNames held (take i names) → i < length names → name ≡ slice_index_or names i name
    → after ≡ insert_key (pointwise nat_eq) held name → list_any (pointwise nat_eq name) held ≡ false → IsDistinct (pointwise nat_eq) after → HoldsNames after (take (i + 1) names)
holds_one_more held names after i name h here is insert new distinct = record {
  same = insert ∙ ap (λ b. if b then held else held ++ name ∷ []) new ∙ (λ k. h.same k ++ is k ∷ []) ∙ sym (take_more names i name here);
  distinct = distinct;
}

-- one name more leaves all of them names
pub all_names_with : (held : List (List ℕ)) (name : List ℕ) → All IsName held → IsName name → All IsName (insert_key (pointwise nat_eq) held name)
all_names_with held name all h = elim (list_any (pointwise nat_eq name) held) as (λ b. All IsName (if b then held else held ++ name ∷ [])) [
  | true ↦ all
  | false ↦ All-append IsName held (name ∷ []) all (All-cons IsName name [] h (All-nil IsName))
]

-- a name that is held already comes twice
pub comes_twice : (held names : List (List ℕ)) (i : ℕ) (name : List ℕ) → HoldsNames held (take i names) → i < length names
    → name ≡ slice_index_or names i name → list_any (pointwise nat_eq name) held ≡ true → AreDistinct names → ⊥
comes_twice held names i name h here is there apart =
    let all : IsDistinct (pointwise nat_eq) names = IsDistinct-from_AllPairs same_names names apart in
    let cut : IsDistinct (pointwise nat_eq) (take i names ++ slice_index_or names i name ∷ drop (suc i) names) = subst (IsDistinct (pointwise nat_eq)) (split_at names i name here) all in
    let none = distinct_before nat_list_eq_equiv (slice_index_or names i name) (take i names) (drop (suc i) names) cut in
    true≢false (sym there ∙ ap (list_any (pointwise nat_eq name)) h.same ∙ ap (λ n. list_any (pointwise nat_eq n) (take i names)) is ∙ none)
