-- Entries in the order of their keys: what lies before others, what is found, and what an edit does.
use Rattle.std.proofs.Common.{◌≡◌, ℕ, zero, suc, ◌+◌, ◌<◌, true, false, cond, List, [], ◌∷◌, length, get_or, set, Some, None, Result, Ok, Err, IfOk, IfErr, ◌⊎◌, inl, inr, refl, sym, ap, ◌∙◌, arith}
use Rattle.std.specs.List.{insert}
use Rattle.std.specs.List.Sorted.{IsSearchInRange, IsBinarySearchResult, IsNonDecreasingBy}
use Rattle.std.specs.Cmp.{IsTotalOrder}
use Rattle.std.specs.declared.cmp.Ordering.{Ordering}
use Rattle.std.specs.declared.cmp.Ordering.TheVariants.{Less, Equal, Greater}
use Rattle.std.specs.Ordering.{is_eq, is_lt, eq_by_cmp, ordering_index, ordering_reverse}
use Rattle.std.specs.FinMap.{IsAntisymmetric}
use Rattle.std.specs.FinMap.Entries.{below_all, by_order, find, is_sorted, put}
use Rattle.std.proofs.lemmas.Bool.{and_from, and_parts}
use Rattle.std.proofs.lemmas.Cmp.{tied_itself}
use Rattle.std.proofs.lemmas.List.Sorted.{searchable_from_sorted}
use Rattle.general_lemmas.specs.SortedEntries.{IsRising, IsAt, IsGapFor}
use Rattle.general_lemmas.proofs.TruthTables.{less_of}

greater_not_less : (o : Ordering) → o ≡ Greater → is_lt o ≡ false
greater_not_less Less h = (cc)
greater_not_less Equal h = refl
greater_not_less Greater h = refl

-- keys in a total order
module _ {K : Type 0} (R : K → K → Ordering) (total : IsTotalOrder R) where
  -- the other way round
  pub less_back : (a b : K) → R a b ≡ Less → R b a ≡ Greater
  less_back a b h = total.antisymm b a ∙ ap ordering_reverse h

  pub greater_back : (a b : K) → R a b ≡ Greater → R b a ≡ Less
  greater_back a b h = total.antisymm b a ∙ ap ordering_reverse h

-- entries by their keys
module _ {K V : Type 0} (R : K → K → Ordering) (total : IsTotalOrder R) where
  -- the first key lies before the others, which rise
  pub rising_head : (e : K × V) (es : List (K × V)) → IsRising R (e ∷ es) → below_all R e.0 es ≡ true
  rising_head e es h = (and_parts (below_all R e.0 es) (is_sorted R es) h).0

  pub rising_tail : (e : K × V) (es : List (K × V)) → IsRising R (e ∷ es) → IsRising R es
  rising_tail e es h = (and_parts (below_all R e.0 es) (is_sorted R es) h).1

  -- what lies before a key lies before all that the key lies before
  pub below_from : (a b : K) (es : List (K × V)) → R a b ≡ Less → below_all R b es ≡ true → below_all R a es ≡ true
  below_from a b [] less h = refl
  below_from a b (e ∷ es) less h =
      let parts = and_parts (is_lt (R b e.0)) (below_all R b es) h in
      and_from (is_lt (R a e.0)) (below_all R a es) (ap is_lt (total.trans a b e.0 less (less_of _ parts.0))) (below_from a b es less parts.1)

  -- a key before the first key is before all
  pub below_first : (a : K) (e : K × V) (es : List (K × V)) → R a e.0 ≡ Less → IsRising R (e ∷ es) → below_all R a (e ∷ es) ≡ true
  below_first a e es less h = and_from (is_lt (R a e.0)) (below_all R a es) (ap is_lt less) (below_from a e.0 es less (rising_head e es h))

  below_at : (a : K) (es : List (K × V)) → below_all R a es ≡ true → (i : ℕ) (d : K × V) → i < length es → R a (get_or es i d).0 ≡ Less
  below_at a [] h i d lt = absurd (omega arith)
  below_at a (e ∷ es) h zero d lt = less_of _ (and_parts (is_lt (R a e.0)) (below_all R a es) h).0
  below_at a (e ∷ es) h (suc i) d lt = below_at a es (and_parts (is_lt (R a e.0)) (below_all R a es) h).1 i d (omega arith)

  -- each key is below each later one
  pub rising_at : (es : List (K × V)) → IsRising R es → (i j : ℕ) (d : K × V) → i < j → j < length es → R (get_or es i d).0 (get_or es j d).0 ≡ Less
  rising_at [] h i j d lt in_range = absurd (omega arith)
  rising_at (e ∷ es) h i zero d lt in_range = absurd (omega arith)
  rising_at (e ∷ es) h zero (suc j) d lt in_range = below_at e.0 es (rising_head e es h) j d (omega arith)
  rising_at (e ∷ es) h (suc i) (suc j) d lt in_range = rising_at es (rising_tail e es h) i j d (omega arith) (omega arith)

  -- ---- what is found

  -- a key that lies before all is not found
  pub find_below : (a : K) (es : List (K × V)) → below_all R a es ≡ true → find R a es ≡ None
  find_below a [] h = refl
  find_below a (e ∷ es) h =
      let parts = and_parts (is_lt (R a e.0)) (below_all R a es) h in
      ap (λ o. cond (is_eq o) (Some e.1) (find R a es)) (less_of _ parts.0) ∙ find_below a es parts.1

  -- an entry is found by its key
  find_self : (key : K) (e : K × V) (es : List (K × V)) → e.0 ≡ key → find R key (e ∷ es) ≡ Some e.1
  find_self key e es is = ap (λ k. cond (eq_by_cmp R key k) (Some e.1) (find R key es)) is ∙ ap (λ o. cond (is_eq o) (Some e.1) (find R key es)) (tied_itself total key)

  -- a search for another key passes an entry
  find_other : (key : K) (e : K × V) (es : List (K × V)) (o : Ordering) → R key e.0 ≡ o → is_eq o ≡ false → find R key (e ∷ es) ≡ find R key es
  find_other key e es o p q = ap (λ b. cond b (Some e.1) (find R key es)) (ap is_eq p ∙ q)

  -- the entry at a place is found by its key
  pub find_at : (es : List (K × V)) → IsRising R es → (key : K) (i : ℕ) (d : K × V) → IsAt es key i → find R key es ≡ Some (get_or es i d).1
  find_at [] h key i d at = absurd (omega (arith, at.in_range))
  find_at (e ∷ es) h key zero d at = find_self key e es (at.has_key d)
  find_at (e ∷ es) h key (suc i) d at =
      find_other key e es Greater (ap (λ k. R k e.0) (sym (at.has_key d)) ∙ less_back R total e.0 (get_or es i d).0 (below_at e.0 es (rising_head e es h) i d (omega (arith, at.in_range)))) refl
      ∙ find_at es (rising_tail e es h) key i d (record { in_range = omega (arith, at.in_range); has_key = at.has_key })

  -- what is left of a gap in the rest
  gap_rest : (e : K × V) (es : List (K × V)) (key : K) (i j : ℕ) → IsGapFor R (e ∷ es) key i → (i ≡ j + 1) ⊎ ((i ≡ 0) × (j ≡ 0)) → IsGapFor R es key j
  gap_rest e es key i j gap (inl is) = record {
    in_range = omega (arith, gap.in_range);
    smaller_before = λ k d lt. gap.smaller_before (suc k) d (omega arith);
    greater_after = λ k d le lt. gap.greater_after (suc k) d (omega arith) (omega arith);
  }
  gap_rest e es key i j gap (inr is) = record {
    in_range = omega (arith, is.1);
    smaller_before = λ k d lt. absurd (omega (arith, is.1));
    greater_after = λ k d le lt. gap.greater_after (suc k) d (omega (arith, is.0)) (omega arith);
  }

  -- a key that has a gap is not found
  pub find_in_gap : (es : List (K × V)) (key : K) (i : ℕ) → IsGapFor R es key i → find R key es ≡ None
  find_in_gap [] key i gap = refl
  find_in_gap (e ∷ es) key zero gap =
      find_other key e es Less (greater_back R total e.0 key (gap.greater_after 0 e (omega arith) (omega arith))) refl
      ∙ find_in_gap es key zero (gap_rest e es key zero zero gap (inr (refl, refl)))
  find_in_gap (e ∷ es) key (suc i) gap =
      find_other key e es Greater (less_back R total e.0 key (gap.smaller_before 0 e (omega arith))) refl
      ∙ find_in_gap es key i (gap_rest e es key (suc i) i gap (inl (omega arith)))

  -- ---- what an edit does

  -- what it is to put a value at the key of the first entry, before it, or after it
  put_here : (e : K × V) (es : List (K × V)) (key : K) (value : V) → R key e.0 ≡ Equal → put R key value (e ∷ es) ≡ (e.0, value) ∷ es
  put_here e es key value h = ap (λ o. by_order o ((key, value) ∷ e ∷ es) ((e.0, value) ∷ es) (e ∷ put R key value es)) h

  put_before : (e : K × V) (es : List (K × V)) (key : K) (value : V) → R key e.0 ≡ Less → put R key value (e ∷ es) ≡ (key, value) ∷ e ∷ es
  put_before e es key value h = ap (λ o. by_order o ((key, value) ∷ e ∷ es) ((e.0, value) ∷ es) (e ∷ put R key value es)) h

  put_after : (e : K × V) (es : List (K × V)) (key : K) (value : V) → R key e.0 ≡ Greater → put R key value (e ∷ es) ≡ e ∷ put R key value es
  put_after e es key value h = ap (λ o. by_order o ((key, value) ∷ e ∷ es) ((e.0, value) ∷ es) (e ∷ put R key value es)) h

  -- to write over the entry at its place is to put the value at the key
  pub put_at : (es : List (K × V)) → IsRising R es → (key : K) (value : V) (i : ℕ) → IsAt es key i → set es i (key, value) ≡ put R key value es
  put_at [] h key value i at = absurd (omega (arith, at.in_range))
  put_at (e ∷ es) h key value zero at =
      ap (λ k. (k, value) ∷ es) (sym (at.has_key e))
      ∙ sym (put_here e es key value (ap (R key) (at.has_key e) ∙ tied_itself total key))
  put_at (e ∷ es) h key value (suc i) at =
      ap (λ rest. e ∷ rest) (put_at es (rising_tail e es h) key value i (record { in_range = omega (arith, at.in_range); has_key = at.has_key }))
      ∙ sym (put_after e es key value (ap (λ k. R k e.0) (sym (at.has_key e)) ∙ less_back R total e.0 (get_or es i e).0 (below_at e.0 es (rising_head e es h) i e (omega (arith, at.in_range)))))

  -- to insert an entry at the gap is to put the value at the key
  pub put_in_gap : (es : List (K × V)) (key : K) (value : V) (i : ℕ) → IsGapFor R es key i → insert es i (key, value) ≡ put R key value es
  put_in_gap [] key value zero gap = refl
  put_in_gap [] key value (suc i) gap = absurd (omega (arith, gap.in_range))
  put_in_gap (e ∷ es) key value zero gap = sym (put_before e es key value (greater_back R total e.0 key (gap.greater_after 0 e (omega arith) (omega arith))))
  put_in_gap (e ∷ es) key value (suc i) gap =
      ap (λ rest. e ∷ rest) (put_in_gap es key value i (gap_rest e es key (suc i) i gap (inl (omega arith))))
      ∙ sym (put_after e es key value (less_back R total e.0 key (gap.smaller_before 0 e (omega arith))))

  -- ---- a binary search

  -- rising entries are sorted as it asks
  pub searchable : (es : List (K × V)) (key : K) → IsRising R es → IsNonDecreasingBy (λ e. ordering_index (R e.0 key)) es
  searchable es key h = searchable_from_sorted total (λ e. e.0) es key (λ k d low high.
      greater_not_less (R (get_or es (k + 1) d).0 (get_or es k d).0)
      (less_back R total (get_or es k d).0 (get_or es (k + 1) d).0 (rising_at es h k (k + 1) d (omega arith) (omega arith))))

  -- a search ends at the key, or at the place where it would be
  pub searched_at : IsAntisymmetric R → (es : List (K × V)) (key : K) (r : Result ℕ ℕ) → IsSearchInRange r (length es) → IsBinarySearchResult (λ e. R e.0 key) es r → IfOk r (IsAt es key)
  searched_at exact es key (Ok at) in_range equal = record { in_range = in_range; has_key = λ d. exact _ _ (equal d) }
  searched_at exact es key (Err at) in_range parted = tt

  pub searched_gap : (es : List (K × V)) (key : K) → IsRising R es → (r : Result ℕ ℕ) → IsSearchInRange r (length es) → IsBinarySearchResult (λ e. R e.0 key) es r → IfErr r (IsGapFor R es key)
  searched_gap es key h (Ok at) in_range equal = tt
  searched_gap es key h (Err at) in_range parted = record {
    in_range = in_range;
    smaller_before = λ j d lt. (parted (searchable es key h)).0 j d (omega arith) lt;
    greater_after = λ j d le lt. (parted (searchable es key h)).1 j d le lt;
  }
