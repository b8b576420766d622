-- Lists whose keys rise by an order: what is found in them, and what they are after one more, one replaced or one less.
use Rattle.std.proofs.Common.{◌≡◌, ◌≢◌, ℕ, Bool, suc, zero, ◌≤◌, ◌<◌, true, false, not, cond, ◌&&◌, List, [], ◌∷◌, length, map as each, get_or, set, Some, None, inl, inr, refl, sym, ap, ◌∙◌, subst, arith}
use Rattle.std.specs.Cmp.{IsTotalOrder}
use Rattle.std.specs.FinMap.{IsAntisymmetric}
use Rattle.std.specs.FinMap.Entries.{put, find, is_sorted, below_all, where_key}
use Rattle.std.specs.List.{AllWithin, insert, remove}
use Rattle.std.specs.List.Sorted.{IsPartitionedBy}
use Rattle.std.specs.Ordering.{is_lt, is_eq, eq_by_cmp, ordering_reverse}
use Rattle.std.specs.declared.cmp.Ordering.{Ordering}
use Rattle.std.specs.declared.cmp.Ordering.TheVariants.{Less, Equal, Greater}
use Rattle.std.proofs.lemmas.Bool.{and_parts, cases_lt}
use Rattle.std.proofs.lemmas.List.{get_or-map, get_or_default, length-map, map-set}
use Rattle.std.proofs.lemmas.Cmp.{tied_itself}
use Rattle.general_lemmas.specs.SortedEntries.{IsAt, IsGapFor}
use Rattle.general_lemmas.proofs.SortedEntries as sorted
use Rattle.general_lemmas.proofs.SortedEntries.{find_at, find_below, find_in_gap, put_in_gap, rising_at, rising_head, rising_tail}
use Rattle.general_lemmas.proofs.TruthTables.{equal_of, less_of}

greater : (o : Ordering) → is_lt o ≡ false → is_eq o ≡ false → o ≡ Greater
greater Less h k = absurd (cc)
greater Equal h k = absurd (cc)
greater Greater h k = refl

-- keys in a total order, in which only equal keys tie
module _ {K : Type 0} (R : K → K → Ordering) (o : IsTotalOrder R) (exact : IsAntisymmetric R) where
  -- a key that lies before another: the other lies after it
  pub turned : (a b : K) → is_lt (R a b) ≡ true → R b a ≡ Greater
  turned a b h = o.antisymm b a ∙ ap ordering_reverse (less_of _ h)

  -- two keys of which one precedes the other differ
  pub apart : (a b : K) → is_lt (R a b) ≡ true → eq_by_cmp R b a ≡ false
  apart a b h = ap is_eq (turned a b h)

  pub apart_after : (a b : K) → is_lt (R a b) ≡ true → eq_by_cmp R a b ≡ false
  apart_after a b h = ap is_eq (less_of _ h)

  pub before_trans : (a b c : K) → is_lt (R a b) ≡ true → is_lt (R b c) ≡ true → is_lt (R a c) ≡ true
  before_trans a b c h k = ap is_lt (o.trans a b c (less_of _ h) (less_of _ k))

  -- a key is itself
  pub same_itself : (a : K) → eq_by_cmp R a a ≡ true
  same_itself a = ap is_eq (tied_itself o a)

  pub same_tied : (a b : K) → a ≡ b → eq_by_cmp R a b ≡ true
  same_tied a b e = ap (λ x. eq_by_cmp R a x) (sym e) ∙ same_itself a

  pub one_key : (a b : K) → eq_by_cmp R a b ≡ true → a ≡ b
  one_key a b h = exact a b (equal_of _ h)

  -- one that is another and doesn't lie before it lies after it
  pub after : (a b : K) → a ≢ b → is_lt (R a b) ≡ false → is_lt (R b a) ≡ true
  after a b n h = ap is_lt (o.antisymm b a ∙ ap ordering_reverse (greater _ h (not_eq (eq_by_cmp R a b) (λ t. n (one_key a b t)))))
    where
      not_eq : (p : Bool) → p ≢ true → p ≡ false
      not_eq true k = absurd (k refl)
      not_eq false k = refl

-- a list by the keys of its elements, each beside its value
module _ {X K V : Type 0} (R : K → K → Ordering) (o : IsTotalOrder R) (exact : IsAntisymmetric R) (key : X → K) (value : X → V) where
  abbrev entries : List X → List (K × V)
  entries xs = each (λ x. (key x, value x)) xs

  -- the keys rise
  abbrev Rise : List X → Type 0
  Rise cs = is_sorted R (entries cs) ≡ true

  -- the first i keys lie before another
  abbrev Ahead : K → List X → ℕ → Type 0
  Ahead d cs i = AllWithin (λ c. is_lt (R (key c) d) ≡ true) cs 0 i

  pub rise_tail : (c : X) (cs : List X) → Rise (c ∷ cs) → Rise cs
  rise_tail c cs h = rising_tail R o (key c, value c) (entries cs) h

  pub rise_head : (c : X) (cs : List X) → Rise (c ∷ cs) → below_all R (key c) (entries cs) ≡ true
  rise_head c cs h = rising_head R o (key c, value c) (entries cs) h

  -- what lies before all keys lies before each
  pub below_at : (d : K) (cs : List X) → below_all R d (entries cs) ≡ true → (k : ℕ) (e : X) → k < length cs → is_lt (R d (key (get_or cs k e))) ≡ true
  below_at d [] h k e l = absurd (omega arith)
  below_at d (c ∷ cs) h zero e l = (and_parts (is_lt (R d (key c))) (below_all R d (entries cs)) h).0
  below_at d (c ∷ cs) h (suc k) e l = below_at d cs (and_parts (is_lt (R d (key c))) (below_all R d (entries cs)) h).1 k e (omega arith)

  pub below_from : (d x : K) (cs : List X) → is_lt (R d x) ≡ true → below_all R x (entries cs) ≡ true → below_all R d (entries cs) ≡ true
  below_from d x cs l h = sorted.below_from R o d x (entries cs) (less_of _ l) h

  -- keys of which each lies before the next one rise
  pub rise_steps : (cs : List X) → ((k : ℕ) (e : X) → suc k < length cs → is_lt (R (key (get_or cs k e)) (key (get_or cs (suc k) e))) ≡ true) → Rise cs
  rise_steps [] h = refl
  rise_steps (c ∷ cs) h = first cs (λ e l. h 0 e l) (rise_steps cs (λ k e l. h (suc k) e (omega arith)))
    where
      first : (xs : List X) → ((e : X) → 1 < length (c ∷ xs) → is_lt (R (key c) (key (get_or xs 0 e))) ≡ true) → Rise xs → Rise (c ∷ xs)
      first [] l s = refl
      first (x ∷ xs) l s = let less = l x (omega arith) in λ i. (less i && below_from (key c) (key x) xs less (rise_head x xs s) i) && s i

  -- elements that pass a test come first, where each that lies before one that passes it passes it
  pub partitioned_by : (p : X → Bool) → ((a b : X) → is_lt (R (key a) (key b)) ≡ true → p b ≡ true → p a ≡ true) → (cs : List X) → Rise cs → IsPartitionedBy p cs
  partitioned_by p f [] a i j e l h t = absurd (omega (arith, h))
  partitioned_by p f (c ∷ cs) a zero zero e l h t = t
  partitioned_by p f (c ∷ cs) a zero (suc j) e l h t = f c (get_or cs j e) (below_at (key c) cs (rise_head c cs a) j e (omega arith)) t
  partitioned_by p f (c ∷ cs) a (suc i) zero e l h t = absurd (omega arith)
  partitioned_by p f (c ∷ cs) a (suc i) (suc j) e l h t = partitioned_by p f cs (rise_tail c cs a) i j e (omega arith) (omega arith) t

  -- the elements before a key come first
  pub partitioned : (d : K) (cs : List X) → Rise cs → IsPartitionedBy (λ c. is_lt (R (key c) d)) cs
  partitioned d = partitioned_by (λ c. is_lt (R (key c) d)) (λ a b h t. before_trans R o exact (key a) (key b) d h t)

  ahead_tail : (d : K) (c : X) (cs : List X) (i : ℕ) → Ahead d (c ∷ cs) (suc i) → Ahead d cs i
  ahead_tail d c cs i a k e lo hi = a (suc k) e (omega arith) (omega arith)

  ahead_head : (d : K) (c : X) (cs : List X) (i : ℕ) → Ahead d (c ∷ cs) (suc i) → is_lt (R (key c) d) ≡ true
  ahead_head d c cs i a = a 0 c (omega arith) (omega arith)

  pub none_below : (d : K) (cs : List X) → below_all R d (entries cs) ≡ true → find R d (entries cs) ≡ None
  none_below d cs h = find_below R o d (entries cs) h

  entry_at : (cs : List X) (i : ℕ) (e : X) (d : K × V) → i < length cs → get_or (entries cs) i d ≡ (key (get_or cs i e), value (get_or cs i e))
  entry_at cs i e d l = get_or-map (λ x. (key x, value x)) cs i e d l

  count : (cs : List X) → length (entries cs) ≡ length cs
  count cs = length-map cs (λ x. (key x, value x))

  -- the place of an element's key among the entries
  at : (d : K) (cs : List X) (i : ℕ) (e : X) → i < length cs → d ≡ key (get_or cs i e) → IsAt (entries cs) d i
  at d cs i e l h = record {
    in_range = omega (arith, count cs);
    has_key = λ n. ap (λ x. x.0) (entry_at cs i e n l) ∙ sym h;
  }

  -- the gap for a key, of which the keys before a place lie before it, and the one there lies after it
  gap : (d : K) (cs : List X) (i : ℕ) → Rise cs → Ahead d cs i → i ≤ length cs → (here : (e : X) → i < length cs → is_lt (R d (key (get_or cs i e))) ≡ true) → IsGapFor R (entries cs) d i
  gap d [] i s a w h = record {
    in_range = w;
    smaller_before = λ j n lt. absurd (omega arith);
    greater_after = λ j n le lt. absurd (omega arith);
  }
  gap d (c ∷ cs) i s a w h = record {
    in_range = omega (arith, count (c ∷ cs));
    smaller_before = λ j n lt. ap (λ x. R x.0 d) (entry_at (c ∷ cs) j c n (omega arith)) ∙ less_of _ (a j c (omega arith) lt);
    greater_after = λ j n le lt.
        let there : j < length (c ∷ cs) = omega (arith, count (c ∷ cs)) in
        ap (λ x. R x.0 d) (entry_at (c ∷ cs) j c n there) ∙ turned R o exact d (key (get_or (c ∷ cs) j c)) (later j there le);
  }
    where
      later : (j : ℕ) → j < length (c ∷ cs) → i ≤ j → is_lt (R d (key (get_or (c ∷ cs) j c))) ≡ true
      later j l le = elim (cases_lt i j) [
        | inl m ↦ before_trans R o exact d (key (get_or (c ∷ cs) i c)) (key (get_or (c ∷ cs) j c)) (h c (omega arith))
            (ap is_lt ((λ k. R (sym (ap (λ x. x.0) (entry_at (c ∷ cs) i c (key c, value c) (omega arith))) k) (sym (ap (λ x. x.0) (entry_at (c ∷ cs) j c (key c, value c) l)) k))
            ∙ rising_at R o (entries (c ∷ cs)) s i j (key c, value c) m (omega (arith, count (c ∷ cs)))))
        | inr m ↦ let e : j ≡ i = omega arith in ap (λ k. is_lt (R d (key (get_or (c ∷ cs) k c)))) e ∙ h c (omega arith)
      ]

  -- what is found of the key that stands at a place
  pub found_at : (d : K) (cs : List X) (i : ℕ) (e : X) → Rise cs → i < length cs → d ≡ key (get_or cs i e) → find R d (entries cs) ≡ Some (value (get_or cs i e))
  found_at d cs i e s l h =
      let n : K × V = (key e, value e) in
      find_at R o (entries cs) s d i n (at d cs i e l h) ∙ ap (λ x. Some x.1) (entry_at cs i e n l)

  -- nothing is found where the key at the place lies after it
  pub missed_at : (d : K) (cs : List X) (i : ℕ) → Rise cs → Ahead d cs i → i ≤ length cs → (here : (e : X) → i < length cs → is_lt (R d (key (get_or cs i e))) ≡ true) → find R d (entries cs) ≡ None
  missed_at d cs i s a w h = find_in_gap R o (entries cs) d i (gap d cs i s a w h)

  -- an element that is put in at its place
  pub put_at : (cs : List X) (i : ℕ) (c : X) → Rise cs → i ≤ length cs → Ahead (key c) cs i → (here : (e : X) → i < length cs → is_lt (R (key c) (key (get_or cs i e))) ≡ true) → entries (insert cs i c) ≡ put R (key c) (value c) (entries cs)
  put_at cs i c s w a h = inserted cs i c ∙ put_in_gap R o (entries cs) (key c) (value c) i (gap (key c) cs i s a w h)
    where
      inserted : (xs : List X) (j : ℕ) (x : X) → entries (insert xs j x) ≡ insert (entries xs) j (key x, value x)
      inserted [] zero x = refl
      inserted [] (suc j) x = refl
      inserted (y ∷ xs) zero x = refl
      inserted (y ∷ xs) (suc j) x = ap (λ es. (key y, value y) ∷ es) (inserted xs j x)

  -- an element that takes the place of the one of its key
  pub set_at : (cs : List X) (i : ℕ) (c e : X) → Rise cs → i < length cs → key c ≡ key (get_or cs i e) → entries (set cs i c) ≡ put R (key c) (value c) (entries cs)
  set_at cs i c e s l h = map-set (λ x. (key x, value x)) cs i c ∙ sorted.put_at R o (entries cs) s (key c) (value c) i (at (key c) cs i e l h)

  -- all stay where none has the key
  kept : (d : K) (cs : List X) → below_all R d (entries cs) ≡ true → entries cs ≡ where_key R (λ x. not (eq_by_cmp R d x)) (entries cs)
  kept d [] h = refl
  kept d (c ∷ cs) h =
      let p = and_parts (is_lt (R d (key c))) (below_all R d (entries cs)) h in
      ap (λ es. (key c, value c) ∷ es) (kept d cs p.1)
      ∙ ap (λ b. cond (not b) ((key c, value c) ∷ where_key R (λ x. not (eq_by_cmp R d x)) (entries cs)) (where_key R (λ x. not (eq_by_cmp R d x)) (entries cs))) (sym (apart_after R o exact d (key c) p.0))

  -- the element of a key that is taken out
  pub removed_at : (d : K) (cs : List X) (i : ℕ) (e : X) → Rise cs → i < length cs → Ahead d cs i → d ≡ key (get_or cs i e) → entries (remove cs i) ≡ where_key R (λ x. not (eq_by_cmp R d x)) (entries cs)
  removed_at d [] i e s l a h = absurd (omega arith)
  removed_at d (c ∷ cs) zero e s l a h =
      kept d cs (subst (λ x. below_all R x (entries cs) ≡ true) (sym h) (rise_head c cs s))
      ∙ ap (λ b. cond (not b) ((key c, value c) ∷ where_key R (λ x. not (eq_by_cmp R d x)) (entries cs)) (where_key R (λ x. not (eq_by_cmp R d x)) (entries cs))) (sym (same_tied R o exact d (key c) h))
  removed_at d (c ∷ cs) (suc i) e s l a h =
      ap (λ es. (key c, value c) ∷ es) (removed_at d cs i e (rise_tail c cs s) (omega arith) (ahead_tail d c cs i a) h)
      ∙ ap (λ b. cond (not b) ((key c, value c) ∷ where_key R (λ x. not (eq_by_cmp R d x)) (entries cs)) (where_key R (λ x. not (eq_by_cmp R d x)) (entries cs))) (sym (apart R o exact (key c) d (ahead_head d c cs i a)))

  pub same_place : (cs : List X) (i : ℕ) (e x : X) → i < length cs → get_or cs i e ≡ get_or cs i x
  same_place cs i e x l = get_or_default cs i e x l

  -- a key that doesn't lie before another, and isn't that one, lies after it
  pub lies_after : (d : K) (cs : List X) (i : ℕ) (x : X) → i < length cs → x ≡ get_or cs i x → d ≢ key x
      → AllWithin (λ c. is_lt (R (key c) d) ≡ false) cs i (length cs) → (e : X) → i < length cs → is_lt (R d (key (get_or cs i e))) ≡ true
  lies_after d cs i x l at other past e k = after R o exact (key (get_or cs i e)) d (λ same. other (sym same ∙ ap key (same_place cs i e x l ∙ sym at))) (past i e (omega arith) l)

  -- a key lies before those that stand later
  pub earlier : (cs : List X) (i j : ℕ) (e f : X) → Rise cs → i < j → j < length cs → is_lt (R (key (get_or cs i e)) (key (get_or cs j f))) ≡ true
  earlier cs i j e f s lt l =
      let n : K × V = (key e, value e) in
      ap is_lt ((λ k. R (sym (ap (λ y. y.0) (entry_at cs i e n (omega arith))) k) (sym (ap (λ y. y.0) (entry_at cs j f n l)) k)) ∙ rising_at R o (entries cs) s i j n lt (omega (arith, count cs)))

  -- the keys at two places differ
  pub keys_differ : (cs : List X) (i j : ℕ) (e f : X) → Rise cs → i < j → j < length cs → key (get_or cs i e) ≢ key (get_or cs j f)
  keys_differ cs i j e f s lt l same =
      let apart = apart_after R o exact (key (get_or cs i e)) (key (get_or cs j f)) (earlier cs i j e f s lt l) in
      let tied = same_tied R o exact (key (get_or cs i e)) (key (get_or cs j f)) same in
      cc
