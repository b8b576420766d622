-- Two lists that rise, while they are merged from the back.
use Rattle.std.proofs.Common.{◌≡◌, ◌≢◌, ℕ, suc, zero, ◌+◌, ◌-◌, ◌≤◌, ◌<◌, true, false, inl, inr, Contains, List, [], ◌∷◌, ◌++◌, length, get_or, take, drop, set, refl, sym, ap, subst, ◌∙◌, arith}
use Rattle.std.specs.Cmp.{IsTotalOrder}
use Rattle.std.specs.List.{AllByRecursion}
use Rattle.std.specs.List.Sorted.{IsPermutation, IsStrictlySortedBy}
use Rattle.std.specs.Ordering.{is_lt, ordering_reverse}
use Rattle.std.specs.declared.cmp.Ordering.{Ordering}
use Rattle.std.specs.declared.cmp.Ordering.TheVariants.{Less, Equal, Greater}
use Rattle.std.proofs.Math.Seq.{take-append_seam}
use Rattle.std.proofs.lemmas.Bool.{cases_lt}
use Rattle.std.proofs.lemmas.List.{drop-set, get_or-take, get_or_default, length-append, length-take-le, take-set-le}
use Rattle.std.proofs.lemmas.List.Elements.{All-from_recursion, recursion_from_All}
use Rattle.std.proofs.lemmas.List.Sorted.{IsPermutation-append_right, IsPermutation-cons, IsPermutation-middle, IsPermutation-refl, IsPermutation-trans}
use Rattle.general_lemmas.proofs.TruthTables.{less_of}
use Rattle.live_cells.specs.Merges.{AreUntied}

-- what is read twice of a place is one
pub read_twice : {X : Type 0} (xs : List X) (i : ℕ) (x y : X) → i < length xs → x ≡ get_or xs i x → y ≡ get_or xs i y → x ≡ y
read_twice xs i x y l x_is y_is = x_is ∙ get_or_default xs i x y l ∙ sym y_is

-- an element lies before all of a list
abbrev pub IsBelow : {X : Type 0} → (X → X → Ordering) → X → List X → Type 0
IsBelow cmp x ys = AllByRecursion (λ y. cmp x y ≡ Less) ys

-- the first `kept` elements of `own` stand where they stood, the first `left` of `others` are not merged yet, and the merged ones
-- stand after both
pub record Merging {X : Type 0} (cmp : X → X → Ordering) (own others : List X) (kept left : ℕ) (now : List X) : Type 0 where
  pub long : length now ≡ length own + length others
  pub kept_in : kept ≤ length own
  pub left_in : left ≤ length others
  pub front : take kept now ≡ take kept own
  pub same : IsPermutation (drop kept own ++ drop left others) (drop (kept + left) now)
  pub rises : IsStrictlySortedBy cmp (drop (kept + left) now)
  pub own_below : (d : X) → 0 < kept → IsBelow cmp (get_or own (kept - 1) d) (drop (kept + left) now)
  pub others_below : (d : X) → 0 < left → IsBelow cmp (get_or others (left - 1) d) (drop (kept + left) now)

module _ {X : Type 0} (cmp : X → X → Ordering) (o : IsTotalOrder cmp) where
  drop_next : (xs : List X) (i : ℕ) (d : X) → i < length xs → drop i xs ≡ get_or xs i d ∷ drop (i + 1) xs
  drop_next [] i d l = absurd (omega arith)
  drop_next (x ∷ xs) zero d l = refl
  drop_next (x ∷ xs) (suc i) d l = let e : suc (i + 1) ≡ suc i + 1 = omega arith in drop_next xs i d (omega arith) ∙ ap (λ n. get_or xs i d ∷ drop n (x ∷ xs)) e

  length_set : (xs : List X) (i : ℕ) (y : X) → length (set xs i y) ≡ length xs
  length_set [] i y = refl
  length_set (x ∷ xs) zero y = refl
  length_set (x ∷ xs) (suc i) y = ap suc (length_set xs i y)

  pub head_below : (x : X) (xs : List X) → IsStrictlySortedBy cmp (x ∷ xs) → IsBelow cmp x xs
  unfolding IsStrictlySortedBy
  head_below x xs r = r.0

  pub tail_rises : (x : X) (xs : List X) → IsStrictlySortedBy cmp (x ∷ xs) → IsStrictlySortedBy cmp xs
  unfolding IsStrictlySortedBy
  tail_rises x xs r = r.1

  pub rises_more : (x : X) (xs : List X) → IsBelow cmp x xs → IsStrictlySortedBy cmp xs → IsStrictlySortedBy cmp (x ∷ xs)
  unfolding IsStrictlySortedBy
  rises_more x xs b r = (b, r)

  pub rises_none : IsStrictlySortedBy cmp []
  unfolding IsStrictlySortedBy
  rises_none = tt

  -- each lies before those behind it
  pub lies_before : (xs : List X) (i j : ℕ) (d e : X) → IsStrictlySortedBy cmp xs → i < j → j < length xs → cmp (get_or xs i d) (get_or xs j e) ≡ Less
  lies_before [] i j d e r l m = absurd (omega arith)
  lies_before (x ∷ xs) zero zero d e r l m = absurd (omega arith)
  lies_before (x ∷ xs) zero (suc j) d e r l m = All-from_recursion (λ y. cmp x y ≡ Less) xs (head_below x xs r) j e (omega arith)
  lies_before (x ∷ xs) (suc i) zero d e r l m = absurd (omega arith)
  lies_before (x ∷ xs) (suc i) (suc j) d e r l m = lies_before xs i j d e (tail_rises x xs r) (omega arith) (omega arith)

  -- a list rises where each lies before those behind it
  pub rises_by : (xs : List X) → ((i j : ℕ) (d : X) → i < j → j < length xs → cmp (get_or xs i d) (get_or xs j d) ≡ Less) → IsStrictlySortedBy cmp xs
  rises_by [] h = rises_none
  rises_by (x ∷ xs) h = rises_more x xs (recursion_from_All (λ y. cmp x y ≡ Less) xs (λ k d l. h 0 (suc k) d (omega arith) (omega arith))) (rises_by xs (λ i j d l m. h (suc i) (suc j) d (omega arith) (omega arith)))

  below_weaker : (x y : X) (ys : List X) → cmp x y ≡ Less → IsBelow cmp y ys → IsBelow cmp x ys
  below_weaker x y [] h b = tt
  below_weaker x y (z ∷ zs) h b = (o.trans x y z h b.0, below_weaker x y zs h b.1)

  below_more : (x y : X) (ys : List X) → cmp x y ≡ Less → IsBelow cmp y ys → IsBelow cmp x (y ∷ ys)
  below_more x y ys h b = (h, below_weaker x y ys h b)

  -- the last of the first ones lies before the one behind them
  before : (xs : List X) (k : ℕ) (d e : X) → IsStrictlySortedBy cmp xs → 0 < k → k < length xs → cmp (get_or xs (k - 1) e) (get_or xs k d) ≡ Less
  before xs k d e r h l = lies_before xs (k - 1) k e d r (omega arith) l

  -- one of the list goes to its place behind
  own_moved : (own others now : List X) (kept left : ℕ) (d : X) → IsStrictlySortedBy cmp own → Merging cmp own others (suc kept) left now → 0 < left → cmp (get_or others (left - 1) d) (get_or own kept d) ≡ Less
      → Merging cmp own others kept left (set now (kept + left) (get_or own kept d))
  own_moved own others now kept left d r m some less =
      let long = m.long in let kept_in = m.kept_in in let left_in = m.left_in in
      let x = get_or own kept d in
      let tail = drop (suc kept + left) now in
      let behind : kept + left + 1 ≡ suc kept + left = omega arith in
      let at : drop (kept + left) (set now (kept + left) x) ≡ x ∷ tail = drop-set now (kept + left) x (omega arith) ∙ ap (λ i. x ∷ drop i now) behind in
      let same_one : suc kept - 1 ≡ kept = omega arith in
      let one : kept + 1 ≡ suc kept = omega arith in
      let b : IsBelow cmp x tail = subst (λ n. IsBelow cmp (get_or own n d) tail) same_one (m.own_below d (omega arith)) in
      record {
        long = length_set now (kept + left) x ∙ long;
        kept_in = omega arith;
        left_in = left_in;
        front = take-set-le kept now (kept + left) x (omega arith) ∙ shorter kept now own m.front;
        same = subst (λ xs. IsPermutation xs (drop (kept + left) (set now (kept + left) x))) (ap (λ ys. ys ++ drop left others) (sym (drop_next own kept d (omega arith) ∙ ap (λ i. x ∷ drop i own) one)))
            (subst (IsPermutation (x ∷ (drop (suc kept) own ++ drop left others))) (sym at) (IsPermutation-cons x (drop (suc kept) own ++ drop left others) tail m.same));
        rises = subst (IsStrictlySortedBy cmp) (sym at) (rises_more x tail b m.rises);
        own_below = λ e h. subst (IsBelow cmp (get_or own (kept - 1) e)) (sym at) (below_more (get_or own (kept - 1) e) x tail (before own kept d e r h (omega arith)) b);
        others_below = λ e h. subst (IsBelow cmp (get_or others (left - 1) e)) (sym at) (below_more (get_or others (left - 1) e) x tail (subst (λ y. cmp y x ≡ Less) (get_or_default others (left - 1) d e (omega arith)) less) b);
      }
    where
      shorter : (k : ℕ) (xs ys : List X) → take (suc k) xs ≡ take (suc k) ys → take k xs ≡ take k ys
      shorter zero xs ys e = refl
      shorter (suc k) [] [] e = refl
      shorter (suc k) [] (y ∷ ys) e = cc
      shorter (suc k) (x ∷ xs) [] e = cc
      shorter (suc k) (x ∷ xs) (y ∷ ys) e = (λ i. head (e i) ∷ shorter k xs ys (ap rest e) i)
        where
          head : List X → X
          head [] = x
          head (z ∷ zs) = z

          rest : List X → List X
          rest [] = []
          rest (z ∷ zs) = zs

  -- one of the others goes to its place behind
  other_moved : (own others now : List X) (kept left : ℕ) (d : X) → IsStrictlySortedBy cmp others → Merging cmp own others kept (suc left) now → ((e : X) → 0 < kept → cmp (get_or own (kept - 1) e) (get_or others left d) ≡ Less)
      → Merging cmp own others kept left (set now (kept + left) (get_or others left d))
  other_moved own others now kept left d r m less =
      let long = m.long in let kept_in = m.kept_in in let left_in = m.left_in in
      let x = get_or others left d in
      let tail = drop (kept + suc left) now in
      let next : kept + left + 1 ≡ kept + suc left = omega arith in
      let at : drop (kept + left) (set now (kept + left) x) ≡ x ∷ tail = drop-set now (kept + left) x (omega arith) ∙ ap (λ i. x ∷ drop i now) next in
      let one : left + 1 ≡ suc left = omega arith in
      let more : drop left others ≡ x ∷ drop (suc left) others = drop_next others left d (omega arith) ∙ ap (λ i. x ∷ drop i others) one in
      let last : left ≡ suc left - 1 = omega arith in
      let b : IsBelow cmp x tail = subst (λ n. IsBelow cmp (get_or others n d) tail) (sym last) (m.others_below d (omega arith)) in
      record {
        long = length_set now (kept + left) x ∙ long;
        kept_in = kept_in;
        left_in = omega arith;
        front = take-set-le kept now (kept + left) x (omega arith) ∙ m.front;
        same = subst (λ ys. IsPermutation (drop kept own ++ ys) (drop (kept + left) (set now (kept + left) x))) (sym more)
            (subst (IsPermutation (drop kept own ++ x ∷ drop (suc left) others)) (sym at)
            (IsPermutation-trans (drop kept own ++ x ∷ drop (suc left) others) (x ∷ (drop kept own ++ drop (suc left) others)) (x ∷ tail)
            (IsPermutation-middle (drop kept own) x (drop (suc left) others)) (IsPermutation-cons x (drop kept own ++ drop (suc left) others) tail m.same)));
        rises = subst (IsStrictlySortedBy cmp) (sym at) (rises_more x tail b m.rises);
        own_below = λ e h. subst (IsBelow cmp (get_or own (kept - 1) e)) (sym at) (below_more (get_or own (kept - 1) e) x tail (less e h) b);
        others_below = λ e h. subst (IsBelow cmp (get_or others (left - 1) e)) (sym at) (below_more (get_or others (left - 1) e) x tail (before others left d e r h (omega arith)) b);
      }

  -- what lies before a list that rises, in order before it
  joined : (xs ys : List X) → IsStrictlySortedBy cmp xs → IsStrictlySortedBy cmp ys → ((i : ℕ) (d : X) → i < length xs → IsBelow cmp (get_or xs i d) ys) → IsStrictlySortedBy cmp (xs ++ ys)
  joined [] ys r s b = s
  joined (x ∷ xs) ys r s b = rises_more x (xs ++ ys) (both x xs ys (head_below x xs r) (b 0 x (omega arith))) (joined xs ys (tail_rises x xs r) s (λ i d l. b (suc i) d (omega arith)))
    where
      both : (x : X) (xs ys : List X) → IsBelow cmp x xs → IsBelow cmp x ys → IsBelow cmp x (xs ++ ys)
      both x [] ys a b = b
      both x (z ∷ zs) ys a b = (a.0, both x zs ys a.1 b)

  halves : (xs : List X) (k : ℕ) → take k xs ++ drop k xs ≡ xs
  halves xs zero = refl
  halves [] (suc k) = refl
  halves (x ∷ xs) (suc k) = ap (λ ys. x ∷ ys) (halves xs k)

  regroup : (xs ys zs : List X) → xs ++ (ys ++ zs) ≡ (xs ++ ys) ++ zs
  regroup [] ys zs = refl
  regroup (x ∷ xs) ys zs = ap (λ l. x ∷ l) (regroup xs ys zs)

  -- if none of the others is left, all elements are there
  pub merged_all : (own others now : List X) (kept left : ℕ) → left ≡ 0 → Merging cmp own others kept left now → IsPermutation (own ++ others) now
  merged_all own others now kept left none m =
      let at : kept + left ≡ kept = omega arith in
      let same : IsPermutation (drop kept own ++ others) (drop kept now) = subst (λ l. IsPermutation (drop kept own ++ drop l others) (drop kept now)) none (subst (λ n. IsPermutation (drop kept own ++ drop left others) (drop n now)) at m.same) in
      let whole : IsPermutation (take kept own ++ (drop kept own ++ others)) (take kept own ++ drop kept now) = IsPermutation-append_right (take kept own) (drop kept own ++ others) (drop kept now) same in
      subst (IsPermutation (own ++ others)) (ap (λ ys. ys ++ drop kept now) (sym m.front) ∙ halves now kept)
      (subst (λ xs. IsPermutation xs (take kept own ++ drop kept now)) (regroup (take kept own) (drop kept own) others ∙ ap (λ ys. ys ++ others) (halves own kept)) whole)

  rises_take : (k : ℕ) (xs : List X) → IsStrictlySortedBy cmp xs → IsStrictlySortedBy cmp (take k xs)
  rises_take zero xs r = rises_none
  rises_take (suc k) [] r = rises_none
  rises_take (suc k) (x ∷ xs) r = rises_more x (take k xs) (some k xs (head_below x xs r)) (rises_take k xs (tail_rises x xs r))
    where
      some : (k : ℕ) (ys : List X) → IsBelow cmp x ys → IsBelow cmp x (take k ys)
      some zero ys b = tt
      some (suc k) [] b = tt
      some (suc k) (y ∷ ys) b = (b.0, some k ys b.1)

  upto : (xs : List X) (i j : ℕ) (d : X) (ys : List X) → IsStrictlySortedBy cmp xs → i ≤ j → j < length xs → IsBelow cmp (get_or xs j d) ys → IsBelow cmp (get_or xs i d) ys
  upto xs i j d ys r l m b = elim (cases_lt i j) [
    | inl less ↦ below_weaker (get_or xs i d) (get_or xs j d) ys (lies_before xs i j d d r less m) b
    | inr more ↦ let e : j ≡ i = omega arith in subst (λ n. IsBelow cmp (get_or xs n d) ys) e b
  ]

  -- if none of the others is left, the merged list is sorted
  pub merged_rises : (own others now : List X) (kept left : ℕ) → left ≡ 0 → IsStrictlySortedBy cmp own → Merging cmp own others kept left now → IsStrictlySortedBy cmp now
  merged_rises own others now kept left none r m =
      let at : kept + left ≡ kept = omega arith in
      let kept_in = m.kept_in in
      let tail : IsStrictlySortedBy cmp (drop kept now) = subst (λ n. IsStrictlySortedBy cmp (drop n now)) at m.rises in
      let short : length (take kept own) ≡ kept = length-take-le kept own kept_in in
      subst (IsStrictlySortedBy cmp) (ap (λ ys. ys ++ drop kept now) (sym m.front) ∙ halves now kept)
      (joined (take kept own) (drop kept now) (rises_take kept own r) tail (λ i d l.
      let b : IsBelow cmp (get_or own (kept - 1) d) (drop kept now) = subst (λ n. IsBelow cmp (get_or own (kept - 1) d) (drop n now)) at (m.own_below d (omega arith)) in
      subst (λ x. IsBelow cmp x (drop kept now)) (sym (get_or-take kept own i d (omega arith))) (upto own i (kept - 1) d (drop kept now) r (omega arith) (omega arith) b)))

  -- what stands in front is what stood there
  pub front_is : (own others now : List X) (kept left i : ℕ) (d : X) → Merging cmp own others kept left now → i < kept → get_or now i d ≡ get_or own i d
  front_is own others now kept left i d m l = sym (get_or-take kept now i d l) ∙ ap (λ xs. get_or xs i d) m.front ∙ get_or-take kept own i d l

  -- before the first step
  pub merged_none : (own others now : List X) → now ≡ own ++ others → Merging cmp own others (length own) (length others) now
  merged_none own others now is =
      let n : length now ≡ length own + length others = ap length is ∙ length-append own others in
      let a : drop (length own + length others) now ≡ [] = ap (λ k. drop k now) (sym n) ∙ nothing now in
      record {
        long = n;
        kept_in = omega arith;
        left_in = omega arith;
        front = ap (take (length own)) is ∙ take-append_seam own others ∙ sym (whole own);
        same = subst (IsPermutation (drop (length own) own ++ drop (length others) others)) (sym a) (subst (λ xs. IsPermutation xs []) (λ i. sym (nothing own) i ++ sym (nothing others) i) (IsPermutation-refl []));
        rises = subst (IsStrictlySortedBy cmp) (sym a) rises_none;
        own_below = λ d h. subst (IsBelow cmp (get_or own (length own - 1) d)) (sym a) tt;
        others_below = λ d h. subst (IsBelow cmp (get_or others (length others - 1) d)) (sym a) tt;
      }
    where
      nothing : (xs : List X) → drop (length xs) xs ≡ []
      nothing [] = refl
      nothing (x ∷ xs) = nothing xs

      whole : (xs : List X) → take (length xs) xs ≡ xs
      whole [] = refl
      whole (x ∷ xs) = ap (λ ys. x ∷ ys) (whole xs)

  -- a step: x stands last of those that are kept, y last of the others that are left, and the greater one goes to its place behind
  module _ (own others now : List X) (kept left : ℕ) (x y : X) (m : Merging cmp own others kept left now) (y_is : y ≡ get_or others (left - 1) y) where
    pub own_step : IsStrictlySortedBy cmp own → 0 < kept → 0 < left → x ≡ get_or now (kept - 1) x → is_lt (cmp y x) ≡ true → Merging cmp own others (kept - 1) left (set now (kept + left - 1) x)
    own_step r some more x_is less =
        let e : kept ≡ suc (kept - 1) = omega arith in
        let k = kept - 1 in
        let kept_in = m.kept_in in
        let left_in = m.left_in in
        let value : get_or own k x ≡ x = sym (front_is own others now kept left k x m (omega arith)) ∙ sym x_is in
        let other : get_or others (left - 1) x ≡ y = get_or_default others (left - 1) x y (omega arith) ∙ sym y_is in
        let place : k + left ≡ kept + left - 1 = omega arith in
        let moved = own_moved own others now k left x r (subst (λ n. Merging cmp own others n left now) e m) more ((λ i. cmp (other i) (value i)) ∙ less_of (cmp y x) less) in
        subst (λ n. Merging cmp own others k left (set now n x)) place (subst (λ v. Merging cmp own others k left (set now (k + left) v)) value moved)

    pub other_step : IsStrictlySortedBy cmp others → AreUntied cmp own others → 0 < left → (0 < kept → (x ≡ get_or now (kept - 1) x) × (is_lt (cmp y x) ≡ false)) → Merging cmp own others kept (left - 1) (set now (kept + left - 1) y)
    other_step r untied some not_less =
        let e : left ≡ suc (left - 1) = omega arith in
        let place : kept + (left - 1) ≡ kept + left - 1 = omega arith in
        let kept_in = m.kept_in in
        let left_in = m.left_in in
        let l = left - 1 in
        let less : (d : X) → 0 < kept → cmp (get_or own (kept - 1) d) (get_or others l y) ≡ Less = λ d h.
        let value : get_or own (kept - 1) d ≡ x = get_or_default own (kept - 1) d x (omega arith) ∙ sym (front_is own others now kept left (kept - 1) x m (omega arith)) ∙ sym (not_less h).0 in
        let in_own : Contains own x = (kept - 1, omega arith, sym (front_is own others now kept left (kept - 1) x m (omega arith)) ∙ sym (not_less h).0) in
        let in_others : Contains others y = (l, omega arith, sym y_is) in
        (λ i. cmp (value i) (sym y_is i)) ∙ turned x y (not_less h).1 (untied x y in_own in_others) in
        let moved = other_moved own others now kept l y r (subst (λ n. Merging cmp own others kept n now) e m) less in
        subst (λ n. Merging cmp own others kept l (set now n y)) place (subst (λ v. Merging cmp own others kept l (set now (kept + l) v)) (sym y_is) moved)
      where
        turned : (a b : X) → is_lt (cmp b a) ≡ false → cmp b a ≢ Equal → cmp a b ≡ Less
        turned a b h n = o.antisymm a b ∙ by (cmp b a) h n
          where
            by : (c : Ordering) → is_lt c ≡ false → c ≢ Equal → ordering_reverse c ≡ Less
            by Less h n = absurd (cc)
            by Equal h n = absurd (n refl)
            by Greater h n = refl
