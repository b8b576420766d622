-- What a function gives of the items of a list, where it gives something of each.
use Rattle.std.proofs.Common.{◌≡◌, ◌≢◌, ℕ, suc, zero, ◌<◌, true, List, [], ◌∷◌, length, get_or, set, take, drop, Option, Some, None, is_some, refl, sym, ap, ◌∙◌, arith}
use Rattle.std.specs.List.{All, filter_map, cons_option, insert, remove}
use Rattle.std.proofs.lemmas.List.Elements.{All-head, All-tail}

pub some_of : {Y : Type 0} (o : Option Y) → is_some o ≡ true → (y : Y) × (o ≡ Some y)
some_of None t = absurd (cc)
some_of (Some y) t = (y, refl)

-- what two functions give alike
pub given_alike : {X Y : Type 0} (g h : X → Option Y) (xs : List X) → All (λ x. g x ≡ h x) xs → filter_map g xs ≡ filter_map h xs
given_alike g h [] a = refl
given_alike g h (x ∷ xs) a = λ k. cons_option (All-head (λ x. g x ≡ h x) x xs a k) (given_alike g h xs (All-tail (λ x. g x ≡ h x) x xs a) k)

module _ {X Y : Type 0} (h : X → Option Y) where
  abbrev pub Given : List X → Type 0
  Given xs = All (λ x. is_some (h x) ≡ true) xs

  -- what is given of the first
  first : (x : X) (xs : List X) → Given (x ∷ xs) → (y : Y) × (h x ≡ Some y)
  first x xs a = some_of (h x) (All-head (λ x. is_some (h x) ≡ true) x xs a)

  rest : (x : X) (xs : List X) → Given (x ∷ xs) → Given xs
  rest x xs a = All-tail (λ x. is_some (h x) ≡ true) x xs a

  pub length_given : (xs : List X) → Given xs → length (filter_map h xs) ≡ length xs
  length_given [] a = refl
  length_given (x ∷ xs) a = ap (λ o. length (cons_option o (filter_map h xs))) (first x xs a).1 ∙ ap suc (length_given xs (rest x xs a))

  pub given_at : (xs : List X) (k : ℕ) (x : X) (y : Y) → Given xs → k < length xs → h (get_or xs k x) ≡ Some (get_or (filter_map h xs) k y)
  given_at [] k x y a l = absurd (omega arith)
  given_at (z ∷ xs) zero x y a l = let s = first z xs a in s.1 ∙ ap (λ o. Some (get_or (cons_option o (filter_map h xs)) 0 y)) (sym s.1)
  given_at (z ∷ xs) (suc k) x y a l =
      given_at xs k x y (rest z xs a) (omega arith) ∙ ap (λ o. Some (get_or (cons_option o (filter_map h xs)) (suc k) y)) (sym (first z xs a).1)

  -- one item more, at a place
  pub given_insert : (xs : List X) (i : ℕ) (x : X) (y : Y) → Given xs → h x ≡ Some y → filter_map h (insert xs i x) ≡ insert (filter_map h xs) i y
  given_insert [] zero x y a e = ap (λ o. cons_option o []) e
  given_insert [] (suc i) x y a e = ap (λ o. cons_option o []) e
  given_insert (z ∷ xs) zero x y a e = ap (λ o. cons_option o (filter_map h (z ∷ xs))) e
  given_insert (z ∷ xs) (suc i) x y a e =
      let s = first z xs a in
      ap (λ o. cons_option o (filter_map h (insert xs i x))) s.1 ∙ ap (λ ys. s.0 ∷ ys) (given_insert xs i x y (rest z xs a) e) ∙ ap (λ o. insert (cons_option o (filter_map h xs)) (suc i) y) (sym s.1)

  -- one item less
  pub given_remove : (xs : List X) (i : ℕ) → Given xs → filter_map h (remove xs i) ≡ remove (filter_map h xs) i
  given_remove [] zero a = refl
  given_remove [] (suc i) a = refl
  given_remove (z ∷ xs) zero a = ap (λ o. remove (cons_option o (filter_map h xs)) 0) (sym (first z xs a).1)
  given_remove (z ∷ xs) (suc i) a =
      let s = first z xs a in
      ap (λ o. cons_option o (filter_map h (remove xs i))) s.1 ∙ ap (λ ys. s.0 ∷ ys) (given_remove xs i (rest z xs a)) ∙ ap (λ o. remove (cons_option o (filter_map h xs)) (suc i)) (sym s.1)

  -- another thing is given of the item at a place, and the same of the others
  pub given_set : (g : X → Option Y) (xs : List X) (i : ℕ) (x : X) (y : Y) → Given xs → i < length xs → g (get_or xs i x) ≡ Some y
      → ((k : ℕ) (d : X) → k < length xs → k ≢ i → g (get_or xs k d) ≡ h (get_or xs k d)) → filter_map g xs ≡ set (filter_map h xs) i y
  given_set g [] i x y a l e same = absurd (omega arith)
  given_set g (z ∷ xs) zero x y a l e same =
      (λ k. cons_option (e k) (given_alike g h xs (λ n d lt. same (suc n) d (omega arith) (λ q. absurd (omega arith))) k)) ∙ ap (λ o. set (cons_option o (filter_map h xs)) 0 y) (sym (first z xs a).1)
  given_set g (z ∷ xs) (suc i) x y a l e same =
      let s = first z xs a in
      (λ k. cons_option (same 0 z (omega arith) (λ q. absurd (omega arith)) k) (given_set g xs i x y (rest z xs a) (omega arith) e (λ n d lt other. same (suc n) d (omega arith) (λ q. other (omega arith))) k))
      ∙ ap (λ o. cons_option o (set (filter_map h xs) i y)) s.1 ∙ ap (λ o. set (cons_option o (filter_map h xs)) (suc i) y) (sym s.1)

  -- the first items, and those after them
  pub given_take : (xs : List X) (n : ℕ) → Given xs → filter_map h (take n xs) ≡ take n (filter_map h xs)
  given_take xs zero a = refl
  given_take [] (suc n) a = refl
  given_take (z ∷ xs) (suc n) a =
      let s = first z xs a in
      ap (λ o. cons_option o (filter_map h (take n xs))) s.1 ∙ ap (λ ys. s.0 ∷ ys) (given_take xs n (rest z xs a)) ∙ ap (λ o. take (suc n) (cons_option o (filter_map h xs))) (sym s.1)

  pub given_drop : (xs : List X) (n : ℕ) → Given xs → filter_map h (drop n xs) ≡ drop n (filter_map h xs)
  given_drop xs zero a = refl
  given_drop [] (suc n) a = refl
  given_drop (z ∷ xs) (suc n) a = given_drop xs n (rest z xs a) ∙ ap (λ o. drop (suc n) (cons_option o (filter_map h xs))) (sym (first z xs a).1)
