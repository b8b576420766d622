-- What a list is behind its first items, after a change there.
use Rattle.std.proofs.Common.{◌≡◌, ℕ, suc, ◌+◌, ◌-◌, ◌<◌, ◌≤◌, List, ◌∷◌, ◌++◌, length, take, drop, get_or, refl, sym, ap, ◌∙◌, append_assoc, arith}
use Rattle.std.specs.Prelude.{slice_set}
use Rattle.devector.specs.Items.{Items, items_in}
use Rattle.std.specs.List.{insert, remove, copy_within}
use Rattle.std.proofs.lemmas.List.{length-take, length-take-le, length-drop, drop-append-le, drop-take, drop-drop, drop-set-add, drop_at, drop_more, set_at}

module _ {X : Type 0} where
  -- how many items a vector shows that does not use its first `n`
  pub count_seen : (xs : List X) (n : ℕ) {room : ℕ} {d : Items X} → items_in (drop n xs) room ≡ d → length xs - n ≡ length d.items
  count_seen xs n e = sym (length-drop n xs) ∙ ap (λ d. length d.items) e

  pub insert_behind : (xs : List X) (n i : ℕ) (x : X) → n ≤ length xs → drop n (insert xs (n + i) x) ≡ insert (drop n xs) i x
  insert_behind xs n i x within =
      let e = drop-append-le n (take (n + i) xs) (x ∷ drop (n + i) xs) (omega (arith, length-take (n + i) xs, within)) in
      rw (e, drop-take n i xs, drop-drop i n xs) refl

  pub remove_behind : (xs : List X) (n i : ℕ) → n ≤ length xs → drop n (remove xs (n + i)) ≡ remove (drop n xs) i
  remove_behind xs n i within =
      let e = drop-append-le n (take (n + i) xs) (drop (suc (n + i)) xs) (omega (arith, length-take (n + i) xs, within)) in
      let next : suc (n + i) ≡ n + suc i = omega arith in
      rw (e, drop-take n i xs, drop-drop (suc i) n xs, next) refl

  -- what a copy of items to another place leaves from there on
  copied : (xs : List X) (n i to : ℕ) → to ≤ length xs → drop to (copy_within xs n (n + i) to) ≡ take i (drop n xs) ++ drop (to + i) xs
  copied xs n i to within =
      let as_many : n + i - n ≡ i = omega arith in
      rw (as_many, append_assoc (take to xs) (take i (drop n xs)) (drop (to + i) xs))
      (drop_at (take to xs) (take i (drop n xs) ++ drop (to + i) xs) to (length-take-le to xs within))

  -- the items before a place, moved one up
  pub moved_up : (xs : List X) (n i : ℕ) → i < length (drop n xs) → drop (n + 1) (copy_within xs n (n + i) (n + 1)) ≡ remove (drop n xs) i
  moved_up xs n i within =
      let next : n + 1 + i ≡ n + suc i = omega arith in
      rw (copied xs n i (n + 1) (omega (arith, length-drop n xs, within)), drop-drop (suc i) n xs, next) refl

  -- the items before a place, moved one down, and an item at that place
  pub moved_down : (xs : List X) (n i : ℕ) (x : X) → 1 ≤ n → n ≤ length xs → i ≤ length (drop n xs) →
      drop (n - 1) (slice_set (copy_within xs n (n + i) (n - 1)) (n - 1 + i) x) ≡ insert (drop n xs) i x
  moved_down xs n i x some fits within =
      let front = take i (drop n xs) in
      let next = drop_more xs (n - 1 + i) x (omega (arith, length-drop n xs, some, fits, within)) in
      let same : n - 1 + i + 1 ≡ n + i = omega (arith, some) in
      rw (drop-set-add (n - 1) (copy_within xs n (n + i) (n - 1)) i x, copied xs n i (n - 1) (omega (arith, fits)), next, same, drop-drop i n xs)
      (set_at front (get_or xs (n - 1 + i) x) (drop (n + i) xs) x i (length-take-le i (drop n xs) within))
