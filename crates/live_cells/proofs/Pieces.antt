-- How far a test goes on, by a list of live dots.
use Rattle.std.proofs.Common.{◌≡◌, ◌≢◌, ℕ, ◌≤◌, ◌<◌, Bool, true, false, not, cond, ◌&&◌, ◌||◌, nat_eq, List, length, get_or, is_some, refl, sym, ap, ◌∙◌, arith}
use Rattle.std.specs.Prelude.{nat_lt}
use Rattle.std.specs.List.{AllWithin}
use Rattle.std.specs.Ordering.{is_lt, ordering_then}
use Rattle.std.specs.declared.cmp.Ordering.TheVariants.{Less, Equal, Greater}
use Rattle.std.proofs.lemmas.Bool.Decides.{nat_tests}
use Rattle.dots.specs.Values.{Dot}
use Rattle.dots.specs.Orders.{dot_cmp}
use Rattle.live_cells.specs.declared.placed.Placed.{Placed}
use Rattle.live_cells.specs.PlacedLists.{is_placed}
use Rattle.live_cells.proofs.PlacedOrder.{Ahead, Rise, lies_after, missed_at, placed_found, same_place}

abbrev at : ℕ → ℕ → Dot
at site count = record { site = site; count = count }

-- whether a dot lies before another, by numbers
pub lt_dots : (a b : Dot) → is_lt (dot_cmp a b) ≡ (nat_lt a.site b.site || (nat_eq a.site b.site && nat_lt a.count b.count))
lt_dots a b = split (nat_lt a.site b.site) (nat_eq a.site b.site) (nat_lt a.count b.count) (nat_eq a.count b.count)
  where
    split : (p q r e : Bool) → is_lt (ordering_then (cond p Less (cond q Equal Greater)) (cond r Less (cond e Equal Greater))) ≡ (p || (q && r))
    split true q r e = refl
    split false true true e = refl
    split false true false true = refl
    split false true false false = refl
    split false false r e = refl

later_on : (s t c m n : ℕ) → m ≤ n → (nat_lt t s || (nat_eq t s && nat_lt c m)) ≡ true → (nat_lt t s || (nat_eq t s && nat_lt c n)) ≡ true
later_on s t c m n h l = grind (arith, nat_tests)

other_site : (s t c m n : ℕ) → (t ≡ s → ⊥) → (nat_lt s t || (nat_eq s t && nat_lt m c)) ≡ true → (nat_lt s t || (nat_eq s t && nat_lt n c)) ≡ true
other_site s t c m n h l = grind (arith, nat_tests)

one_site : (s t c n : ℕ) → t ≡ s → n < c → (nat_lt s t || (nat_eq s t && nat_lt n c)) ≡ true
one_site s t c n h l = grind (arith, nat_tests)

pub more_on : (s t c m : ℕ) → t ≡ s → (nat_lt s t || (nat_eq s t && nat_lt m c)) ≡ true → m < c
more_on s t c m h l = grind (arith, nat_tests)

no_less : (d : Dot) (n : ℕ) → d.count ≤ n → (x : Dot) → is_lt (dot_cmp x d) ≡ true → is_lt (dot_cmp x (at d.site n)) ≡ true
no_less d n h x l = lt_dots x (at d.site n) ∙ later_on d.site x.site x.count d.count n h (sym (lt_dots x d) ∙ l)

-- live dots
no_dot : (dots : List Placed) (d : Dot) (i n : ℕ) → Rise dots → i ≤ length dots → Ahead d dots i → d.count ≤ n → ((e : Placed) → i < length dots → is_lt (dot_cmp (at d.site n) (get_or dots i e).dot) ≡ true) → is_placed dots (at d.site n) ≡ false
no_dot dots d i n s within before h past =
    placed_found dots (at d.site n) ∙ ap is_some (missed_at (at d.site n) dots i s (λ k e lo hi. no_less d n h (get_or dots k e).dot (before k e lo hi)) within past)

pub past_dots : (dots : List Placed) (d : Dot) (i n : ℕ) → Rise dots → Ahead d dots i → i ≡ length dots → d.count ≤ n → is_placed dots (at d.site n) ≡ false
past_dots dots d i n s before e h = no_dot dots d i n s (omega arith) before h (λ x l. absurd (omega arith))

-- the one at a place lies after a dot, where it doesn't lie before it and isn't it
pub beyond : (dots : List Placed) (d : Dot) (i : ℕ) (x : Placed) → i < length dots → x ≡ get_or dots i x → AllWithin (λ p. is_lt (dot_cmp p.dot d) ≡ false) dots i (length dots) → d ≢ x.dot → is_lt (dot_cmp d x.dot) ≡ true
beyond dots d i x l at_x after other = ap (λ y. is_lt (dot_cmp d y.dot)) at_x ∙ lies_after d dots i x l at_x other after x l

module _ (dots : List Placed) (d : Dot) (i : ℕ) (x : Placed) (s : Rise dots) (l : i < length dots) (before : Ahead d dots i) (at_x : x ≡ get_or dots i x) where
  module _ (after : is_lt (dot_cmp d x.dot) ≡ true) where
    pub dots_elsewhere : (x.dot.site ≡ d.site → ⊥) → (n : ℕ) → d.count ≤ n → is_placed dots (at d.site n) ≡ false
    dots_elsewhere other n h = no_dot dots d i n s (omega arith) before h (λ e m.
        let is : (get_or dots i e) ≡ x = same_place dots i e x l ∙ sym at_x in
        let past = sym (lt_dots d x.dot) ∙ after in
        ap (λ y. is_lt (dot_cmp (at d.site n) y.dot)) is ∙ lt_dots (at d.site n) x.dot ∙ other_site d.site x.dot.site x.dot.count d.count n other past)

    pub dots_later : x.dot.site ≡ d.site → (n : ℕ) → d.count ≤ n → n < x.dot.count → is_placed dots (at d.site n) ≡ false
    dots_later same n h m = no_dot dots d i n s (omega arith) before h (λ e k.
        let is : (get_or dots i e) ≡ x = same_place dots i e x l ∙ sym at_x in
        ap (λ y. is_lt (dot_cmp (at d.site n) y.dot)) is ∙ lt_dots (at d.site n) x.dot ∙ one_site d.site x.dot.site x.dot.count n same m)

    pub next_dot : x.dot.site ≡ d.site → d.count < x.dot.count
    next_dot same = more_on d.site x.dot.site x.dot.count d.count same (sym (lt_dots d x.dot) ∙ after)

-- the result of a test of two sites
pub differs : (a b : ℕ) → not (nat_eq a b) ≡ true → a ≡ b → ⊥
differs a b h e = absurd (let n : not (nat_eq a b) ≡ false = grind (arith, nat_tests, e) in cc)

pub agrees : (a b : ℕ) → not (nat_eq a b) ≡ false → a ≡ b
agrees a b h = grind (arith, nat_tests)

-- what lies before a dot lies before those of later counts
pub dots_ahead : (d : Dot) (site n : ℕ) (dots : List Placed) (i : ℕ) → d.site ≡ site → d.count ≤ n → Ahead d dots i → Ahead (at site n) dots i
dots_ahead d site n dots i same h before k e lo hi = ap (λ s. is_lt (dot_cmp (get_or dots k e).dot (at s n))) (sym same) ∙ no_less d n h (get_or dots k e).dot (before k e lo hi)
