-- One set has all of another where each run of the other is within one of its runs.
use Rattle.std.proofs.Common.{◌≡◌, ℕ, ◌+◌, ◌≤◌, ◌<◌, Bool, true, false, ◌&&◌, ◌||◌, List, [], ◌∷◌, length, get_or, drop, refl, sym, ap, subst, ◌∙◌, inl, inr, arith}
use Rattle.std.specs.Prelude.{nat_le, IsTrue}
use Rattle.std.specs.List.{All}
use Rattle.std.specs.FinSet as set
use Rattle.std.proofs.lemmas.Bool.{cases_Bool, or_from, or_right}
use Rattle.std.proofs.lemmas.Bool.Decides.{nat_tests}
use Rattle.std.proofs.lemmas.List.{length-drop, drop_all}
use Rattle.std.proofs.lemmas.List.Folds.{list_any_none}
use Rattle.std.proofs.lemmas.List.Elements.{All-head, All-tail, All-weaker}
use Rattle.dots.specs.Values.{Dot}
use Rattle.dots.specs.Orders.{dot_cmp}
use Rattle.dots.specs.DotSets.{Run, in_run, in_runs, is_apart, AreApart, IsRunsOf, first_dot, last_dot, next_dot}
use Rattle.dots.proofs.DotOrder.{dots_total}
use Rattle.dots.proofs.Apart.{rest_misses_next}
use Rattle.general_lemmas.proofs.Fronts.{open_at}
use Rattle.causal_context.specs.RunLists.{is_below, holds, within, all_within}
use Rattle.causal_context.proofs.Places.{apart_drop}

-- what one that holds it has
has_whole : (d : Dot) (r x : Run) → holds r x ≡ true → in_run d r ≡ true → in_run d x ≡ true
has_whole d r x h i = grind (arith, nat_tests)

covered : (rs : List Run) (r : Run) (d : Dot) → within rs r ≡ true → in_run d r ≡ true → in_runs rs d ≡ true
covered [] r d h i = absurd (cc)
covered (x ∷ rs) r d h i = split (holds r x) (within rs r) (in_run d x) (in_runs rs d) (λ k. has_whole d r x k i) (λ k. covered rs r d k i) h
  where
    split : (p q e f : Bool) → (p ≡ true → e ≡ true) → (q ≡ true → f ≡ true) → (p || q) ≡ true → (e || f) ≡ true
    split true q e f a b h = ap (λ z. z || f) (a refl)
    split false q true f a b h = refl
    split false q false f a b h = b h

-- where each is within one, all dots are there
pub all_covered : (rs xs : List Run) → all_within rs xs ≡ true → (d : Dot) → in_runs xs d ≡ true → in_runs rs d ≡ true
all_covered rs [] h d i = absurd (cc)
all_covered rs (x ∷ xs) h d i = split (within rs x) (all_within rs xs) (in_run d x) (in_runs xs d) (covered rs x d) (λ k. all_covered rs xs k d) h i
  where
    split : (p q e f : Bool) → (p ≡ true → e ≡ true → in_runs rs d ≡ true) → (q ≡ true → f ≡ true → in_runs rs d ≡ true) → (p && q) ≡ true → (e || f) ≡ true → in_runs rs d ≡ true
    split true q true f a b h i = a refl refl
    split true q false f a b h i = b h i
    split false q e f a b h i = absurd (cc)

-- a dot of a run that the others lack
pub record Gap (rs : List Run) (r : Run) : Type 0 where
  pub dot : Dot
  pub here : in_run dot r ≡ true
  pub missed : in_runs rs dot ≡ false

start_in : (r : Run) → r.first ≤ r.last → in_run (first_dot r) r ≡ true
start_in r w = grind (arith, nat_tests)

-- the first dot is in x, which ends too early
early_here : (r x : Run) → r.first ≤ r.last → in_run (first_dot r) x ≡ true → (true && nat_le r.last x.last) ≡ false → in_run (next_dot (last_dot x)) r ≡ true
early_here r x w h e = grind (arith, nat_tests)

end_in : (r x : Run) → in_run (first_dot r) x ≡ true → in_run (last_dot x) x ≡ true
end_in r x h = grind (arith, nat_tests)

past_own : (x : Run) → in_run (next_dot (last_dot x)) x ≡ false
past_own x = grind (arith, nat_tests)

-- the first dot isn't in x: either x lies before it, and has no dot of r, or what follows x lies past it
later : (r x y : Run) → is_below (first_dot r) x ≡ false → in_run (first_dot r) x ≡ false → IsTrue (is_apart x y) → in_run (first_dot r) y ≡ false
later r x y b h a = grind (arith, nat_tests)

below_all : (d : Dot) (r x : Run) → is_below (first_dot r) x ≡ true → in_run d r ≡ true → in_run d x ≡ false
below_all d r x b h = grind (arith, nat_tests)

gap : (rs : List Run) (r : Run) → AreApart rs → r.first ≤ r.last → within rs r ≡ false → Gap rs r
gap [] r a w h = record { dot = first_dot r; here = start_in r w; missed = refl }
gap (x ∷ rs) r a w h = elim (cases_Bool (in_run (first_dot r) x)) [
  | inl y ↦ record {
    dot = next_dot (last_dot x);
    here = early_here r x w y (left y);
    missed = or_from _ _ (past_own x) (rest_misses_next (last_dot x) x rs a.1 (end_in r x y));
  }
  | inr n ↦ elim (cases_Bool (is_below (first_dot r) x)) [
    | inl b ↦ let g = gap rs r a.2 w right in record { dot = g.dot; here = g.here; missed = or_from _ _ (below_all g.dot r x b g.here) g.missed }
    | inr b ↦ record {
      dot = first_dot r;
      here = start_in r w;
      missed = or_from _ _ n (list_any_none (in_run (first_dot r)) rs (All-weaker (λ y. IsTrue (is_apart x y)) (λ y. in_run (first_dot r) y ≡ false) (λ y p. later r x y b n p) rs a.1));
    }
  ]
]
  where
    first : (p q : Bool) → (p || q) ≡ false → p ≡ false
    first true q h = h
    first false q h = refl

    second : (p q : Bool) → (p || q) ≡ false → q ≡ false
    second true q h = absurd (cc)
    second false q h = h

    right : within rs r ≡ false
    right = second (holds r x) _ h

    left : in_run (first_dot r) x ≡ true → (true && nat_le r.last x.last) ≡ false
    left y = ap (λ b. b && nat_le r.last x.last) (sym y) ∙ first (holds r x) _ h

-- if one run is not within the others, a dot is missing
pub record Missing (rs xs : List Run) : Type 0 where
  pub dot : Dot
  pub here : in_runs xs dot ≡ true
  pub missed : in_runs rs dot ≡ false

missing : (rs xs : List Run) → AreApart rs → AreApart xs → all_within rs xs ≡ false → Missing rs xs
missing rs [] a b h = absurd (cc)
missing rs (x ∷ xs) a b h = elim (cases_Bool (within rs x)) [
  | inl y ↦ let m = missing rs xs a b.2 (second (within rs x) _ y h) in record { dot = m.dot; here = or_right (in_run m.dot x) _ m.here; missed = m.missed }
  | inr n ↦ let g = gap rs x a b.0 n in record { dot = g.dot; here = ap (λ b. b || in_runs xs g.dot) g.here; missed = g.missed }
]
  where
    second : (p q : Bool) → p ≡ true → (p && q) ≡ false → q ≡ false
    second true q y h = h
    second false q y h = absurd (cc)

-- the test of the runs is the test of the sets
pub subset_by_runs : (rs xs : List Run) (s t : set.FinSet dot_cmp) → IsRunsOf rs s → IsRunsOf xs t → all_within rs xs ≡ set.is_subset t s
subset_by_runs rs xs s t is has = elim (cases_Bool (all_within rs xs)) [
  | inl y ↦ y ∙ sym (set.contains-is_subset dots_total t s (λ d h. is.same d ∙ all_covered rs xs y d (sym (has.same d) ∙ h)))
  | inr n ↦ n ∙ sym (elim (cases_Bool (set.is_subset t s)) [
    | inl y ↦ let m = missing rs xs is.apart has.apart n in
        absurd (let f = set.is_subset-contains dots_total t s y m.dot (has.same m.dot ∙ m.here) in let g = is.same m.dot ∙ m.missed in cc)
    | inr f ↦ f
  ])
]

-- the steps of a walk over both lists. A run that ends before the next one to find holds none of those that are left
below_later : (x r y : Run) → is_below (first_dot r) x ≡ true → IsTrue (is_apart r y) → r.first ≤ r.last → holds y x ≡ false
below_later x r y h p w = grind (arith, nat_tests)

below_self : (x r : Run) → is_below (first_dot r) x ≡ true → holds r x ≡ false
below_self x r h = grind (arith, nat_tests)

drop_first : (x r : Run) (rs ys : List Run) → is_below (first_dot r) x ≡ true → r.first ≤ r.last → All (λ y. IsTrue (is_apart r y)) ys → all_within rs ys ≡ all_within (x ∷ rs) ys
drop_first x r rs [] h w p = refl
drop_first x r rs (y ∷ ys) h w p =
    let none : holds y x ≡ false = below_later x r y h (All-head (λ y. IsTrue (is_apart r y)) y ys p) w in
    let rest = drop_first x r rs ys h w (All-tail (λ y. IsTrue (is_apart r y)) y ys p) in
    ap (λ b. within rs y && b) rest ∙ ap (λ b. (b || within rs y) && all_within (x ∷ rs) ys) (sym none)

pub step_below : (x r : Run) (rs xs : List Run) → is_below (first_dot r) x ≡ true → AreApart (r ∷ xs) → all_within rs (r ∷ xs) ≡ all_within (x ∷ rs) (r ∷ xs)
step_below x r rs xs h a =
    ap (λ b. within rs r && b) (drop_first x r rs xs h a.0 a.1) ∙ ap (λ b. (b || within rs r) && all_within (x ∷ rs) xs) (sym (below_self x r h))

-- one that doesn't end before it and doesn't hold it: none that follows does
none_follows : (x r y : Run) → is_below (first_dot r) x ≡ false → IsTrue (is_apart x y) → holds r y ≡ false
none_follows x r y h p = grind (arith, nat_tests)

pub step_gap : (x r : Run) (rs xs : List Run) → is_below (first_dot r) x ≡ false → holds r x ≡ false → AreApart (x ∷ rs) → all_within (x ∷ rs) (r ∷ xs) ≡ false
step_gap x r rs xs b h a =
    ap (λ p. p && all_within (x ∷ rs) xs) (or_from _ _ h (list_any_none (holds r) rs (All-weaker (λ y. IsTrue (is_apart x y)) (λ y. holds r y ≡ false) (λ y p. none_follows x r y b p) rs a.1)))

-- no run that follows holds the first dot, by the places that the walk has reached
pub walk_none : (rs xs : List Run) (i j : ℕ) → length rs ≤ i → j < length xs → all_within (drop i rs) (drop j xs) ≡ false
walk_none rs xs i j p l = (λ k. all_within (drop_all i rs p k) (drop j xs)) ∙ none_held (drop j xs) (omega (arith, length-drop j xs))
  where
    none_held : (ys : List Run) → 0 < length ys → all_within [] ys ≡ false
    none_held [] l = absurd (omega (arith, l))
    none_held (y ∷ ys) l = refl

pub walk_below : (rs xs : List Run) (i j : ℕ) (x r : Run) → i < length rs → x ≡ get_or rs i x → j < length xs → r ≡ get_or xs j r → AreApart xs → is_below (first_dot r) x ≡ true
    → all_within (drop (i + 1) rs) (drop j xs) ≡ all_within (drop i rs) (drop j xs)
walk_below rs xs i j x r l e m f a h =
    ap (all_within (drop (i + 1) rs)) (open_at xs j r m f)
    ∙ step_below x r (drop (i + 1) rs) (drop (j + 1) xs) h (subst AreApart (open_at xs j r m f) (apart_drop j xs a))
    ∙ (λ k. all_within (sym (open_at rs i x l e) k) (sym (open_at xs j r m f) k))

pub walk_gap : (rs xs : List Run) (i j : ℕ) (x r : Run) → i < length rs → x ≡ get_or rs i x → j < length xs → r ≡ get_or xs j r → AreApart rs → is_below (first_dot r) x ≡ false → holds r x ≡ false
    → all_within (drop i rs) (drop j xs) ≡ false
walk_gap rs xs i j x r l e m f a b h =
    (λ k. all_within (open_at rs i x l e k) (open_at xs j r m f k))
    ∙ step_gap x r (drop (i + 1) rs) (drop (j + 1) xs) b h (subst AreApart (open_at rs i x l e) (apart_drop i rs a))
