-- Where the dots of a run stand among live dots that rise.
use Rattle.std.proofs.Common.{◌≡◌, ℕ, suc, ◌+◌, ◌-◌, ◌<◌, ◌≤◌, true, false, ◌&&◌, ◌||◌, List, [], ◌∷◌, length, get_or, take, drop, filter, inl, inr, sym, ◌∙◌, arith}
use Rattle.std.specs.Prelude.{nat_lt, nat_le, nat_eq}
use Rattle.std.specs.List.Sorted.{IsPartitionPoint}
use Rattle.std.specs.Ordering.{is_lt}
use Rattle.std.proofs.lemmas.Bool.{cases_Bool}
use Rattle.std.proofs.lemmas.Bool.Decides.{nat_tests}
use Rattle.dots.specs.Values.{Dot}
use Rattle.dots.specs.Orders.{dot_cmp}
use Rattle.dots.specs.DotSets.{Run, first_dot, in_run, last_dot, next_dot}
use Rattle.live_cells.specs.declared.placed.Placed.{Placed}
use Rattle.live_cells.proofs.IndexPlaces.{kept_between}
use Rattle.live_cells.proofs.Pieces.{lt_dots}

-- the place of the first of those that don't lie before a dot
abbrev pub IsPlaceOf : Dot → List Placed → ℕ → Type 0
IsPlaceOf d ps i = IsPartitionPoint (λ p. is_lt (dot_cmp p.dot d) ≡ true) (λ p. is_lt (dot_cmp p.dot d) ≡ false) ps i

by_numbers : (s t c f l m : ℕ) → f ≤ l → m ≡ l + 1 → (nat_lt s t || (nat_eq s t && nat_lt c f)) ≡ true → (nat_lt s t || (nat_eq s t && nat_lt c m)) ≡ true
by_numbers s t c f l m h e b = grind (arith, nat_tests)

-- what lies before a run lies before the dot past its end
before_end : (p : Dot) (r : Run) → r.first ≤ r.last → is_lt (dot_cmp p (first_dot r)) ≡ true → is_lt (dot_cmp p (next_dot (last_dot r))) ≡ true
before_end p r h b = lt_dots p (next_dot (last_dot r)) ∙ by_numbers p.site r.site p.count r.first r.last (suc r.last) h (omega arith) (sym (lt_dots p (first_dot r)) ∙ b)

out_before : (s t c f l : ℕ) → (nat_lt s t || (nat_eq s t && nat_lt c f)) ≡ true → (nat_eq t s && (nat_le f c && nat_le c l)) ≡ false
out_before s t c f l b = grind (arith, nat_tests)

out_past : (s t c f l m : ℕ) → m ≡ l + 1 → (nat_lt s t || (nat_eq s t && nat_lt c m)) ≡ false → (nat_eq t s && (nat_le f c && nat_le c l)) ≡ false
out_past s t c f l m e b = grind (arith, nat_tests)

in_between : (s t c f l m : ℕ) → m ≡ l + 1 → (nat_lt s t || (nat_eq s t && nat_lt c f)) ≡ false → (nat_lt s t || (nat_eq s t && nat_lt c m)) ≡ true → (nat_eq t s && (nat_le f c && nat_le c l)) ≡ true
in_between s t c f l m e a b = grind (arith, nat_tests)

-- the place past a run isn't before the place of the run
pub parts_rise : (ps : List Placed) (r : Run) (i j : ℕ) → i ≤ length ps → r.first ≤ r.last → IsPlaceOf (first_dot r) ps i → IsPlaceOf (next_dot (last_dot r)) ps j → i ≤ j
parts_rise ps r i j w h a b = elim (cases_Bool (nat_lt j i)) [
  | inl t ↦
      let early : j < i = grind (arith, nat_tests, t) in
      absurd (clash (λ e. before_end (get_or ps j e).dot r h (a.0 j e (omega arith) early)) (λ e. b.1 j e (omega arith) (omega arith)) (omega arith))
  | inr f ↦ grind (arith, nat_tests, f)
]
  where
    clash : ((e : Placed) → is_lt (dot_cmp (get_or ps j e).dot (next_dot (last_dot r))) ≡ true) → ((e : Placed) → is_lt (dot_cmp (get_or ps j e).dot (next_dot (last_dot r))) ≡ false) → j < length ps → ⊥
    clash y n l = some ps j l y n
      where
        some : (qs : List Placed) (k : ℕ) → k < length qs → ((e : Placed) → is_lt (dot_cmp (get_or qs k e).dot (next_dot (last_dot r))) ≡ true) → ((e : Placed) → is_lt (dot_cmp (get_or qs k e).dot (next_dot (last_dot r))) ≡ false) → ⊥
        some [] k m y n = absurd (omega arith)
        some (q ∷ qs) k m y n = absurd (let t = y q in let f = n q in cc)

-- between the two stand the dots of the run
pub run_between : (ps : List Placed) (r : Run) (i j : ℕ) → i ≤ length ps → j ≤ length ps → r.first ≤ r.last → IsPlaceOf (first_dot r) ps i → IsPlaceOf (next_dot (last_dot r)) ps j
    → take (j - i) (drop i ps) ≡ filter (λ p. in_run p.dot r) ps
run_between ps r i j w v h a b =
    let rise = parts_rise ps r i j w h a b in
    let end : i + (j - i) ≡ j = omega arith in
    sym (kept_between (λ p. in_run p.dot r) ps i (j - i)
    (λ k e lo hi. out_before (get_or ps k e).dot.site r.site (get_or ps k e).dot.count r.first r.last (sym (lt_dots (get_or ps k e).dot (first_dot r)) ∙ a.0 k e lo hi))
    (λ k e lo hi. in_between (get_or ps k e).dot.site r.site (get_or ps k e).dot.count r.first r.last (suc r.last) (omega arith) (sym (lt_dots (get_or ps k e).dot (first_dot r)) ∙ a.1 k e lo (omega arith))
    (sym (lt_dots (get_or ps k e).dot (next_dot (last_dot r))) ∙ b.0 k e (omega arith) (omega arith)))
    (λ k e lo hi. out_past (get_or ps k e).dot.site r.site (get_or ps k e).dot.count r.first r.last (suc r.last) (omega arith) (sym (lt_dots (get_or ps k e).dot (next_dot (last_dot r))) ∙ b.1 k e (omega arith) hi))
    (omega arith))
