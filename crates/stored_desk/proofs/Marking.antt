-- Each move at the mark keeps its rule.
use Rattle.std.proofs.Common.{◌≡◌, ◌≢◌, ◌≤◌, ◌∙◌, ℕ, zero, suc, List, [], ◌∷◌, set, Bool, cond, true, false, true≢false, refl, sym, subst, ⊎_elim, arith, slice_index}
use mathlib.Core.Option.{some, some-ne-none, some-injective}
use lib.ListN.{get_elem?}
use Rattle.crossbeam_utils.specs.Register.{Turns, Forks, Merges}
use Rattle.atomic_table.proofs.Lists.{at_set, at_snoc, set_again}
use Rattle.stored_desk.specs.declared.mark.MarkView.{MarkView}
use Rattle.stored_desk.specs.Marks.{FitsMark, IsMarked, Raised, beside, claim_of, keeper_at, known_saved}

off : false ≡ true → ⊥
off e = true≢false (sym e)

-- a claim fits where the mark isn't below it
claim_fits : (mark seat pass least : ℕ) → least ≤ mark → FitsMark mark seat pass (claim_of least)
claim_fits mark seat pass least low = record { keeper = λ keeps. absurd (off keeps); claim = low }

-- the views after one of them has changed fit, where the others do
fits_set : (seat mark : ℕ) (views : List MarkView) (pass : ℕ) (w : MarkView) → ((j : ℕ) (u : MarkView) → j ≢ pass → get_elem? views j ≡ some u → FitsMark mark seat j u) → FitsMark mark seat pass w
    → (j : ℕ) (u : MarkView) → get_elem? (set views pass w) j ≡ some u → FitsMark mark seat j u
fits_set seat mark views pass w others mine j u e =
    ⊎_elim
    (λ (x : (j ≡ pass) × (w ≡ u)). subst (λ (y : ℕ × MarkView). FitsMark mark seat y.0 y.1) (λ i. (sym x.0 i, x.1 i)) mine)
    (λ (x : (j ≢ pass) × (get_elem? views j ≡ some u)). others j u x.0 x.1)
    (at_set views pass j w u e)

pub begins : IsMarked (0 ∷ []) (keeper_at 0 ∷ [])
begins = (0, one)
  where
    one : (pass : ℕ) (v : MarkView) → get_elem? (keeper_at 0 ∷ []) pass ≡ some v → FitsMark 0 0 pass v
    one zero v e = subst (FitsMark 0 0 0) (some-injective _ _ e) (record { keeper = λ _. (refl, refl); claim = omega arith })
    one (suc pass) v e = absurd (some-ne-none v (sym e))

-- the keeper sets the mark
pub raises : (pass m : ℕ) (v : MarkView) → v.keeps ≡ true → v.saved ≤ m → Turns IsMarked pass v (λ _. m ∷ []) Raised
raises pass m v keeps up words views h at =
    let fits = h.1 pass v at in
    let mine = fits.keeper keeps in
    let low : slice_index words 0 ≤ m = omega (arith, mine.1, up) in (
      keeper_at m,
      (
        h.0,
        fits_set h.0 m views pass (keeper_at m)
            (λ j u apart e. record { keeper = λ also. absurd (apart (((h.1 j u e).keeper also).0 ∙ sym mine.0)); claim = omega (arith, (h.1 j u e).claim, low) })
            (record { keeper = λ _. (mine.0, refl); claim = omega arith }),
      ),
      (refl, omega (arith, fits.claim, mine.1)),
    )

-- a pass gives a claim that isn't above the mark
gives : (pass least : ℕ) (v : MarkView) → ((mark seat : ℕ) → FitsMark mark seat pass v → least ≤ mark) → Forks IsMarked pass v v (claim_of least)
gives pass least v low words views h at = (
  h.0,
  λ j u e. ⊎_elim
      (λ was. h.1 j u (subst (λ l. get_elem? l j ≡ some u) (set_again views pass v at) was))
      (λ (same : claim_of least ≡ u). subst (FitsMark (slice_index words 0) h.0 j) same (claim_fits (slice_index words 0) h.0 j least (low (slice_index words 0) h.0 (h.1 pass v at))))
      (at_snoc (set views pass v) (claim_of least) u j e),
)

known_low : (mark seat pass : ℕ) (v : MarkView) → FitsMark mark seat pass v → known_saved v ≤ mark
known_low mark seat pass v fits = low v.keeps refl
  where
    low : (keeps : Bool) → v.keeps ≡ keeps → cond keeps v.saved v.least ≤ mark
    low true is = omega (arith, (fits.keeper is).1)
    low false is = fits.claim

pub known_gives : (pass : ℕ) (v : MarkView) → Forks IsMarked pass v v (claim_of (known_saved v))
known_gives pass v = gives pass (known_saved v) v (λ mark seat fits. known_low mark seat pass v fits)

-- the keeper takes in a claim
pub takes_in : (pass : ℕ) (v : MarkView) (other : ℕ) (u : MarkView) → Merges IsMarked pass v other u (beside v u) (claim_of 0)
takes_in pass v other u words views h at apart there =
    let w = beside v u in
    let mark = slice_index words 0 in
    let mine = h.1 pass v at in
    let theirs = ⊎_elim (λ (t : (other ≡ pass) × (w ≡ u)). absurd (apart t.0)) (λ (t : (other ≢ pass) × (get_elem? views other ≡ some u)). h.1 other u t.1) (at_set views pass other w u there) in (
      h.0,
      fits_set h.0 mark (set views pass w) other (claim_of 0)
          (λ j x _ e. fits_set h.0 mark views pass w (λ i y _ e'. h.1 i y e') (record { keeper = mine.keeper; claim = theirs.claim }) j x e)
          (claim_fits mark h.0 other 0 (omega arith)),
    )
