-- The first offer, row by row.
use Rattle.std.proofs.Common.{◌≡◌, ℕ, Bool, true, false, ◌&&◌, cond, List, [], ◌∷◌, Option, Some, None, refl, sym, ap, true≢false}
use Rattle.std.specs.List.{best_of}
use Rattle.operations.specs.Rows.{MemberRow}
use Rattle.offer.specs.declared.offered.Offer.{Offer}
use Rattle.offer.specs.Offers.{comes_before, may_be_offered, offer_of, offers_of}
use Rattle.offer.specs.GoingOver.{comes_first, first_with, is_next}

-- where no offers are left, it is the first so far
pub first_alone : (first : Option Offer) → first ≡ first_with first []
first_alone None = refl
first_alone (Some first) = refl

-- an offer that comes first takes the place of the first so far
taken : (first : Option Offer) (offer : Offer) (offers : List Offer) → comes_first first offer ≡ true → first_with (Some offer) offers ≡ first_with first (offer ∷ offers)
taken None offer offers is = refl
taken (Some first) offer offers is = ap (λ b. Some (best_of comes_before (cond b offer first) offers)) (sym is)

-- one that doesn't leaves it
left : (first : Option Offer) (offer : Offer) (offers : List Offer) → comes_first first offer ≡ false → first_with first offers ≡ first_with first (offer ∷ offers)
left None offer offers is = absurd (true≢false is)
left (Some first) offer offers is = ap (λ b. Some (best_of comes_before (cond b offer first) offers)) (sym is)

-- a row whose offer comes first, and another row
pub row_taken : (tried : List (List ℕ)) (first : Option Offer) (row : List ℕ × MemberRow) (rows : List (List ℕ × MemberRow)) → is_next tried first row ≡ true
    → first_with (Some (offer_of row)) (offers_of tried rows) ≡ first_with first (offers_of tried (row ∷ rows))
row_taken tried first row rows = by (may_be_offered tried row) refl where
  by : (b : Bool) → may_be_offered tried row ≡ b → (b && comes_first first (offer_of row)) ≡ true
      → first_with (Some (offer_of row)) (offers_of tried rows) ≡ first_with first (offers_of tried (row ∷ rows))
  by true may is = rw may (taken first (offer_of row) (offers_of tried rows) is)
  by false may is = absurd (true≢false (sym is))

pub row_left : (tried : List (List ℕ)) (first : Option Offer) (row : List ℕ × MemberRow) (rows : List (List ℕ × MemberRow)) → is_next tried first row ≡ false
    → first_with first (offers_of tried rows) ≡ first_with first (offers_of tried (row ∷ rows))
row_left tried first row rows = by (may_be_offered tried row) refl where
  by : (b : Bool) → may_be_offered tried row ≡ b → (b && comes_first first (offer_of row)) ≡ false
      → first_with first (offers_of tried rows) ≡ first_with first (offers_of tried (row ∷ rows))
  by true may is = rw may (left first (offer_of row) (offers_of tried rows) is)
  by false may is = rw may refl
