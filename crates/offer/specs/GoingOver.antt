-- The first offer so far, while rows are visited.
use Rattle.std.specs.Prelude.{ℕ, Bool, true, ◌&&◌, List, Option, Some, None}
use Rattle.std.specs.List.{best_of}
use Rattle.operations.specs.Rows.{MemberRow}
use Rattle.offer.specs.declared.offered.Offer.{Offer}
use Rattle.offer.specs.Offers.{comes_before, first_of, may_be_offered, offer_of}

-- whether `offer` comes before the first so far, if there is one
abbrev pub comes_first : Option Offer → Offer → Bool
comes_first None offer = true
comes_first (Some first) offer = comes_before offer first

-- whether the member of `row` may be offered, and comes before `first`, the first so far, if there is one
abbrev pub is_next : List (List ℕ) → Option Offer → List ℕ × MemberRow → Bool
is_next tried first row = may_be_offered tried row && comes_first first (offer_of row)

-- the first of `offers`, those that are left, and of the first so far, if there is one
abbrev pub first_with : Option Offer → List Offer → Option Offer
first_with None offers = first_of offers
first_with (Some first) offers = Some (best_of comes_before first offers)
