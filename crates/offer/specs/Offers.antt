-- Which member of a queue is offered a call.
use Rattle.std.specs.Prelude.{ℕ, ◌≡◌, Bool, false, not, ◌&&◌, List, [], ◌∷◌, Option, Some, None, Contains, filter, map as each, bytes_eq}
use Rattle.std.specs.Option.{option_map}
use Rattle.std.specs.List.{list_any, best_of}
use Rattle.std.specs.Ordering.{is_lt, nat_cmp, on, then_cmp}
use Rattle.std.specs.declared.cmp.Ordering.{Ordering}
use Rattle.dots.specs.Orders.{text_cmp}
use Rattle.operations.specs.Rows.{MemberRow}
use Rattle.replica.specs.Queues.{number_of}
use Rattle.offer.specs.declared.offered.Offer.{Offer}

-- whether `interface` is one of those that were tried
abbrev pub was_tried : List (List ℕ) → List ℕ → Bool
was_tried tried interface = list_any (λ other. bytes_eq other interface) tried

-- whether the member of `row` may be offered: it isn't paused, and its interface wasn't tried
abbrev pub may_be_offered : List (List ℕ) → List ℕ × MemberRow → Bool
may_be_offered tried row = not row.1.paused && not (was_tried tried row.0)

-- the offer of the member of `row`: its interface and its penalty
abbrev pub offer_of : List ℕ × MemberRow → Offer
offer_of row = record { interface = row.0; penalty = row.1.penalty }

-- the offers of those members of `rows` that may be offered, in the order of the rows
abbrev pub offers_of : List (List ℕ) → List (List ℕ × MemberRow) → List Offer
offers_of tried rows = each offer_of (filter (may_be_offered tried) rows)

-- the order of offers: by penalty, then by the interface's bytes
abbrev pub offer_cmp : Offer → Offer → Ordering
offer_cmp = then_cmp (on (λ o. o.penalty) nat_cmp) (on (λ o. o.interface) text_cmp)

-- whether offer `first` comes before offer `second` in the order of offers
abbrev pub comes_before : Offer → Offer → Bool
comes_before first second = is_lt (offer_cmp first second)

-- the first of a list of offers in the order of offers; `None` where the list is empty
abbrev pub first_of : List Offer → Option Offer
first_of [] = None
first_of (offer ∷ offers) = Some (best_of comes_before offer offers)

-- the first offer of the rows of the queue that has the name `queue`, without the tried interfaces, if there is one; nothing if
-- there is no such queue
abbrev pub offered : List (List ℕ) → (ℕ → List (List ℕ × MemberRow)) → List ℕ → List (List ℕ) → Option (Option Offer)
offered names rows queue tried = option_map (λ number. first_of (offers_of tried (rows number))) (number_of names queue)

-- `offer` is one of `offers`, and none of these comes before it
pub record IsFirst (offers : List Offer) (offer : Offer) : Type 0 where
  pub there : Contains offers offer
  pub first : (other : Offer) → Contains offers other → comes_before other offer ≡ false

-- an offer is the first of `offers`, or there is none and no offers
abbrev pub IsFirstOf : List Offer → Option Offer → Type 0
IsFirstOf offers None = offers ≡ []
IsFirstOf offers (Some offer) = IsFirst offers offer

-- no two of `offers` are both the first
abbrev pub HaveOneFirst : List Offer → Type 0
HaveOneFirst offers = (one other : Offer) → IsFirst offers one → IsFirst offers other → one ≡ other
