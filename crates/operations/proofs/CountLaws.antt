-- Totals: they depend on what a knowledge contains alone, and don't fall as it grows.
use Rattle.std.proofs.Common.{◌≡◌, ℕ, zero, suc, ◌≤◌, ◌<◌, [], ◌∷◌, Contains, ap, ◌⊎◌, inl, inr, arith}
use Rattle.dots.specs.declared.limits.TheConstants.{SITES}
use Rattle.dots.specs.declared.calls.Calls.{Calls}
use Rattle.operations.specs.Operations.{Operation}
use Rattle.operations.specs.Knowledge.{Knowledge, SameOperations}
use Rattle.operations.specs.Totals.{sum_below}
use Rattle.operations.specs.Counts.{count_in, site_total, queue_total}
use Rattle.general_lemmas.proofs.Membership.{first_in, later_in, cases_in}

-- what an operation says is at most the total
total_above : (k : Knowledge) (site queue : ℕ) (calls : Calls) (o : Operation) → Contains k o → count_in site queue calls o ≤ site_total k site queue calls
total_above [] site queue calls o h = omega (arith, h.1)
total_above (p ∷ k) site queue calls o h = elim (cases_in p k o h) [
  | inl e ↦ let same : count_in site queue calls p ≡ count_in site queue calls o = ap (count_in site queue calls) e in omega arith
  | inr r ↦ omega (arith, total_above k site queue calls o r)
]

-- a bound of all counts bounds the total
total_below : (k : Knowledge) (site queue : ℕ) (calls : Calls) (most : ℕ) → ((o : Operation) → Contains k o → count_in site queue calls o ≤ most) → site_total k site queue calls ≤ most
total_below [] site queue calls most h = omega arith
total_below (p ∷ k) site queue calls most h =
    omega (arith, h p (first_in p k), total_below k site queue calls most (λ o here. h o (later_in p k o here)))

-- a total of what is contained in more is no greater
pub total_grows : (k l : Knowledge) → ((o : Operation) → Contains k o → Contains l o) → (site queue : ℕ) (calls : Calls) → site_total k site queue calls ≤ site_total l site queue calls
total_grows k l to site queue calls = total_below k site queue calls (site_total l site queue calls) (λ o here. total_above l site queue calls o (to o here))

pub same_total : (k l : Knowledge) → SameOperations k l → (site queue : ℕ) (calls : Calls) → site_total k site queue calls ≡ site_total l site queue calls
same_total k l same site queue calls =
    omega (arith, total_grows k l (λ o. (same o).0) site queue calls, total_grows l k (λ o. (same o).1) site queue calls)

pub same_queue_total : (k l : Knowledge) → SameOperations k l → (queue : ℕ) (calls : Calls) → queue_total k queue calls ≡ queue_total l queue calls
same_queue_total k l same queue calls = ap (sum_below SITES) (λ i site. same_total k l same site queue calls i)

-- one of the terms is at most the sum
term_below : (n : ℕ) (f : ℕ → ℕ) (i : ℕ) → i < n → f i ≤ sum_below n f
unfolding sum_below
term_below zero f i h = omega arith
term_below (suc n) f i h = elim (split i n h) [
  | inl p ↦ omega (arith, term_below n f i p)
  | inr p ↦ let same : f i ≡ f n = ap f p in omega arith
]
  where
    split : (i n : ℕ) → i < suc n → (i < n) ⊎ (i ≡ n)
    split i n h = grind arith

sum_grows : (n : ℕ) (f g : ℕ → ℕ) → ((i : ℕ) → f i ≤ g i) → sum_below n f ≤ sum_below n g
unfolding sum_below
sum_grows zero f g h = omega arith
sum_grows (suc n) f g h = omega (arith, sum_grows n f g h, h n)

-- a queue's total is at least each site's
pub queue_above : (k : Knowledge) (site queue : ℕ) (calls : Calls) → site < SITES → site_total k site queue calls ≤ queue_total k queue calls
queue_above k site queue calls h = term_below SITES (λ s. site_total k s queue calls) site h

-- a queue's total doesn't fall as the knowledge grows
pub queue_grows : (k l : Knowledge) → ((o : Operation) → Contains k o → Contains l o) → (queue : ℕ) (calls : Calls) → queue_total k queue calls ≤ queue_total l queue calls
queue_grows k l to queue calls = sum_grows SITES (λ s. site_total k s queue calls) (λ s. site_total l s queue calls) (λ site. total_grows k l to site queue calls)
