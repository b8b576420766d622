-- What is shown of a call that is counted: one more, and all else as it was.
use Rattle.std.proofs.Common.{◌≡◌, ◌≢◌, ◌⊎◌, inl, inr, ℕ, zero, suc, ◌<◌, max, Bool, true, false, ◌&&◌, List, ◌∷◌, if◌then◌else◌, refl, sym, subst, ◌∙◌, arith, true≢false}
use Rattle.std.specs.Prelude.{◌==◌}
use Rattle.std.specs.FinSet as set
use Rattle.std.proofs.lemmas.Bool.{and_parts, cases_lt}
use Rattle.std.proofs.lemmas.Bool.Decides.{Decides-eqb}
use Rattle.dots.specs.declared.calls.Calls.{Calls}
use Rattle.dots.specs.declared.calls.Calls.TheVariants.{Completed, Abandoned}
use Rattle.dots.specs.declared.limits.TheConstants.{SITES}
use Rattle.dots.specs.declared.member.Member.{Member}
use Rattle.dots.specs.CountedCalls.{same_calls}
use Rattle.dots.specs.Orders.{dot_cmp}
use Rattle.operations.specs.Counts.{queue_total, site_total}
use Rattle.operations.proofs.TraceLaws.{same_kind}
use Rattle.operations.specs.Knowledge.{Knowledge}
use Rattle.operations.specs.Operations.{Count, Operation}
use Rattle.operations.specs.Totals.{sum_below}
use Rattle.replica.specs.Changes.{Makes, CountCall, count_at, meaning}
use Rattle.replica.specs.Queues.{number_of}
use Rattle.replica.specs.Shows.{ShowsCount, row_in}
use Rattle.replica.specs.SiteViews.{SiteView, site_view}
use Rattle.replica.proofs.MadeLimits.{in_queue_made, made}
use Rattle.replica.proofs.OneMoreRows.{row_passed}

-- ---- totals and sums

-- an operation that counts nothing leaves a total as it was
pub none_counted : (n : ℕ) → max 0 n ≡ n
none_counted n = omega arith

-- one more than a total is the total then
one_counted : (n : ℕ) → max (suc n) n ≡ suc n
one_counted n = omega arith

-- calls are of no kind but their own
one_kind : (c d : Calls) → same_calls c d ≡ true → c ≡ d
one_kind Completed Completed h = refl
one_kind Completed Abandoned h = absurd (true≢false (sym h))
one_kind Abandoned Completed h = absurd (true≢false (sym h))
one_kind Abandoned Abandoned h = refl

-- a sum stays where its terms do
sum_kept : (n : ℕ) (f g : ℕ → ℕ) → ((i : ℕ) → i < n → g i ≡ f i) → sum_below n g ≡ sum_below n f
unfolding sum_below
sum_kept zero f g same = refl
sum_kept (suc n) f g same = let rest = sum_kept n f g (λ i l. same i (omega arith)) in let last = same n (omega arith) in omega (arith, rest, last)

-- a sum is one more if one of its terms is
sum_more : (n : ℕ) (f g : ℕ → ℕ) (site : ℕ) → site < n → g site ≡ suc (f site) → ((i : ℕ) → i ≢ site → g i ≡ f i) → sum_below n g ≡ suc (sum_below n f)
unfolding sum_below
sum_more zero f g site l more same = absurd (omega arith)
sum_more (suc n) f g site l more same = elim (cases_lt site n) [
  | inl m ↦ let rest = sum_more n f g site m more same in
      let last = same n (λ e. absurd (omega (arith, e, m))) in omega (arith, rest, last)
  | inr m ↦ let here : site ≡ n = omega arith in
      let rest = sum_kept n f g (λ i less. same i (λ e. absurd (omega (arith, e, here, less)))) in
      let last : g n ≡ suc (f n) = subst (λ x. g x ≡ suc (f x)) here more in
      omega (arith, rest, last)
]

module _ (site queue : ℕ) (calls : Calls) (k : Knowledge) where
  -- the next count of these calls
  abbrev counted : Operation
  counted = Count site queue calls (suc (site_total k site queue calls))

  count_one : site_total (counted ∷ k) site queue calls ≡ suc (site_total k site queue calls)
  count_one =
      let total = site_total k site queue calls in
      (λ i. max (if (Decides-eqb site site).1 refl i && ((Decides-eqb queue queue).1 refl i && same_kind calls i) then suc total else 0) total) ∙ one_counted total

  count_others : (s q : ℕ) (c : Calls) → (s ≢ site) ⊎ (q ≢ queue) ⊎ (c ≢ calls) → site_total (counted ∷ k) s q c ≡ site_total k s q c
  count_others s q c other = by (site == s && (queue == q && same_calls calls c)) refl
    where
      not_it : (s ≢ site) ⊎ (q ≢ queue) ⊎ (c ≢ calls) → site ≡ s → queue ≡ q → calls ≡ c → ⊥
      not_it (inl p) a b d = p (sym a)
      not_it (inr (inl p)) a b d = p (sym b)
      not_it (inr (inr p)) a b d = p (sym d)

      by : (b : Bool) → (site == s && (queue == q && same_calls calls c)) ≡ b
          → max (if b then suc (site_total k site queue calls) else 0) (site_total k s q c) ≡ site_total k s q c
      by false e = none_counted (site_total k s q c)
      by true e =
          let first = and_parts (site == s) (queue == q && same_calls calls c) e in
          let rest = and_parts (queue == q) (same_calls calls c) first.1 in
          absurd (not_it other ((Decides-eqb site s).0 first.0) ((Decides-eqb queue q).0 rest.0) (one_kind calls c rest.1))

  -- the queue's total of these calls
  count_queue : site < SITES → queue_total (counted ∷ k) queue calls ≡ suc (queue_total k queue calls)
  count_queue l =
      sum_more SITES (λ s. site_total k s queue calls) (λ s. site_total (counted ∷ k) s queue calls) site l count_one (λ s e. count_others s queue calls (inl e))

  count_rows : (member : Member) → row_in (counted ∷ k) member ≡ row_in k member
  count_rows member =
      row_passed counted k member (λ q h. absurd (true≢false (sym h))) (λ q h. absurd (true≢false (sym h))) (λ q own. set.contains-empty dot_cmp q)

-- what is shown of a call that is counted
pub count_shown : (site : ℕ) (names : List (List ℕ)) (queue : List ℕ) (calls : Calls) (k : Knowledge) (buffer : SiteView) (o : Operation)
    → meaning site names (site_view site k) buffer (CountCall queue calls) ≡ Makes o → ShowsCount site names k (o ∷ k) queue calls
count_shown site names queue calls k buffer o h =
    let r = site_view site k in
    let q = in_queue_made (number_of names queue) _ o h in
    let m = made r buffer (count_at site r q.0 calls) o q.2 in
    subst (λ x. ShowsCount site names k (x ∷ k) queue calls) m.same (record {
      number = q.0;
      in_list = q.1;
      site_total_is = count_one site q.0 calls k;
      queue_total_is = count_queue site q.0 calls k;
      other_totals = count_others site q.0 calls k;
      rows = count_rows site q.0 calls k;
    })
