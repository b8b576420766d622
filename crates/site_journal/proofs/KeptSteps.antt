-- How many bytes steps keep beside themselves, by sums that end at a greatest number.
use Rattle.std.proofs.Common.{◌≡◌, ℕ, ◌+◌, ◌<◌, ◌≤◌, List, [], ◌∷◌, ◌++◌, min, ⊎_elim, sym, ap, ap₂, ◌∙◌, arith}
use Rattle.std.proofs.Math.Nat.{min-eq_left, min-eq_right}
use Rattle.std.proofs.lemmas.Bool.{cases_lt}
use Rattle.std.proofs.lemmas.List.Sums.{sum_by_push}
use Rattle.site_journal.specs.Keeping.{kept_by, kept_by_steps}
use Rattle.site_journal.specs.declared.step.Step.{Step}

-- what is left of a sum is that of its parts
capped_sum : (a b most : ℕ) → min (min a most + min b most) most ≡ min (a + b) most
capped_sum a b most = ⊎_elim
    (λ (past : most < a). ap (λ x. min (x + min b most) most) (min-eq_right {n = most} {m = a} (omega arith))
    ∙ min-eq_right {n = most} {m = most + min b most} (omega arith) ∙ sym (min-eq_right {n = most} {m = a + b} (omega arith)))
    (λ (within : a ≤ most). ap (λ x. min (x + min b most) most) (min-eq_left within) ∙ second within)
    (cases_lt most a)
  where
    second : a ≤ most → min (a + min b most) most ≡ min (a + b) most
    second within = ⊎_elim
        (λ (past : most < b). ap (λ x. min (a + x) most) (min-eq_right {n = most} {m = b} (omega arith))
        ∙ min-eq_right {n = most} {m = a + most} (omega arith) ∙ sym (min-eq_right {n = most} {m = a + b} (omega arith)))
        (λ (below : b ≤ most). ap (λ x. min (a + x) most) (min-eq_left below))
        (cases_lt most b)

-- what steps keep with one more behind them
pub kept_more : (steps : List Step) (step : Step) (sum bytes most : ℕ) → sum ≡ min (kept_by_steps steps) most → bytes ≡ min (kept_by step.deed) most
    → min (sum + bytes) most ≡ min (kept_by_steps (steps ++ step ∷ [])) most
kept_more steps step sum bytes most before more =
    ap₂ (λ a b. min (a + b) most) before more ∙ capped_sum (kept_by_steps steps) (kept_by step.deed) most ∙ ap (λ n. min n most) (sym (sum_by_push (λ (s : Step). kept_by s.deed) steps step))
