-- One pass more of a new desk.
use Rattle.std.proofs.Common.{◌≡◌, ℕ, ◌+◌, List, [], ◌∷◌, ◌++◌, length, length-append, slice_index_or, sym, ap, subst, ◌∙◌, ⊎_elim, arith}
use Rattle.std.proofs.Math.ListN.{get_or-append}
use Rattle.std.proofs.Math.Seq.{get_or-append_seam}
use Rattle.std.proofs.lemmas.Bool.{cases_lt}
use Rattle.site_desk.specs.Passes.{AreNewPasses, PassState, new_pass}

pub new_none : (passes : List PassState) → passes ≡ [] → AreNewPasses 0 passes
new_none passes is = record { count = ap length is; each = λ k none low. absurd (omega (arith, low)) }

pub new_more : (n : ℕ) (passes all : List PassState) (pass : PassState) → all ≡ passes ++ pass ∷ [] → pass ≡ new_pass n → AreNewPasses n passes → AreNewPasses (n + 1) all
new_more n passes all pass is new was = subst (AreNewPasses (n + 1)) (sym is) (record {
  count = omega (arith, length-append passes (pass ∷ []), was.count);
  each = λ k none low. ⊎_elim (λ below. get_or-append passes (pass ∷ []) none k (omega (arith, was.count, below)) ∙ was.each k none below)
      (λ high. let here : k ≡ length passes = omega (arith, low, high, was.count) in
      subst (λ j. slice_index_or (passes ++ pass ∷ []) j none ≡ new_pass j) (sym here) (get_or-append_seam passes pass [] none ∙ new ∙ ap new_pass (sym was.count))) (cases_lt k n);
})
