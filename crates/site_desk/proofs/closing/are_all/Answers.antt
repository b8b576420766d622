use Rattle.std.proofs.Common.{rules, ◌≡◌, ⊎_elim, arith, subst, sym}
use Rattle.std.proofs.lemmas.Bool.{cases_lt}
use Rattle.std.specs.List.{Any}
use Rattle.site_desk.specs.Passes.{PassState}
use Rattle.site_desk.proofs.closing.are_all.Goals as goal

pub loop-ordinal-preserved : goal.loop-ordinal-preserved
loop-ordinal-preserved g c = λ k low. ⊎_elim (λ below. c.loop-ordinal.invariant k below)
    (λ high. let here : k ≡ c.loop-ordinal.ordinal = omega (arith, low, high) in
    subst (λ j. Any (λ (pass : PassState). pass.ordinal ≡ j) c.args.passes.now) (sym here) (c.has_ordinal.ensures.0 (search rules))) (cases_lt k c.loop-ordinal.ordinal)
