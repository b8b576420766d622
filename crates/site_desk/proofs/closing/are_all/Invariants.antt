use Rattle.std.specs.List.{Any}
use Rattle.std.specs.Prelude.{ℕ, ◌≡◌, ◌<◌}
use Rattle.site_desk.specs.Passes.{PassState}
use Rattle.site_desk.proofs.closing.are_all.Given as goal

-- no number so far is missing
abbrev pub invariant-loop-ordinal : goal.invariant-loop-ordinal
invariant-loop-ordinal g l = (k : ℕ) → k < l.ordinal → Any (λ (pass : PassState). pass.ordinal ≡ k) l.passes
