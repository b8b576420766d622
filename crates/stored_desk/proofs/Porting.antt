-- What a call of a desk with a store that fails has done by its pass.
use Rattle.std.proofs.Common.{◌≡◌, ◌≢◌, ◌+◌, ◌<◌, ap, arith, inl, inr}
use Rattle.replica.specs.Site.{SiteState}
use Rattle.site_journal.specs.declared.desk_fault.DeskFault.{DeskFault}
use Rattle.site_desk.specs.Passes.{PassState}
use Rattle.stored_desk.specs.Failing.{FailsUnsaved}

-- the pass has the same number
pub fails_ordinal : (base : SiteState) (old new : PassState) (fault : DeskFault) → FailsUnsaved base old fault new → new.ordinal ≡ old.ordinal
fails_ordinal base old new fault (inl same) = ap (λ (p : PassState). p.ordinal) same
fails_ordinal base old new fault (inr done) = ap (λ (p : PassState). p.ordinal) done.1.done.counted

-- where it has seen no more, it has counted nothing
pub fails_same : (base : SiteState) (old new : PassState) (fault : DeskFault) → FailsUnsaved base old fault new → new.seen ≡ old.seen → new.share ≡ old.share
fails_same base old new fault (inl same) seen = ap (λ (p : PassState). p.share) same
fails_same base old new fault (inr done) seen = absurd (omega (arith, done.1.done.position, ap (λ (p : PassState). p.seen) done.1.done.counted, seen))

-- and else one step
pub fails_more : (base : SiteState) (old new : PassState) (fault : DeskFault) → FailsUnsaved base old fault new → new.seen ≢ old.seen → (new.share ≡ old.share + 1) × (old.seen < new.seen)
fails_more base old new fault (inl same) seen = absurd (seen (ap (λ (p : PassState). p.seen) same))
fails_more base old new fault (inr done) seen = (ap (λ (p : PassState). p.share) done.1.done.counted, omega (arith, done.1.done.position, ap (λ (p : PassState). p.seen) done.1.done.counted))
