use Rattle.std.proofs.Common.{ap, ⊎_elim}
use Rattle.site_desk.specs.Passes.{PassState}
use Rattle.tests_of_stores.proofs.launches.asks_once.Goals as goal

-- the pass is as before, or has done a step
pub returns-in-Err : goal.returns-in-Err
returns-in-Err g c = ⊎_elim (λ same. ap (λ (p : PassState). p.ordinal) same) (λ more. ap (λ (p : PassState). p.ordinal) more.1.done.counted) c.in-Err.ensures.fails
