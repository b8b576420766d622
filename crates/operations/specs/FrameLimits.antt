-- Which knowledges fit in a frame.
use Rattle.std.specs.Prelude.{◌≤◌}
use Rattle.std.specs.FinSet as set
use Rattle.dots.specs.declared.limits.TheConstants.{MOST_LIVE, MOST_RUNS}
use Rattle.dots.specs.DotSets.{run_count}
use Rattle.operations.specs.Knowledge.{Knowledge, known_dots, visible_dots}
use Rattle.operations.specs.OperationLimits.{AreWithinLimits}

-- a knowledge is small enough for a frame: it has no more visible dots, and no more runs of known ones, than a frame may have
pub record IsSmallEnough (k : Knowledge) : Type 0 where
  pub cells : set.len (visible_dots k) ≤ MOST_LIVE
  pub runs : run_count (known_dots k) ≤ MOST_RUNS

-- knowledge `k` fits in a frame: it is small enough for one, and its operations are within their limits
pub record FitsInFrame (k : Knowledge) : Type 0 where
  pub small : IsSmallEnough k
  pub within : AreWithinLimits k
