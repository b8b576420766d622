-- How many steps a journal may hold (this project's own).
use Rattle.std.specs.Prelude.{ℕ, ◌≤◌}
use Rattle.site_journal.specs.declared.journaled.TheConstants.{MOST_STEPS}

-- a journal can be made that holds at most `limit` steps
pub record IsStepLimit (limit : ℕ) : Type 0 where
  pub some : 1 ≤ limit
  pub most : limit ≤ MOST_STEPS
