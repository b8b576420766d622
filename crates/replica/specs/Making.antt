-- The result of a change that a site makes.
use Rattle.std.specs.Prelude.{ℕ, ◌≡◌, Result, OnOk, OnErr}
use Rattle.delta.specs.DeltaStates.{DeltaState}
use Rattle.replica.specs.declared.refusal.Refusal.{Refusal}
use Rattle.replica.specs.Fitting.{BothTakeIn}
use Rattle.replica.specs.Site.{SiteState}

-- a site has these last numbers
pub record HasNumbers (s : SiteState) (count time : ℕ) : Type 0 where
  pub last_count : s.last_count ≡ count
  pub last_time : s.last_time ≡ time

-- State and buffer both take the change, or neither does; in the first case the last numbers are those of the change, else they
-- stay.
pub record IsMade (old : SiteState) (change : DeltaState) (count time : ℕ) (new : SiteState) (result : Result (Unit {0}) Refusal) : Type 0 where
  pub site : new.site ≡ old.site
  pub names : new.names ≡ old.names
  pub taken : BothTakeIn old.state old.pending change new.state new.pending result
  pub numbers : OnOk result (HasNumbers new count time)
  pub stay : OnErr result (HasNumbers new old.last_count old.last_time)
  pub frames : new.frames ≡ old.frames
