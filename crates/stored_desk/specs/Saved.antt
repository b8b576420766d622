-- What contracts see of a store under the lock of commits (this project's own).
use Rattle.std.specs.Prelude.{ℕ, Bool, List, ◌++◌}
use Rattle.replica.specs.Site.{SiteState}
use Rattle.site_journal.specs.declared.step.Step.{Step}
use Rattle.stored_desk.specs.Recorded.{IsLegalHistory}

-- what is seen of a vault: its store, the steps that were saved, from the first on, and whether a commit has failed
pub record VaultState (S : Type 0) : Type 0 where
  pub store : S
  pub list : List Step
  pub broken : Bool

-- what is seen of a store once its desk is closed, and of the steps that were saved
pub record SavedState (S : Type 0) : Type 0 where
  pub store : S
  pub list : List Step

-- a crash leaves a store that has just these steps, or these and all of `more`, which a site that began in state `base` can do after them
pub record KeepsSaved {S : Type 0} (Keeps : S → List Step → List Step → Type 0) (base : SiteState) (store : S) (list : List Step) : Type 0 where
  pub more : List Step
  pub keeps : Keeps store list more
  pub legal : IsLegalHistory base (list ++ more)

-- what is seen of a shelf: how many steps it shows as saved, and whether the vault stands on it
pub record ShelfState : Type 0 where
  pub saved : ℕ
  pub has_vault : Bool
