-- What a database holds of a site's steps, and what a crash leaves of them.
use Rattle.std.specs.Prelude.{ℕ, ◌≡◌, ◌⊎◌, ◌+◌, ◌++◌, List, length, refl}
use Rattle.std.specs.Coded.{Coded, code_by, coded×, coded_ℕ}
use Rattle.sqlite.specs.Order.{Row}
use Rattle.sqlite.specs.State.{HasCleanDisk, State}
use Rattle.sqlite.specs.Tree.{Trees}
use Rattle.replica.specs.Site.{SiteState}
use Rattle.site_journal.specs.declared.step.Step.{Step}
use Rattle.stored_steps.specs.Bases.{IsRowOfBase}
use Rattle.stored_steps.specs.Stored.{Stored}
use Rattle.site_store.specs.Steps.{Holds, LeavesOnly, Lists}
use Rattle.step_database.specs.declared.ready_base.ReadyBase.{ReadyBase}
use Rattle.step_database.specs.Standing.{StandForSteps, StoreOrigin, origin_code}

-- what contracts see of a store: its connection, of which site it is, and the position of the next row
pub record DatabaseState (C : Type 0) : Type 0 where
  pub conn : C
  pub origin : StoreOrigin
  pub next : ℕ

-- a store's state is stored as the tuple of its fields
abbrev pub database_code : {C : Type 0} → Coded C → Coded (DatabaseState C)
database_code {C} conn =
    code_by (C × (StoreOrigin × ℕ)) (coded× conn (coded× origin_code coded_ℕ)) (λ d. (d.conn, (d.origin, d.next))) (λ p. record { conn = p.0; origin = p.1.0; next = p.1.1 }) (λ _. refl)

-- a database holds rows that stand for just these steps, a crash leaves the same rows, and `next` is the position of the next
pub record Stores (s : State) (origin : StoreOrigin) (next : ℕ) (steps : List Step) : Type 0 where
  pub first : ℕ
  pub rows : List Stored
  pub next_is : next ≡ first + length rows
  pub holds : Holds s first rows
  pub leaves : LeavesOnly s first rows
  pub stand : StandForSteps origin rows steps

-- if the disk is clean, a database stores just these steps
abbrev pub StoresIfClean : State → StoreOrigin → ℕ → List Step → Type 0
StoresIfClean s origin next steps = HasCleanDisk s → Stores s origin next steps

-- the rows of a table stand for just these steps
pub record HasSteps (table : List Row) (origin : StoreOrigin) (steps : List Step) : Type 0 where
  pub first : ℕ
  pub rows : List Stored
  pub lists : Lists table first rows
  pub stand : StandForSteps origin rows steps

-- the rows of a table stand for just these steps, or for these and all of `more` behind them
abbrev pub HasStepsOrMore : List Row → StoreOrigin → List Step → List Step → Type 0
HasStepsOrMore table origin steps more = HasSteps table origin steps ⊎ HasSteps table origin (steps ++ more)

-- the rows of each outcome of a crash stand for just these steps, or for these and all of `more`
abbrev pub Keeps : State → StoreOrigin → List Step → List Step → Type 0
Keeps s origin steps more = (db : Trees) → s.may_leave db → HasStepsOrMore (db 0) origin steps more

-- if the disk is clean, each outcome of a crash has just these steps, or these and all of `more`
abbrev pub KeepsIfClean : State → StoreOrigin → List Step → List Step → Type 0
KeepsIfClean s origin steps more = HasCleanDisk s → Keeps s origin steps more

-- a base that is ready for a store is that of this site
abbrev pub IsBaseOf : ReadyBase → SiteState → Type 0
IsBaseOf base site = IsRowOfBase (record { replica = site; name = base.name; starts = base.starts }) base.row
