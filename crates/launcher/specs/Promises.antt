-- What the threads of sites promise.
use Rattle.std.specs.Prelude.{ℕ, ◌≡◌, ◌+◌, List, Some, length, slice_get}
use Rattle.launcher.specs.declared.sites.EndPromise.{EndPromise}
use Rattle.launcher.specs.declared.tasks.TaskPromise.{TaskPromise}

-- a thread promises the task at this place, by the pass at that place
pub record IsTaskPromised {S R T P O W : Type 0} (tasks : List T) (passes : List P) (place : ℕ) (promise : TaskPromise S R T P O W) : Type 0 where
  pub task_is : slice_get tasks place ≡ Some promise.task.value
  pub pass_is : slice_get passes place ≡ Some promise.pass.value

-- the thread at place `k` promises its task, where the threads stand from the last task down
abbrev pub IsTaskPromisedAt : {S R T P O W : Type 0} → List T → List P → ℕ → TaskPromise S R T P O W → Type 0
IsTaskPromisedAt tasks passes k promise = (place : ℕ) → place + k + 1 ≡ length tasks → IsTaskPromised tasks passes place promise

-- a thread promises the end of what was launched at this place, with this limit of its journal
pub record IsEndPromised {X : Type 0} (limit : ℕ) (sites : List X) (place : ℕ) (promise : EndPromise X) : Type 0 where
  pub limit_is : promise.limit ≡ limit
  pub site_is : slice_get sites place ≡ Some promise.site.value

-- the thread at place `k` promises the end of its site, where the threads stand from the last site down
abbrev pub IsEndPromisedAt : {X : Type 0} → ℕ → List X → ℕ → EndPromise X → Type 0
IsEndPromisedAt limit sites k promise = (place : ℕ) → place + k + 1 ≡ length sites → IsEndPromised limit sites place promise
