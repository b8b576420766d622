-- What the tasks of a site have given (this project's own).
use Rattle.std.specs.Prelude.{ℕ, ◌≡◌, List, Some, length, slice_get}
use Rattle.site_desk.specs.Passes.{PassState, new_pass}

-- the first of `tasks`, one for each of `passes`, gave `outputs`: the task at each place by the pass
-- of that number, which had done no step before
pub record HaveGiven {T O : Type 0} (Gives : T → ℕ → List (List ℕ) → PassState → O → PassState → Type 0) (site : ℕ) (names : List (List ℕ)) (tasks : List T) (passes : List PassState) (outputs : List O) : Type 0 where
  pub number : length outputs ≡ length passes
  pub order : (place : ℕ) (pass : PassState) → slice_get passes place ≡ Some pass → pass.ordinal ≡ place
  pub each : (place : ℕ) (task : T) (pass : PassState) (output : O) → slice_get tasks place ≡ Some task → slice_get passes place ≡ Some pass → slice_get outputs place ≡ Some output
      → Gives task site names (new_pass place) output pass

-- all of `tasks` gave `outputs`, each by the pass of its place
pub record AreDone {T O : Type 0} (Gives : T → ℕ → List (List ℕ) → PassState → O → PassState → Type 0) (site : ℕ) (names : List (List ℕ)) (tasks : List T) (passes : List PassState) (outputs : List O) : Type 0 where
  pub all : length passes ≡ length tasks
  pub given : HaveGiven Gives site names tasks passes outputs

-- what a place says by `Does` of a task, the task gives by `Gives`, and its pass keeps its number
abbrev pub DoesTasks : {T O : Type 0} → (T → PassState → O → PassState → Type 0) → (T → ℕ → List (List ℕ) → PassState → O → PassState → Type 0) → ℕ → List (List ℕ) → Type 0
DoesTasks {T} {O} Does Gives site names = (task : T) (old : PassState) (output : O) (new : PassState) → Does task old output new → (new.ordinal ≡ old.ordinal) × Gives task site names old output new
