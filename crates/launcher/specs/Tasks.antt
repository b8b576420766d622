-- What the tasks of a site have done (this project's own).
use Rattle.std.specs.Prelude.{ℕ, ◌≡◌, List, Some, length, slice_get}

-- the first of `tasks`, one for each of `passes`, gave `outputs`: the task at each place led the pass at
-- that place from that of `old` to that of `passes`
pub record HaveDone {T P O : Type 0} (Does : T → P → O → P → Type 0) (tasks : List T) (old passes : List P) (outputs : List O) : Type 0 where
  pub number : length outputs ≡ length passes
  pub each : (place : ℕ) (task : T) (before after : P) (output : O)
      → slice_get tasks place ≡ Some task → slice_get old place ≡ Some before → slice_get passes place ≡ Some after → slice_get outputs place ≡ Some output
      → Does task before output after

-- all of `tasks` gave `outputs`, each by the pass of its place
pub record AreAllDone {T P O : Type 0} (Does : T → P → O → P → Type 0) (tasks : List T) (old passes : List P) (outputs : List O) : Type 0 where
  pub all : length passes ≡ length tasks
  pub done : HaveDone Does tasks old passes outputs
