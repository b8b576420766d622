-- What the threads of a linked site do (this project's own).
use Rattle.std.specs.Prelude.{ℕ, zero, suc, ◌+◌, Bool, List, [], ◌∷◌, ◌++◌, if◌then◌else◌, replicate}
use Rattle.linked_site.specs.declared.tasks.LinkedTask.{LinkedTask}
use Rattle.linked_site.specs.declared.tasks.LinkedTask.TheVariants.{Answer, Dial, Hear, Save, Spread}

-- one more than places answer clients, and one makes frames
abbrev pub serving_tasks : ℕ → List LinkedTask
serving_tasks places = replicate (places + 1) Answer ++ Spread ∷ []

-- each of these peers is dialed
abbrev pub dialing_tasks : ℕ → List LinkedTask
dialing_tasks zero = []
dialing_tasks (suc place) = dialing_tasks place ++ Dial place ∷ []

-- four more than peers accept links
abbrev pub linking_tasks : ℕ → List LinkedTask
linking_tasks peers = dialing_tasks peers ++ replicate (peers + 4) Hear

-- the tasks of a site; with a store one saves
abbrev pub tasks_for : ℕ → ℕ → Bool → List LinkedTask
tasks_for places peers saves = serving_tasks places ++ linking_tasks peers ++ (if saves then Save ∷ [] else [])
