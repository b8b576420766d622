-- The tasks of a site's threads, and their results.
use Rattle.std.specs.Prelude.{ℕ, ◌≡◌, ◌+◌, List, ◌∷◌, None, Some, length, map, slice_get}
use Rattle.replica.specs.Deeds.{IsNew}
use Rattle.site_links.specs.declared.linking.LinkEnds.{LinkEnds}
use Rattle.site_threads.specs.declared.site_tasks.SiteOutput.{SiteOutput}
use Rattle.site_threads.specs.declared.site_tasks.SiteTasks.{SiteTasks}
use Rattle.site_worker.specs.declared.tasks.WorkTask.{WorkTask}
use Rattle.site_worker.specs.declared.tasks.WorkTask.TheVariants.{Ask, Send, Take}
use Rattle.site_worker.specs.declared.tasks.WorkOutput.{WorkOutput}
use Rattle.status_report.specs.declared.asks.Ask.{Ask as Asked}
use Rattle.site_worker.specs.declared.work.SiteEnd.{SiteEnd}
use Rattle.site_worker.specs.declared.work.SiteWork.{SiteWork}
use Rattle.site_worker.specs.Gates.{IsGated}
use Rattle.site_worker.specs.Runs.{first_fault}
use Rattle.site_worker.specs.Working.{AnswerFront, HaveSent, HaveTaken}

-- the task that asks has answers, of all asks unless it has a fault, and returns its gate, called for each
pub record HasAsked {G : Type 0} (Called : G → ℕ → G → Type 0) (site : ℕ) (names : List (List ℕ)) (asks : List Asked) (gate : G) (output : WorkOutput G) : Type 0 where
  pub front : AnswerFront site names asks output.receipts.items
  pub all : output.fault ≡ None → length output.receipts.items ≡ length asks
  pub gate_after : G
  pub gate_is : output.gate ≡ Some gate_after
  pub gated : IsGated Called gate (length output.receipts.items) output.fault gate_after

-- a task has given this output
abbrev pub DoesTask : {G : Type 0} → (G → ℕ → G → Type 0) → ℕ → List (List ℕ) → WorkTask G → WorkOutput G → Type 0
DoesTask Called site names (Ask asks gate) output = HasAsked Called site names asks.items gate output
DoesTask Called site names (Send links plan) output = HaveSent output.receipts.items output.fault
DoesTask Called site names (Take link) output = HaveTaken output.receipts.items

-- the tasks of a site with this work and these ends of links
abbrev pub tasks_for : {G : Type 0} → SiteWork G → LinkEnds → List (WorkTask G)
tasks_for work links = Ask work.asks work.gate ∷ Send links.to work.plan ∷ map Take links.from.items

-- `tasks` are those of `work`, at one of `sites` sites
pub record IsTasksOf {G : Type 0} (sites : ℕ) (work : SiteWork G) (tasks : List (WorkTask G)) : Type 0 where
  pub links : LinkEnds
  pub others : length links.from.items + 1 ≡ sites
  pub tasks_are : tasks ≡ tasks_for work links

-- `given` is the input of the site of the number `site`, one of `sites`: a new replica with the queues `names`, and the tasks of
-- `work`
pub record IsLaunchOf {S G : Type 0} (sites : ℕ) (names : List (List ℕ)) (site : ℕ) (work : SiteWork G) (given : SiteTasks S (WorkTask G)) : Type 0 where
  pub number : given.replica.site ≡ site
  pub names_are : given.replica.names ≡ names
  pub new : IsNew given.replica
  pub tasks : IsTasksOf sites work given.tasks.items

-- each site is launched with the work of its place, and the queues `names`
pub record HaveTasks {S G : Type 0} (names : List (List ℕ)) (works : List (SiteWork G)) (all : List (SiteTasks S (WorkTask G))) : Type 0 where
  pub number : length all ≡ length works
  pub each : (site : ℕ) (work : SiteWork G) (given : SiteTasks S (WorkTask G)) → slice_get works site ≡ Some work → slice_get all site ≡ Some given → IsLaunchOf (length works) names site work given

-- the output of the first task has a gate
abbrev pub FirstHasGate : {G : Type 0} → List (WorkOutput G) → Type 0
FirstHasGate {G} outputs = (output : WorkOutput G) × (gate : G) × (slice_get outputs 0 ≡ Some output) × (output.gate ≡ Some gate)

-- a site's end has the results of its tasks
pub record IsRunOf {G : Type 0} (end : SiteOutput (WorkOutput G)) (run : SiteEnd G) : Type 0 where
  pub journal_is : run.journal ≡ end.journal
  pub lists : map (λ list. list.items) run.receipts.items ≡ map (λ (output : WorkOutput G). output.receipts.items) end.outputs.items
  pub fault_is : run.fault ≡ first_fault (map (λ (output : WorkOutput G). output.fault) end.outputs.items)
  pub gate_is : (output : WorkOutput G) (gate : G) → slice_get end.outputs.items 0 ≡ Some output → output.gate ≡ Some gate → run.gate ≡ gate

-- the ends of sites have the results of their tasks
pub record AreRunsOf {G : Type 0} (ends : List (SiteOutput (WorkOutput G))) (runs : List (SiteEnd G)) : Type 0 where
  pub number : length runs ≡ length ends
  pub each : (site : ℕ) (end : SiteOutput (WorkOutput G)) (run : SiteEnd G) → slice_get ends site ≡ Some end → slice_get runs site ≡ Some run → IsRunOf end run
