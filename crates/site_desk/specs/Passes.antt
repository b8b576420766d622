-- What contracts see of passes, and of their steps.
use Rattle.std.specs.List.{Any}
use Rattle.std.specs.Prelude.{ℕ, ◌≡◌, ◌<◌, ◌≤◌, ◌+◌, ◌-◌, ⊤, List, length, sum_by, slice_index_or}
use Rattle.site_journal.specs.declared.desk_fault.DeskFault.{DeskFault}
use Rattle.site_journal.specs.declared.desk_fault.DeskFault.TheVariants.{Rewound}
use Rattle.site_journal.specs.declared.receipt.Receipt.{Receipt}
use Rattle.site_journal.specs.declared.step.Step.{Step}
use Rattle.site_journal.specs.declared.step.StepDeed.{StepDeed}
use Rattle.site_journal.specs.declared.step.StepDeed.TheVariants.{Asked}
use Rattle.status_report.specs.declared.asks.Answer.{Answer}
use Rattle.status_report.specs.declared.asks.Ask.{Ask}

-- what contracts see of a pass: its number, how many steps it has done, and the journal's length after
-- its last one
pub record PassState : Type 0 where
  pub ordinal : ℕ
  pub share : ℕ
  pub seen : ℕ

-- what contracts see of a desk: its number of passes
pub record DeskState : Type 0 where
  pub passes : ℕ

-- the pass of the number `ordinal` that has done nothing
abbrev pub new_pass : ℕ → PassState
new_pass ordinal = record { ordinal = ordinal; share = 0; seen = 0 }

-- `pass` after one step more, which stands at `position` in the journal
abbrev pub one_more : PassState → ℕ → PassState
one_more pass position = record { ordinal = pass.ordinal; share = pass.share + 1; seen = position + 1 }

-- from `old` to `new` a pass has done the step of `receipt`: the step stands not below what the
-- pass had seen, and the pass has counted it and seen one past it
pub record HasDone (old : PassState) (receipt : Receipt) (new : PassState) : Type 0 where
  pub pass : receipt.pass ≡ old.ordinal
  pub position : old.seen ≤ receipt.position
  pub counted : new ≡ one_more old receipt.position

-- the receipt of the last step that `pass` has done, whose deed is `deed`
abbrev pub last_receipt : PassState → StepDeed → Receipt
last_receipt pass deed = record { pass = pass.ordinal; position = pass.seen - 1; deed = deed }

-- the step of which `receipt` is the receipt
abbrev pub step_of : Receipt → Step
step_of receipt = record { pass = receipt.pass; deed = receipt.deed }

-- a receipt is of the ask `ask`, with its answer
abbrev pub IsOfAsk : Ask → Receipt → Type 0
IsOfAsk ask receipt = (answer : Answer) × (receipt.deed ≡ Asked ask answer)

-- a fault has a length of the journal that is less than `pass` has seen
abbrev pub IsRewound : PassState → DeskFault → Type 0
IsRewound pass (Rewound len) = len < pass.seen
IsRewound pass other = ⊥

-- a fault has no length of the journal, or one that is less than `pass` has seen
abbrev pub RewoundIsBelow : PassState → DeskFault → Type 0
RewoundIsBelow pass (Rewound len) = len < pass.seen
RewoundIsBelow pass other = ⊤

-- `passes` are those of a new desk: `number` of them, with the numbers 0, 1, .., none of which has
-- done anything
pub record AreNewPasses (number : ℕ) (passes : List PassState) : Type 0 where
  pub count : length passes ≡ number
  pub each : (k : ℕ) (none : PassState) → k < number → slice_index_or passes k none ≡ new_pass k

-- how many steps the passes of a list have done together
abbrev pub shares_of : List PassState → ℕ
shares_of = sum_by (λ (pass : PassState). pass.share)

-- `passes` are all passes of a desk that has `number` of them, each once: their count is right and
-- no number is missing, so none is doubled
pub record AreAll (number : ℕ) (passes : List PassState) : Type 0 where
  pub count : length passes ≡ number
  pub each : (ordinal : ℕ) → ordinal < number → Any (λ (pass : PassState). pass.ordinal ≡ ordinal) passes
