-- The traces that operations leave in deltas that stand for them.
use Rattle.std.specs.Prelude.{⊤, ◌≢◌, ◌≤◌, [], Contains}
use Rattle.std.specs.FinSet as set
use Rattle.operations.specs.Operations.{Operation, Add, Write, Remove, Count}
use Rattle.operations.specs.Knowledge.{Knowledge}

-- an operation leaves a trace in a delta that stands for it: an add always, a write that asserts a
-- dot, a remove that names one, and a count whose total is at least 1
abbrev pub LeavesTrace : Operation → Type 0
LeavesTrace (Add dot member stamp penalty pause label older) = ⊤
LeavesTrace (Write dots setting stamp older) = dots ≢ []
LeavesTrace (Remove dots) = dots ≢ set.empty
LeavesTrace (Count site queue calls total) = 1 ≤ total

-- each operation of knowledge `k` leaves a trace in a delta that stands for it
abbrev pub LeaveTraces : Knowledge → Type 0
LeaveTraces k = (o : Operation) → Contains k o → LeavesTrace o
