-- The operation of the definitions that a plain value stands for: its lists of dots are sets.
use Rattle.std.specs.Prelude.{List, map as each}
use Rattle.std.specs.FinSet as set
use Rattle.operations.specs.Knowledge.{Knowledge}
use Rattle.operations.specs.Operations as defined
use Rattle.reference_model.specs.declared.setting.Setting.{Setting}
use Rattle.reference_model.specs.declared.setting.Setting.TheVariants.{Penalty, Pause, Label, Ring}
use Rattle.reference_model.specs.declared.operation.Operation.{Operation}
use Rattle.reference_model.specs.declared.operation.Operation.TheVariants.{Add, Write, Remove, Count}

-- the setting of the definitions that a plain setting stands for
abbrev pub setting_of : Setting → defined.Setting
setting_of (Penalty penalty) = defined.SetPenalty penalty
setting_of (Pause pause) = defined.SetPause pause
setting_of (Label label) = defined.SetLabel label
setting_of (Ring ring) = defined.SetRing ring

-- the operation of the definitions that a plain operation stands for
abbrev pub operation_of : Operation → defined.Operation
operation_of (Add dot member stamp penalty pause label older) = defined.Add dot member stamp penalty pause label (set.from_list older.items)
operation_of (Write dots setting stamp older) = defined.Write dots.items (setting_of setting) stamp (set.from_list older.items)
operation_of (Remove dots) = defined.Remove (set.from_list dots.items)
operation_of (Count site queue calls total) = defined.Count site queue calls total

-- the knowledge of the definitions that a list of plain operations stands for
abbrev pub knowledge_of : List Operation → Knowledge
knowledge_of operations = each operation_of operations
