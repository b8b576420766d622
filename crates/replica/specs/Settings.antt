-- The fields of a setting of a command.
use Rattle.operations.specs.Operations.{Setting, SetPause, SetPenalty, SetRing}
use Rattle.replica.specs.declared.setting.Setting.{Setting as SettingMade}
use Rattle.replica.specs.declared.setting.Setting.TheVariants.{Penalty, Pause, Ring}

-- the value of one field
abbrev pub setting_of : SettingMade → Setting
setting_of (Penalty penalty) = SetPenalty penalty
setting_of (Pause pause) = SetPause pause
setting_of (Ring ring) = SetRing ring
