-- The fields that an operation sets on the dots that it asserts.
use Rattle.std.specs.Prelude.{ℕ, Some, None}
use Rattle.dots.specs.declared.label.Label.{Label}
use Rattle.dots.specs.Values.{PauseState, Stamp}
use Rattle.operations.specs.Conditions.{DotFields}
use Rattle.operations.specs.Operations.{Setting, entry_under, set_penalty, set_pause, set_label, set_ring}

-- the fields of an add: all but ring are set
abbrev pub fields_added : Stamp → ℕ → PauseState → Label → DotFields
fields_added stamp penalty pause label = record {
  penalty = entry_under stamp (Some penalty);
  pause = entry_under stamp (Some pause);
  label = entry_under stamp (Some label);
  ring = None;
}

-- the fields of a write: one of them is set
abbrev pub fields_written : Stamp → Setting → DotFields
fields_written stamp setting = record {
  penalty = entry_under stamp (set_penalty setting);
  pause = entry_under stamp (set_pause setting);
  label = entry_under stamp (set_label setting);
  ring = entry_under stamp (set_ring setting);
}
