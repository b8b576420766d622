-- Entries and fields as contracts see them, without where they are in memory.
use Rattle.std.specs.Prelude.{List, Option, Some, None}
use Rattle.std.specs.List.{filter_map}
use Rattle.dots.specs.Values.{Dot}
use Rattle.operations.specs.Conditions.{DotFields}
use Rattle.operations.specs.Knowledge.{Knowledge, field_of, latest_of}
use Rattle.operations.specs.Operations.{Operation, penalty_field, pause_field, label_field, ring_field}
use Rattle.operations.specs.Registers.{Entry}
use Rattle.reference_model.specs.declared.entry.Entry.{Entry as Held}
use Rattle.reference_model.specs.declared.fields.Fields.{Fields}

-- the entry of the definitions that a plain entry stands for, with what `see` sees of its value
abbrev pub entry_of : {A B : Type 0} → (A → B) → Option (Held A) → Option (Entry B)
entry_of see None = None
entry_of see (Some entry) = Some (record { stamp = entry.stamp; value = see entry.value })

-- the fields of the definitions that plain fields stand for
abbrev pub fields_of : Fields → DotFields
fields_of fields = record {
  penalty = entry_of (λ n. n) fields.penalty;
  pause = entry_of (λ p. p.now) fields.pause;
  label = entry_of (λ l. l.now) fields.label;
  ring = entry_of (λ b. b) fields.ring;
}

-- what operation `o` sets of each field
abbrev pub fields_set : Operation → DotFields
fields_set o = record { penalty = penalty_field o; pause = pause_field o; label = label_field o; ring = ring_field o }

-- the fields of `dots` together in knowledge `k`: of each the entry of the greatest stamp, for equal stamps that of
-- the first dot
abbrev pub fields_over : Knowledge → List Dot → DotFields
fields_over k dots = record {
  penalty = latest_of (filter_map (field_of penalty_field k) dots);
  pause = latest_of (filter_map (field_of pause_field k) dots);
  label = latest_of (filter_map (field_of label_field k) dots);
  ring = latest_of (filter_map (field_of ring_field k) dots);
}
