-- The row of a start.
use Rattle.std.specs.Prelude.{◌&&◌, Bool, [], length, nat_eq}
use Rattle.stored_steps.specs.declared.row_kind.RowKind.TheVariants.{Started}
use Rattle.stored_steps.specs.Kinds.{kind_number}
use Rattle.stored_steps.specs.Stored.{Stored}

-- the row of a start: it has no pass and no bytes
abbrev pub start_row : Stored
start_row = record { pass = 0; kind = kind_number Started; bytes = [] }

-- whether a row is that of a start
abbrev pub is_start : Stored → Bool
is_start row = nat_eq row.kind (kind_number Started) && (nat_eq row.pass 0 && nat_eq (length row.bytes) 0)
