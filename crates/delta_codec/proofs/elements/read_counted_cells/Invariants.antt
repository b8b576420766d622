use Rattle.std.proofs.Common.{◌≡◌, ◌≤◌, ◌-◌, None}
use Rattle.std.specs.Prelude.{fold}
use Rattle.std.specs.FinMap as map
use Rattle.std.specs.FinSet as set
use Rattle.delta_codec.specs.Elements.{IsBehind}
use Rattle.delta_codec.specs.Reading.{cell_elements, elements_at, live_of, made, with_cell}
use Rattle.delta_codec.proofs.elements.read_counted_cells.Given as goal

-- what is live, with what is still read; a dot that may stand next lies behind all that are live
abbrev pub invariant-loop : goal.invariant-loop
invariant-loop l = record {
  cells : made (fold with_cell l.builder.live) (elements_at (cell_elements l.version (set.contains l.fn.builder.known)) (l.count - l.counter) l.last l.reader) ≡ made live_of (elements_at (cell_elements l.version (set.contains l.fn.builder.known)) l.count None l.fn.reader);
  known : l.builder.known ≡ l.fn.builder.known;
  behind : IsBehind l.last l.builder.live;
  few : map.len l.builder.live ≤ l.counter;
}
