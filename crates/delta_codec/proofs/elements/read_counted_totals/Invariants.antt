use Rattle.std.proofs.Common.{◌≡◌, ◌-◌, None}
use Rattle.std.specs.Prelude.{fold}
use Rattle.delta_codec.specs.Reading.{elements_at, made, total_elements, totals_of, with_total}
use Rattle.delta_codec.proofs.elements.read_counted_totals.Given as goal

-- what is kept, with what is still read
abbrev pub invariant-loop : goal.invariant-loop
invariant-loop l = made (fold with_total l.totals.entries) (elements_at total_elements (l.count - l.counter) l.last l.reader) ≡ made totals_of (elements_at total_elements l.count None l.fn.reader)
