use Rattle.std.proofs.Common.{◌≡◌, ◌-◌, None}
use Rattle.std.specs.Prelude.{fold}
use Rattle.delta_codec.specs.Reading.{elements_at, known_of, made, run_elements, with_run}
use Rattle.delta_codec.proofs.ReadRuns.{AreRead}
use Rattle.delta_codec.proofs.elements.read_counted_runs.Given as goal

-- what is kept, with what is still read; and the runs that were read are those that are kept
abbrev pub invariant-loop : goal.invariant-loop
invariant-loop l = record {
  runs : made (fold with_run l.context.dots) (elements_at run_elements (l.count - l.counter) l.last l.reader) ≡ made known_of (elements_at run_elements l.count None l.fn.reader);
  kept : AreRead l.last l.context.dots l.counter;
}
