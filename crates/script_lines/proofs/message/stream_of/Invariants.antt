use Rattle.std.proofs.Common.{◌≡◌, ◌≤◌, ◌++◌, length}
use Rattle.script_lines.specs.ScriptLines.{stream_of}
use Rattle.script_lines.proofs.message.stream_of.Given as goal

-- what is written, with the stream of what is left, is the fields' stream
abbrev pub invariant-lines : goal.invariant-lines
invariant-lines l = record {
  within : length l.rest ≤ length l.fields;
  whole : l.stream.items ++ stream_of l.rest ≡ stream_of l.fields;
}

abbrev pub decreases-lines : goal.decreases-lines
decreases-lines l = length l.rest
