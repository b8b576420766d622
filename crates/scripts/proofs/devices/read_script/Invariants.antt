use Rattle.std.proofs.Common.{◌≡◌, ◌≤◌, ◌<◌, ◌+◌, false, vec_len}
use Rattle.std.specs.Io.KnownBytes.{Consumes}
use Rattle.scripts.proofs.devices.read_script.Given as goal

-- the reader works, no read has returned its end, it was read once a round, and it has given what is held, a byte or more at each
-- read
abbrev pub invariant-loop : goal.invariant-loop
invariant-loop g l = record {
  works : g.S.Source.failed l.reader ≡ false;
  whole : Consumes (g.S.Source.left l.fn.reader) (g.S.Source.left l.reader) l.script.items;
  limit : vec_len l.script ≤ 16777216;
  many : l.counter ≤ vec_len l.script;
  counted : g.S.Source.reads_left l.fn.reader ≤ g.S.Source.reads_left l.reader + l.counter;
  goes_on : 0 < l.counter → g.S.Source.ended l.reader ≡ false;
}
