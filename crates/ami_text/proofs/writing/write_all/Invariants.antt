use Rattle.std.proofs.Common.{◌≡◌, ◌++◌, ℕ, List, false, length}
use Rattle.std.specs.Io.KnownBytes.{Appends}
use Rattle.ami_text.proofs.writing.write_all.Given as goal

-- the writer works, and has taken the prefix of the bytes; the rest is left
abbrev pub invariant-loop-rest : goal.invariant-loop-rest
invariant-loop-rest g l = record {
  works : g.W.Sink.failed l.writer ≡ false;
  so_far : (front : List ℕ) × (l.bytes ≡ front ++ l.rest) × Appends (g.W.Sink.taken l.fn.writer) (g.W.Sink.taken l.writer) front;
}

abbrev pub decreases-loop-rest : goal.decreases-loop-rest
decreases-loop-rest g l = length l.rest
