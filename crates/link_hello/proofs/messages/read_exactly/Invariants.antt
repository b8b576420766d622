use Rattle.std.proofs.Common.{◌≡◌, ◌≤◌, ◌+◌, false, length, take}
use Rattle.std.specs.Io.KnownBytes.{Consumes}
use Rattle.link_hello.proofs.messages.read_exactly.Given as goal

-- the source works, each read gave a byte at least, the first bytes of the piece came of it, and it was read once a round
abbrev pub invariant-reads : goal.invariant-reads
invariant-reads g l =
    (g.S.Source.failed l.source ≡ false) × (l.count ≤ length l.piece) × (l.counter ≤ l.count)
    × Consumes (g.S.Source.left l.fn.source) (g.S.Source.left l.source) (take l.count l.piece)
    × (g.S.Source.reads_left l.fn.source ≤ g.S.Source.reads_left l.source + l.counter)
