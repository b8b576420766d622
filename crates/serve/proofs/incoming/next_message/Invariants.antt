use Rattle.std.proofs.Common.{◌≤◌, ◌+◌, []}
use Rattle.ami_text.specs.Stream.{Gives}
use Rattle.serve.specs.Steps.{HasCome, IsWanted, MayRead, bytes_ahead}
use Rattle.serve.proofs.incoming.next_message.Given as goal

-- the stream may be read on, nothing that came was a message or a piece that wasn't wanted, and no more is ahead than was
abbrev pub invariant-pieces : goal.invariant-pieces
invariant-pieces g l = record {
  reading : MayRead (g.S.Source.failed l.reader) (g.S.Source.ended l.reader) l.incoming;
  counted : g.S.Source.reads_left l.fn.reader + l.incoming.reads ≤ g.S.Source.reads_left l.reader + l.fn.incoming.reads;
  come : HasCome (g.S.Source.left l.fn.reader) (g.S.Source.left l.reader) l.fn.incoming.feed.held l.fn.incoming.reads l.incoming.reads (λ stream. Gives stream [] l.incoming.feed.held × IsWanted l.fn.incoming.feed.held stream);
  ahead : bytes_ahead l.incoming.reads l.incoming.feed.held ≤ bytes_ahead l.fn.incoming.reads l.fn.incoming.feed.held;
}

abbrev pub decreases-pieces : goal.decreases-pieces
decreases-pieces g l = l.incoming.reads
