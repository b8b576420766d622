use Rattle.std.proofs.Common.{◌≡◌, ◌≤◌, ◌+◌, false}
use Rattle.serve.specs.Sessions.{HasCarried}
use Rattle.serve.specs.Steps.{MayRead, bytes_ahead}
use Rattle.serve.proofs.Serving.{Going}
use Rattle.serve.proofs.serve.Given as goal

-- the stream may be read on, the writer works, and the session goes on
abbrev pub invariant-messages : goal.invariant-messages
invariant-messages g l = record {
  reading : MayRead (g.S.Source.failed l.reader) (g.S.Source.ended l.reader) l.incoming;
  writer : g.W.Sink.failed l.writer ≡ false;
  counted : g.S.Source.reads_left l.fn.reader + l.incoming.reads ≤ g.S.Source.reads_left l.reader + 1000000;
  going : HasCarried (g.S.Source.left l.fn.reader) (g.S.Source.left l.reader) (g.W.Sink.taken l.fn.writer) (g.W.Sink.taken l.writer)
      (Going g.D.Desk.answers l.fn.session l.fn.desk l.desk l.session l.incoming.feed.held l.incoming.reads);
}

abbrev pub decreases-messages : goal.decreases-messages
decreases-messages g l = bytes_ahead l.incoming.reads l.incoming.feed.held
