use Rattle.std.proofs.Common.{◌≡◌, ◌+◌, false, take}
use Rattle.store_listing.specs.Listings.{AreWritten}
use Rattle.store_listing.proofs.writing.write_steps.Given as goal

-- the rows up to this one are written
abbrev pub invariant-loop-row : goal.invariant-loop-row
invariant-loop-row g l = record {
  works : g.W.Sink.failed l.out ≡ false;
  position : l.position ≡ l.first + l.row-index;
  written : AreWritten l.with_frames l.first (take l.row-index l.rows) (g.W.Sink.taken l.fn.out) (g.W.Sink.taken l.out);
}
