use Rattle.std.proofs.Common.{◌≡◌, ◌+◌, take, []}
use Rattle.replica.specs.Site.{SiteState}
use Rattle.stored_steps.specs.Restoring.{HasReplayed}
use Rattle.stored_steps.proofs.restoring.replay_rows.Given as goal

-- the rows up to this one were done again
abbrev pub invariant-loop-row : goal.invariant-loop-row
invariant-loop-row l = record {
  position : l.position ≡ l.first + l.row-index;
  replayed : (from : SiteState) → HasReplayed from [] l.initial.journal → HasReplayed from (take l.row-index l.rows) l.journal;
  limit : l.journal.limit ≡ l.initial.journal.limit;
}
