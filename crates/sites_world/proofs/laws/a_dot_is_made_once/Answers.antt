use Rattle.std.proofs.Common.{length}
use Rattle.sites_world.proofs.KnownTogether.{made_at_site, part_of}
use Rattle.sites_world.proofs.SteppedHistories.{reached_history}
use Rattle.sites_world.proofs.laws.a_dot_is_made_once.Goals as goal

pub returns : goal.returns
returns c = record {
  once = λ names sites w k l o p dot reached ik il ho hp makes again.
      let has = reached_history names sites w reached in
      has.is.history.adds o p dot (part_of names w has.made k has.is ik o ho) (part_of names w has.made l has.is il p hp) makes again;
  site = λ names sites w k o dot reached ik ho makes.
      let has = reached_history names sites w reached in
      made_at_site names (length w.sites) has.made o dot has.is.history (part_of names w has.made k has.is ik o ho) makes;
}
