use Rattle.std.proofs.Common.{length}
use Rattle.sites_world.proofs.KnownTogether.{one_dot, part_of}
use Rattle.sites_world.proofs.SteppedHistories.{reached_history}
use Rattle.sites_world.proofs.laws.a_member_has_one_visible_dot_of_a_site.Goals as goal

pub returns : goal.returns
returns c = λ names sites w k m dot other reached ik.
    let has = reached_history names sites w reached in
    one_dot names (length w.sites) has.made k has.is.history (part_of names w has.made k has.is ik) m dot other
