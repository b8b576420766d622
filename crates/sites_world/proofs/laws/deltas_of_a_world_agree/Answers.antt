use Rattle.delta.proofs.Merging.{commutative}
use Rattle.delta.proofs.StandingDeltas.{consistent_agree}
use Rattle.sites_world.proofs.KnownTogether.{together}
use Rattle.sites_world.proofs.SteppedHistories.{reached_history}
use Rattle.sites_world.proofs.laws.deltas_of_a_world_agree.Goals as goal

pub returns : goal.returns
returns c = record {
  agree = λ names sites w k l x y reached ik il. consistent_agree x y k l (together names w k l (reached_history names sites w reached) ik il);
  commute = λ names sites w k l x y joint turned reached ik il is of.
      commutative x y joint turned (consistent_agree x y k l (together names w k l (reached_history names sites w reached) ik il) is of);
}
