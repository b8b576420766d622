use Rattle.std.proofs.Common.{refl}
use Rattle.replica.proofs.FramedSites.{cut_means, nothing_cut, whole_means}
use Rattle.replica.proofs.StandingSites.{follows_means, new_stands}
use Rattle.replica.proofs.TakenSites.{take_meant}
use Rattle.replica.proofs.laws.deeds_stand_for_steps.Goals as goal

pub returns : goal.returns
returns c = record {
  new = λ state is. new_stands state is.state is.pending is.last_count is.last_time is.frames;
  command = follows_means;
  nothing = nothing_cut;
  cut = λ old new frame s stands deed. cut_means old old new frame s refl stands deed.some deed.left deed.made;
  whole = λ old new frame s stands deed. whole_means old old new frame s refl stands deed.left deed.made;
  take = λ old new d s k stands says later deed. take_meant old d s k stands says new deed.may deed.taken later;
}
