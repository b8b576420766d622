use Rattle.replica.proofs.FramedSites.{next_in_ranges}
use Rattle.replica.proofs.laws.a_next_frame_is_in_ranges.Goals as goal

pub returns : goal.returns
returns c = record {
  pending = λ s kept queues left. next_in_ranges s s.pending queues left kept.pending_queues;
  state = λ s kept queues left. next_in_ranges s s.state queues left kept.state_queues;
}
