use Rattle.delta_codec.proofs.FaultLaws.{either, not_both_of, one_fault}
use Rattle.delta_codec.proofs.InnerFaults.{never_memory}
use Rattle.delta_codec.proofs.laws.bytes_have_a_frame_or_a_fault.Goals as goal

pub returns : goal.returns
returns c = record { either = either; not_both = not_both_of; one = one_fault; not_memory = λ bytes fault has. never_memory fault bytes has }
