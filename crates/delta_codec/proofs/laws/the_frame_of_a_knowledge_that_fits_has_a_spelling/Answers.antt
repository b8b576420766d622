use Rattle.delta_codec.proofs.FittingFrames.{fits_format}
use Rattle.delta_codec.proofs.Spellings.{has_spelling}
use Rattle.delta_codec.proofs.laws.the_frame_of_a_knowledge_that_fits_has_a_spelling.Goals as goal

pub returns : goal.returns
returns c = record {
  fits = fits_format;
  some = λ frame k fits is maker number. has_spelling frame (fits_format frame k fits is maker number);
}
