use Rattle.delta_codec.proofs.Spellings.{has_spelling, spelled_fits}
use Rattle.delta_codec.proofs.laws.a_frame_that_fits_the_format_has_a_spelling.Goals as goal

pub returns : goal.returns
returns c = record { some = has_spelling; only = spelled_fits }
