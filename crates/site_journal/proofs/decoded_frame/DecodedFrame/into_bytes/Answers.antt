use Rattle.std.proofs.Common.{subst}
use Rattle.delta_codec.specs.Decoding.{HasOpening}
use Rattle.site_journal.proofs.Openings.{opened}
use Rattle.site_journal.proofs.decoded_frame.DecodedFrame.into_bytes.Goals as goal

-- bytes that spell a frame have its opening
pub returns-clause-opening : goal.returns-clause-opening
returns-clause-opening c = subst HasOpening c.self.view_is (opened c.self.inside.frame _ c.self.invariant.0)
