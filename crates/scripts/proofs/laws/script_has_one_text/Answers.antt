use Rattle.delta_codec.specs.declared.limits.TheConstants.{VERSION}
use Rattle.scripts.proofs.OneText.{one_text}
use Rattle.scripts.proofs.laws.script_has_one_text.Goals as goal

pub returns : goal.returns
returns c = one_text c.stream_has_one_outcome.ensures.messages c.a_knowledge_has_one_delta.ensures.one (c.each_frame_has_one_spelling.ensures VERSION)
