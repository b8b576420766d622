use Rattle.delta_codec.specs.declared.limits.TheConstants.{VERSION}
use Rattle.scripts.proofs.EachText.{Laws, lines_have_text, script_has_text}
use Rattle.scripts.proofs.laws.each_script_has_a_text.Goals as goal

pub returns : goal.returns
returns c = record {
  script = λ place script. script_has_text laws place script c.operations_of_a_world_are_within_limits.ensures.events;
  lines = lines_have_text laws;
}
  where
    laws : Laws
    laws = record {
      outcome = c.stream_has_one_outcome.ensures.some;
      messages = c.stream_has_one_outcome.ensures.messages;
      ending = c.stream_has_one_outcome.ensures.ending;
      one_delta = c.a_knowledge_has_one_delta.ensures.one;
      one_spelling = c.each_frame_has_one_spelling.ensures VERSION;
      frames = c.entries_of_a_world_fit_in_frames.ensures.frames;
      fits = c.the_frame_of_a_knowledge_that_fits_has_a_spelling.ensures.fits;
      spelling = c.a_frame_that_fits_the_format_has_a_spelling.ensures.some;
      asked = c.what_a_message_asks_is_within_limits.ensures;
      entries = c.entries_of_a_world_fit_in_frames.ensures.entries;
      limits = c.operations_of_a_world_are_within_limits.ensures.event;
      leads = c.events_are_run_in_parts.ensures.leads;
      grows = c.a_world_only_grows.ensures.events;
    }
