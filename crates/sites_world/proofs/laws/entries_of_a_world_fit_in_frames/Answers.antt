use Rattle.sites_world.proofs.SmallWorlds.{entries_fit, frames_fit, has_frame, held_fits, worlds_small}
use Rattle.sites_world.proofs.laws.entries_of_a_world_fit_in_frames.Goals as goal

pub returns : goal.returns
returns c =
    let steps = c.what_a_site_knows_stays_small_enough_for_a_frame.ensures in
    record {
      small = worlds_small steps.steps steps.new;
      entries = entries_fit steps.steps steps.new;
      frames = has_frame c.a_knowledge_has_one_delta.ensures.some;
      held = held_fits steps.steps steps.new;
      pool = frames_fit steps.steps steps.new;
    }
