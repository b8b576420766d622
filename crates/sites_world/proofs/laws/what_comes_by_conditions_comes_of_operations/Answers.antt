use Rattle.sites_world.proofs.OperationsByConditions.{StandForSteps, event_happens, events_happen, world_leads, worlds_lead}
use Rattle.sites_world.proofs.laws.what_comes_by_conditions_comes_of_operations.Goals as goal

pub returns : goal.returns
returns c = record {
  event = λ from to w e o queues reached stands. event_happens laws from to w queues reached stands e o;
  events = events_happen laws;
  world = world_leads laws;
  worlds = worlds_lead laws;
}
  where
    laws : StandForSteps
    laws = record {
      command = c.deeds_stand_for_steps.ensures.command;
      report = c.a_report_is_the_status_text_of_what_its_site_stands_for.ensures;
      nothing = c.deeds_stand_for_steps.ensures.nothing;
      cut = c.deeds_stand_for_steps.ensures.cut;
      no_cut = c.refusals_stand_for_steps.ensures.cut;
      whole = c.deeds_stand_for_steps.ensures.whole;
      no_whole = c.refusals_stand_for_steps.ensures.whole;
      take = c.deeds_stand_for_steps.ensures.take;
      cells_full = c.refusals_stand_for_steps.ensures.cells_full;
      runs_full = c.refusals_stand_for_steps.ensures.runs_full;
    }
