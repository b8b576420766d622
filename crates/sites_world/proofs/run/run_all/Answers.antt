use Rattle.std.proofs.Common.{[], ◌∷◌, ◌++◌, length, refl, take, sym, ap, subst, ◌∙◌, arith}
use Rattle.std.proofs.lemmas.List.{take_all, take_more}
use Rattle.sites_world.specs.Worlds.{IsReached, done_of, run}
use Rattle.sites_world.specs.WorldStates.{HaveHappened, WorldState}
use Rattle.sites_world.specs.Conditions.{EventsLead}
use Rattle.sites_world.proofs.OutcomesByConditions.{lead_on}
use Rattle.sites_world.proofs.Happenings.{happened_more, none_happened, reached_more}
use Rattle.sites_world.proofs.KeptWorlds.{world_after_event}
use Rattle.sites_world.proofs.run.run_all.Goals as goal

-- at first nothing has happened
pub loop-event-init : goal.loop-event-init
loop-event-init c = record {
  count = refl;
  reported = let len = c.args.outcomes.now.ok.0 in let none = ap length c.requires.none in omega (arith, len, none);
  room = let room = c.requires.room in omega (arith, room);
  happened = λ names w reached stands. none_happened (record { names = names; sites = c.args.sites.now.items; pool = c.args.pool.now.items }) w c.args.outcomes.now.items c.requires.none stands;
  world = λ names is. is;
  led = λ names is. let old : WorldState = record { names = names; sites = c.args.sites.now.items; pool = c.args.pool.now.items } in subst (λ os. EventsLead old [] os old) (sym c.requires.none) refl;
}

-- the event has happened after those before it
pub loop-event-preserved : goal.loop-event-preserved
loop-event-preserved c = record {
  count = c.happen_by_copy-outcome.ensures.count ∙ c.loop-event.invariant.count;
  reported = let len = c.push_reserved.ensures.len in let before = c.loop-event.invariant.reported in omega (arith, len, before);
  room = let capacity = c.push_reserved.ensures.capacity in let before = c.loop-event.invariant.room in omega (arith, capacity, before);
  happened = λ names w reached stands.
      let events = c.args.events.now in
      let es = take c.loop-event.event-index events in
      let os = c.loop-event.outcomes.items in
      let e = c.event-item.result in
      let o = c.happen_by_copy-outcome.result in
      let new : WorldState = record { names = names; sites = c.happen_by_copy-outcome.new.sites.items; pool = c.happen_by_copy-outcome.new.pool.items } in
      let before = c.loop-event.invariant.happened names w reached stands in
      let there = reached_more names (length c.args.sites.now.items) w (done_of es os) reached in
      let so_far = (run names w (done_of es os)).0 in
      let happened = c.happen_by_copy-outcome.ensures.meaning names so_far (subst (λ n. IsReached names n so_far) (sym c.loop-event.invariant.count) there) before.stands in
      let more = happened_more names w es os e o c.happen_by_copy-outcome.new.sites.items c.happen_by_copy-outcome.new.pool.items c.loop-event.sites.items c.loop-event.pool.items before happened in
      let grown = take_more events c.loop-event.event-index e c.loop-event-test.true ∙ ap (λ x. es ++ x ∷ []) (sym c.event-item.is) in
      subst (λ xs. HaveHappened new w xs c.push_reserved.new.self.items) (sym grown) (subst (HaveHappened new w (es ++ e ∷ [])) (sym c.push_reserved.ensures.items) more);
  world = λ names is.
      world_after_event names c.loop-event.sites.items c.happen_by_copy-outcome.new.sites.items c.loop-event.pool.items c.happen_by_copy-outcome.new.pool.items c.event-item.result
      c.happen_by_copy-outcome.result (c.loop-event.invariant.world names is) c.happen_by_copy-outcome.ensures.count c.happen_by_copy-outcome.ensures.values
      (c.happen_by_copy-outcome.ensures.meaning names);
  led = λ names is.
      let events = c.args.events.now in
      let es = take c.loop-event.event-index events in
      let os = c.loop-event.outcomes.items in
      let e = c.event-item.result in
      let o = c.happen_by_copy-outcome.result in
      let old : WorldState = record { names = names; sites = c.args.sites.now.items; pool = c.args.pool.now.items } in
      let mid : WorldState = record { names = names; sites = c.loop-event.sites.items; pool = c.loop-event.pool.items } in
      let new : WorldState = record { names = names; sites = c.happen_by_copy-outcome.new.sites.items; pool = c.happen_by_copy-outcome.new.pool.items } in
      let more = lead_on old es os mid new e o (c.loop-event.invariant.led names is) (c.happen_by_copy-outcome.ensures.conditions names (c.loop-event.invariant.world names is)) in
      let grown = take_more events c.loop-event.event-index e c.loop-event-test.true ∙ ap (λ x. es ++ x ∷ []) (sym c.event-item.is) in
      subst (λ xs. EventsLead old xs c.push_reserved.new.self.items new) (sym grown) (subst (λ xs. EventsLead old (es ++ e ∷ []) xs new) (sym c.push_reserved.ensures.items) more);
}

-- all have
pub returns : goal.returns
returns c = record {
  meaning = λ names w reached stands.
      subst (λ xs. HaveHappened (record { names = names; sites = c.loop-event.sites.items; pool = c.loop-event.pool.items }) w xs c.loop-event.outcomes.items)
      (take_all c.loop-event.event-index c.args.events.now c.loop-event-test.false) (c.loop-event.invariant.happened names w reached stands);
  world = c.loop-event.invariant.world;
  count = c.loop-event.invariant.count;
  conditions = λ names is.
      let old : WorldState = record { names = names; sites = c.args.sites.now.items; pool = c.args.pool.now.items } in
      let new : WorldState = record { names = names; sites = c.loop-event.sites.items; pool = c.loop-event.pool.items } in
      subst (λ xs. EventsLead old xs c.loop-event.outcomes.items new) (take_all c.loop-event.event-index c.args.events.now c.loop-event-test.false) (c.loop-event.invariant.led names is);
}
