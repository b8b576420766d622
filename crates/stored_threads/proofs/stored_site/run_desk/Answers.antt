use Rattle.stored_threads.proofs.stored_site.run_desk.Goals as goal

pub returns-in-Ok : goal.returns-in-Ok
returns-in-Ok g c = λ replica is. c.close_stored_site.ensures c.args.tasks.items replica is c.in-Ok.ensures.done
