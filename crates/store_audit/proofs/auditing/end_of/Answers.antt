use Rattle.store_audit.proofs.auditing.end_of.Goals as goal

-- the step is there
pub stuck_at-requires-clause-step : goal.stuck_at-requires-clause-step
stuck_at-requires-clause-step c = c.requires.step c.in-Some.site c.in-Some.place c.in-Some.is
