use Rattle.site_audit.proofs.replay.search.Goals as goal

pub returns-then-not-branch-clause-none : goal.returns-then-not-branch-clause-none
returns-then-not-branch-clause-none c = c.in_ok-round.ensures.none c.if-not-branch.true
