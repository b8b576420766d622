use Rattle.std.proofs.Common.{IsTrue, refl, sym, subst}
use Rattle.site_audit.proofs.Ends.{begins}
use Rattle.site_audit.proofs.auditing.explain.Goals as goal

-- nothing is played yet
pub search-requires-clause-kept : goal.search-requires-clause-kept
search-requires-clause-kept c =
    begins c.args.journals.now (c.are_sites.ensures.sites.0 (subst IsTrue (sym c.if-not-are_sites.false) refl)) c.in_default.ensures.whole c.in_default.ensures.legal c.in_ok-replay.replay c.in_ok-replay.ensures
