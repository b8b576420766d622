use Rattle.tests_of_servers.proofs.workers.desks.assert_of.Given as goal

abbrev pub ghosts-assert_holds-L-Ledger : goal.ghosts-assert_holds-L-Ledger
ghosts-assert_holds-L-Ledger g a = record { name = a.blank.name; parts = a.blank.parts }

abbrev pub ghosts-assert_holds-L-SiteLedger : goal.ghosts-assert_holds-L-SiteLedger
ghosts-assert_holds-L-SiteLedger g a = record { site = a.journal.base.site; names = a.journal.base.names; limit = a.journal.limit; base = a.journal.base }
