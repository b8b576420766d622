use Rattle.tests_of_servers.proofs.desks.assert_asked.Given as goal

abbrev pub ghosts-asked-L-Ledger : goal.ghosts-asked-L-Ledger
ghosts-asked-L-Ledger g a = record { name = a.blank.name; parts = a.blank.parts }

abbrev pub ghosts-asked-L-SiteLedger : goal.ghosts-asked-L-SiteLedger
ghosts-asked-L-SiteLedger g a = record { site = a.journal.base.site; names = a.journal.base.names; limit = a.journal.limit; base = a.journal.base }
