use Rattle.site_threads.proofs.site.run_replica.Given as goal

abbrev pub ghosts-run_site-L-Ledger : goal.ghosts-run_site-L-Ledger
ghosts-run_site-L-Ledger g a = record { name = a.blank.name; parts = a.blank.parts }

abbrev pub ghosts-run_site-L-SiteLedger : goal.ghosts-run_site-L-SiteLedger
ghosts-run_site-L-SiteLedger g a = record { site = a.journal.base.site; names = a.journal.base.names; limit = a.journal.limit; base = a.journal.base }
