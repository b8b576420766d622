use Rattle.stored_threads.proofs.stored_site.run_replica.Given as goal

abbrev pub ghosts-run_journal-L-Ledger : goal.ghosts-run_journal-L-Ledger
ghosts-run_journal-L-Ledger g a = record { name = a.blank.name; parts = a.blank.parts }

abbrev pub ghosts-run_journal-L-SiteLedger : goal.ghosts-run_journal-L-SiteLedger
ghosts-run_journal-L-SiteLedger g a = record { site = a.journal.base.site; names = a.journal.base.names; limit = a.journal.limit; base = a.journal.base }

abbrev pub ghosts-run_journal-L-StoredLedger : goal.ghosts-run_journal-L-StoredLedger
ghosts-run_journal-L-StoredLedger g a = record { history = a.history; mark = a.mark }
