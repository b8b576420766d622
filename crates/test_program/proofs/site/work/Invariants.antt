use Rattle.test_program.proofs.site.work.Given as goal

abbrev pub ghosts-work_at_desk-L-Ledger : goal.ghosts-work_at_desk-L-Ledger
ghosts-work_at_desk-L-Ledger g a = record { name = a.blank.name; parts = a.blank.parts }

abbrev pub ghosts-work_at_desk-L-SiteLedger : goal.ghosts-work_at_desk-L-SiteLedger
ghosts-work_at_desk-L-SiteLedger g a = record { site = a.journal.base.site; names = a.journal.base.names; limit = a.journal.limit; base = a.journal.base }
