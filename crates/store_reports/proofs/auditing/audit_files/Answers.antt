use Rattle.store_reports.proofs.auditing.audit_files.Goals as goal

-- the stores of the files are at fault as the audit says
pub returns-in-Err-clause-fault : goal.returns-in-Err-clause-fault
returns-in-Err-clause-fault g c =
    c.sites_fault.ensures.fault _ _ _ _ c.in_ok-stores.ensures.count c.in_ok-stores.ensures.each c.in-Err.ensures.fault
