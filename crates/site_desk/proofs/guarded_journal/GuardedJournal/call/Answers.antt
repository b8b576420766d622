use Rattle.std.proofs.Common.{◌≡◌, Err, ap}
use Rattle.site_journal.specs.declared.desk_fault.DeskFault.TheVariants.{Rewound}
use Rattle.site_desk.proofs.guarded_journal.GuardedJournal.call.Goals as goal

-- the fault of the answer is that of the call
pub returns-in-Err-clause-rewound : goal.returns-in-Err-clause-rewound
returns-in-Err-clause-rewound g c = λ len. let both = c.in-Err.ensures.rewound len in (
  (λ e. let fault : c.in-Err.fault ≡ Rewound len = cc e in both.0 (ap Err fault)),
  (λ h. let fault : c.in-Err.fault ≡ Rewound len = cc (both.1 h) in ap Err fault),
)
