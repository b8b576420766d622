use Rattle.std.proofs.Common.{refl}
use Rattle.site_store.proofs.opening.open.Goals as goal

pub returns-clause-holds : goal.returns-clause-holds
returns-clause-holds g c = c.open_file.ensures.holds refl

pub returns-clause-finds : goal.returns-clause-finds
returns-clause-finds g c = c.open_file.ensures.finds

pub returns-clause-opened : goal.returns-clause-opened
returns-clause-opened g c = c.open_file.ensures.opened

pub returns-clause-schema : goal.returns-clause-schema
returns-clause-schema g c = c.open_file.ensures.store refl
