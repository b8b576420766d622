use Rattle.std.proofs.Common.{refl}
use Rattle.site_store.proofs.opening.open_blank.Goals as goal

pub returns-clause-schema : goal.returns-clause-schema
returns-clause-schema g c = c.open_file.ensures.blank refl

pub returns-clause-opened : goal.returns-clause-opened
returns-clause-opened g c = c.open_file.ensures.opened

pub returns-clause-sums : goal.returns-clause-sums
returns-clause-sums g c = c.open_file.ensures.sums
