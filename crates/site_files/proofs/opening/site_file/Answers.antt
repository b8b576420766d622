use Rattle.std.proofs.Common.{subst, sym}
use Rattle.replica.specs.Deeds.{IsNew}
use Rattle.site_files.proofs.opening.site_file.Goals as goal

pub returns-clause-is_new : goal.returns-clause-is_new
returns-clause-is_new g c =
    let said = c.is_first_start-is_new.ensures in
    let same = c.new.ensures.replica in
    (λ yes. let it = said.0 yes in record { new = subst IsNew (sym same) it.1; first = it.0 }, λ it. said.1 (it.first, subst IsNew same it.new))
