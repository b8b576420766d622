use Rattle.replica.proofs.SiteViewLaws.{one_more}
use Rattle.replica.proofs.laws.a_site_view_foresees_one_operation_more.Goals as goal

pub returns : goal.returns
returns c = one_more
