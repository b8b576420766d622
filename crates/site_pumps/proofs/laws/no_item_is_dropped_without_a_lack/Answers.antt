use Rattle.site_pumps.proofs.BriefRuns.{sent_or_lost}
use Rattle.site_pumps.proofs.laws.no_item_is_dropped_without_a_lack.Goals as goal

pub returns : goal.returns
returns c = sent_or_lost
