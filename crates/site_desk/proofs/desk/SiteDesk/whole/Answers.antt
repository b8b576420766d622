use Rattle.site_desk.proofs.PossibleDeeds.{legal_receipt, possible_deed}
use Rattle.site_desk.proofs.desk.SiteDesk.whole.Goals as goal

pub returns-clause-possible : goal.returns-clause-possible
returns-clause-possible g c = possible_deed _ _ _ _ c.whole.result c.whole.ensures.site c.whole.ensures.added

pub returns-clause-reached : goal.returns-clause-reached
returns-clause-reached g c = legal_receipt _ _ _ c.whole.result c.whole.ensures.reached c.whole.ensures.position c.whole.ensures.added
