use Rattle.site_desk.proofs.PossibleDeeds.{legal_receipt, possible_deed}
use Rattle.site_desk.proofs.desk.SiteDesk.cut.Goals as goal

pub returns-clause-possible : goal.returns-clause-possible
returns-clause-possible g c = possible_deed _ _ _ _ c.cut.result c.cut.ensures.site c.cut.ensures.added

pub returns-clause-reached : goal.returns-clause-reached
returns-clause-reached g c = legal_receipt _ _ _ c.cut.result c.cut.ensures.reached c.cut.ensures.position c.cut.ensures.added
