use Rattle.site_desk.proofs.PossibleDeeds.{answered_somewhere, legal_receipt}
use Rattle.site_desk.proofs.desk.SiteDesk.call.Goals as goal

pub returns-clause-possible : goal.returns-clause-possible
returns-clause-possible g c = answered_somewhere _ _ _ _ _ c.call.result c.call.ensures.site c.call.ensures.answer

pub returns-clause-reached : goal.returns-clause-reached
returns-clause-reached g c = legal_receipt _ _ _ c.call.result c.call.ensures.reached c.call.ensures.position c.call.ensures.added
