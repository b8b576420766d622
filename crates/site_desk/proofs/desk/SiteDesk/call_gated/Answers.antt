use Rattle.site_desk.proofs.PossibleDeeds.{answered_somewhere, legal_receipt}
use Rattle.site_desk.proofs.desk.SiteDesk.call_gated.Goals as goal

pub returns-clause-possible : goal.returns-clause-possible
returns-clause-possible g c = answered_somewhere _ _ _ _ _ c.call-answered.result c.call-answered.ensures.site c.call-answered.ensures.answer

pub returns-clause-reached : goal.returns-clause-reached
returns-clause-reached g c = legal_receipt _ _ _ c.call-answered.result c.call-answered.ensures.reached c.call-answered.ensures.position c.call-answered.ensures.added
