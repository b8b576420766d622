use Rattle.site_desk.proofs.PossibleDeeds.{answered_receipt, given_somewhere}
use Rattle.site_desk.proofs.desk.SiteDesk.answer.Goals as goal

pub returns-clause-possible : goal.returns-clause-possible
returns-clause-possible g c = given_somewhere _ _ _ _ _ c.answer.result c.answer.ensures.site c.answer.ensures.answer

pub returns-clause-reached : goal.returns-clause-reached
returns-clause-reached g c =
    answered_receipt _ c.args.asked.now c.args.pass.now.ordinal c.answer.new.pass _ _ c.answer.result c.answer.ensures.reached c.answer.ensures.position c.answer.ensures.added
