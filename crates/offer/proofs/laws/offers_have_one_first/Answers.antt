use Rattle.offer.proofs.OfferOrder.{is_first, one_first}
use Rattle.offer.proofs.laws.offers_have_one_first.Goals as goal

pub returns-clause-first : goal.returns-clause-first
returns-clause-first c = is_first

pub returns-clause-one : goal.returns-clause-one
returns-clause-one c = one_first
