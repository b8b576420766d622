use Rattle.member_orset.proofs.KeptSets.{set_none}
use Rattle.live_cells.proofs.SpentIds.{none_retired}
use Rattle.member_orset.proofs.member_set.MemberSet.new.Goals as goal

pub invariant_of-result : goal.invariant_of-result
invariant_of-result c = set_none c.new.result.dots c.new-2.result.live c.new-2.result.spent c.new-2.ensures.live c.new-2.ensures.spent

pub returns-clause-retired : goal.returns-clause-retired
returns-clause-retired c = none_retired _ c.new-2.result.spent c.new-2.ensures.spent
