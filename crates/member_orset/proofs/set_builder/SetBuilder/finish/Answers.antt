use Rattle.std.proofs.Common.{sym, subst, ◌∙◌}
use Rattle.member_orset.specs.Members.{AreKept}
use Rattle.member_orset.proofs.KeptSets.{set_unspent}
use Rattle.live_cells.proofs.SpentIds.{none_retired}
use Rattle.member_orset.proofs.set_builder.SetBuilder.finish.Goals as goal

pub of-requires : goal.of-requires
of-requires c =
    let known = c.self.inside.context.dots in
    set_unspent known c.finish.result.live c.finish.result.spent (subst (AreKept known) (sym c.finish.ensures.live) c.self.invariant) c.finish.ensures.spent

pub returns-clause-retired : goal.returns-clause-retired
returns-clause-retired c = c.of.ensures.retired ∙ none_retired _ c.finish.result.spent c.finish.ensures.spent
