use Rattle.std.proofs.Common.{rules, ◌∙◌}
use Rattle.site_desk.proofs.NewPasses.{new_more, new_none}
use Rattle.site_desk.proofs.desk.SiteDesk.new.Goals as goal

pub loop-ordinal-init : goal.loop-ordinal-init
loop-ordinal-init g c = (search rules, search rules, search rules, search rules, search rules, new_none _ (c.reserve.ensures.items ∙ c.new-all.ensures.items))

pub loop-ordinal-preserved : goal.loop-ordinal-preserved
loop-ordinal-preserved g c =
    (search rules, search rules, search rules, search rules, search rules, new_more c.loop-ordinal.ordinal _ _ c.new.result c.push_reserved.ensures.items c.new.ensures c.loop-ordinal.invariant.5)
