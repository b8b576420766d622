use Rattle.std.proofs.Common.{slice_get, ap, ◌∙◌}
use Rattle.sites_world.proofs.Happenings.{entry_in_ranges}
use Rattle.sites_world.proofs.world.World.entry.Goals as goal

-- the pool has frames within the ranges alone
pub returns-clause-in_ranges : goal.returns-clause-in_ranges
returns-clause-in_ranges c =
    entry_in_ranges (λ frame. frame.now) c.frame_at.result (record { names = c.self.inside.list; sites = c.self.inside.sites.items; pool = c.self.inside.pool.items }) c.args.entry c.self.invariant
    (c.frame_at.ensures ∙ ap (λ fs. slice_get fs c.args.entry) c.as_slice.ensures.value)
