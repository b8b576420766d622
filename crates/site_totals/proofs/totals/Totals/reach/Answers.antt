use Rattle.std.proofs.Common.{◌<◌, sym, subst}
use Rattle.dots.specs.declared.limits.TheConstants.{QUEUES}
use Rattle.operations.specs.Totals.{Key, single}
use Rattle.operations.proofs.TotalsLaws.{single_limits, counted_of}
use Rattle.site_totals.specs.Tally.{Tally, HasRoomFor}
use Rattle.site_totals.proofs.totals.Totals.reach.Goals as goal

-- the entry may be kept
pub join_one-requires-clause-limits : goal.join_one-requires-clause-limits
join_one-requires-clause-limits c = single_limits c.new.result c.args.totals (λ some. record {
  site = c.new.ensures.limit;
  queue = subst (λ (key : Key). key.queue < QUEUES) (sym c.new.ensures.value) c.requires.queue;
  completed = c.requires.completed;
  abandoned = c.requires.abandoned;
  counted = counted_of c.args.totals some;
})

pub returns-clause-succeeds : goal.returns-clause-succeeds
returns-clause-succeeds c room = c.join_one.ensures.succeeds
    (subst (λ (t : Tally). HasRoomFor t (single c.new.result c.args.totals)) (sym c.self.view_is)
    (subst (λ (key : Key). HasRoomFor c.args.self.now (single key c.args.totals)) (sym c.new.ensures.value) room))
