use Rattle.std.proofs.Common.{lit<}
use Rattle.std.specs.FinSet as set
use Rattle.member_orset.proofs.Taking.{joined_left, left_apart}
use Rattle.member_orset.proofs.joining.take_all.Goals as goal

pub append-requires : goal.append-requires
append-requires c = (
  lit< tt,
  (
    left_apart (set.contains c.args.known.now.dots) c.args.cells.now c.take_known.new.cells c.args.others.live c.take_known.new.others.live c.take_known.ensures,
    c.take_known.ensures.room,
  ),
)

pub returns-else-len-le-FEW : goal.returns-else-len-le-FEW
returns-else-len-le-FEW c =
    joined_left (set.contains c.args.known.now.dots) c.args.cells.now c.take_known.new.cells c.append.new.self c.args.others.live c.take_known.new.others.live c.requires.heard c.take_known.ensures
    c.append.ensures.live c.append.ensures.ids
