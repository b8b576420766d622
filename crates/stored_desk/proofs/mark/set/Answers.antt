use Rattle.std.proofs.Common.{rules}
use Rattle.stored_desk.proofs.Marking.{raises}
use Rattle.stored_desk.proofs.mark.set.Goals as goal

pub swap_as-requires : goal.swap_as-requires
swap_as-requires g c = (search rules, (search rules, (c.requires.cell, raises _ c.args.saved _ c.requires.keeper c.requires.up)))
