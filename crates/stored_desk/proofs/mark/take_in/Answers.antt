use Rattle.std.proofs.Common.{rules}
use Rattle.stored_desk.proofs.Marking.{takes_in}
use Rattle.stored_desk.proofs.mark.take_in.Goals as goal

pub join_pass-requires : goal.join_pass-requires
join_pass-requires c = (search rules, (search rules, ((c.requires.cell, c.requires.claim, c.requires.alone), takes_in _ _ _ _)))
