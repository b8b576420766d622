use Rattle.std.proofs.Common.{rules}
use Rattle.stored_desk.proofs.Marking.{known_gives}
use Rattle.stored_desk.proofs.mark.give.Goals as goal

pub split_pass-requires : goal.split_pass-requires
split_pass-requires c = (search rules, (search rules, (c.requires, known_gives _ _)))
