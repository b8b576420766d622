use Rattle.std.proofs.Common.{sym, ◌∙◌}
use Rattle.op_arena.proofs.ArenaSteps.{remove_absent}
use Rattle.op_arena.proofs.arena.Arena.take.Goals as goal

pub returns-else-holds-clause-held : goal.returns-else-holds-clause-held
returns-else-holds-clause-held g c = remove_absent c.args.self.now.held c.args.id (sym c.holds.ensures.value ∙ c.if-holds.false)
