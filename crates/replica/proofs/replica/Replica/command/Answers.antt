use Rattle.std.proofs.Common.{Err}
use Rattle.replica.specs.Changes.{change_of}
use Rattle.replica.specs.Site.{meaning_at}
use Rattle.replica.proofs.PlannedCommands.{plan_done, refusal_done}
use Rattle.replica.proofs.StandingSites.{done_means}
use Rattle.replica.proofs.replica.Replica.command.Goals as goal

pub returns-in-Ok-clause-meaning : goal.returns-in-Ok-clause-meaning
returns-in-Ok-clause-meaning c =
    let before = c.make.ensures.before in
    plan_done c.args.self.now c.make.new.self _ c.in-Ok.planned c.make.result before.kept before.state_limits before.pending_limits c.in-Ok.ensures c.make.ensures.made

pub returns-in-Ok-clause-knowledge : goal.returns-in-Ok-clause-knowledge
returns-in-Ok-clause-knowledge c = λ s stands.
    let before = c.make.ensures.before in
    done_means c.args.self.now c.make.new.self s (change_of c.args.command.now) c.make.result stands
    (plan_done c.args.self.now c.make.new.self _ c.in-Ok.planned c.make.result before.kept before.state_limits before.pending_limits c.in-Ok.ensures c.make.ensures.made)

pub returns-in-Err-clause-knowledge : goal.returns-in-Err-clause-knowledge
returns-in-Err-clause-knowledge c = λ s stands. done_means c.args.self.now c.args.self.now s (change_of c.args.command.now) (Err c.in-Err.refusal) stands
    (refusal_done c.args.self.now (meaning_at c.args.self.now (change_of c.args.command.now)) c.in-Err.refusal c.in-Err.ensures)
