use Rattle.ami_text.proofs.Feeding.{reached_fed}
use Rattle.ami_text.proofs.feed.Feed.feed.Goals as goal

pub invariant_of-self : goal.invariant_of-self
invariant_of-self c = (reached_fed c.append.result c.self.inside.held c.args.piece.now c.append.new.self c.self.inside.progress c.append.ensures.ok c.append.ensures.err c.self.invariant.0, c.self.invariant.1)
