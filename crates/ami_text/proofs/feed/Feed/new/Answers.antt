use Rattle.ami_text.proofs.Feeding.{reached_start}
use Rattle.ami_text.proofs.feed.Feed.new.Goals as goal

pub invariant_of-result : goal.invariant_of-result
invariant_of-result c = (reached_start c.new.result, tt)
