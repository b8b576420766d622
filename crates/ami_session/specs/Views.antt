-- A session's act as contracts see it, without where its bytes are in memory.
use Rattle.ami_session.specs.declared.act.Act.{Act}
use Rattle.ami_session.specs.declared.act.Act.TheVariants as act
use Rattle.ami_session.specs.Checks.{Reaction, Replies, Asks, Ends}

-- the reaction of an act, with its texts as bytes
abbrev pub reaction_of : Act → Reaction
reaction_of (act.Reply bytes) = Replies bytes.items
reaction_of (act.Ask ask pending) = Asks ask pending
reaction_of (act.End bytes) = Ends bytes.items
