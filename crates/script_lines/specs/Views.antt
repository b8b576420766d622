-- The sense of a line as contracts see it, without where its bytes are in memory.
use Rattle.script_lines.specs.declared.line.Line.{Line}
use Rattle.script_lines.specs.declared.line.Line.TheVariants as line
use Rattle.script_lines.specs.ScriptLines.{Sense, Nothing, Message, Count, Offer, Cut, Whole, Take, Show, Unknown}

-- the sense of a line, with its texts as bytes
abbrev pub sense : Line → Sense
sense line.Nothing = Nothing
sense (line.Message site fields) = Message site fields.now
sense (line.Count site calls queue) = Count site calls queue.now
sense (line.Offer site parts) = Offer site parts.now
sense (line.Cut site) = Cut site
sense (line.Whole site) = Whole site
sense (line.Take site entry) = Take site entry
sense (line.Show entry) = Show entry
sense line.Unknown = Unknown
