use Rattle.std.proofs.Common.{◌∙◌, ap}
use Rattle.std.specs.FinSet as set
use Rattle.replica.proofs.SeenDots.{none_before, none_full, one_seen}
use Rattle.replica.proofs.changes.added.Goals as goal

pub put-requires-clause-in_context : goal.put-requires-clause-in_context
put-requires-clause-in_context c =
    ap (λ s. set.contains s c.args.dot) (c.new-builder.ensures.known ∙ c.in-Ok.ensures.ok) ∙ one_seen c.args.members.now c.args.dot

pub put-requires-clause-greater : goal.put-requires-clause-greater
put-requires-clause-greater c = none_before c.new-builder.result.live c.args.dot c.new-builder.ensures.live

pub put-requires-clause-room : goal.put-requires-clause-room
put-requires-clause-room c = none_full c.new-builder.result.live c.new-builder.ensures.live
