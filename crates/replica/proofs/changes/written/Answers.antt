use Rattle.std.proofs.Common.{ap, ◌∙◌}
use Rattle.std.specs.FinSet as set
use Rattle.replica.proofs.SeenDots.{given_seen}
use Rattle.replica.proofs.changes.written.Goals as goal

pub write_all-requires-clause-known : goal.write_all-requires-clause-known
write_all-requires-clause-known c q h =
    ap (λ s. set.contains s q) (c.new-builder.ensures.known ∙ c.in-Ok.ensures.ok) ∙ given_seen c.args.members.now c.args.dots.now q h
