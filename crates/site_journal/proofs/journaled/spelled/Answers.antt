use Rattle.std.proofs.Common.{sym, subst}
use Rattle.delta.specs.Frames.{frame_of}
use Rattle.delta_codec.specs.Frames.{SpellsIn}
use Rattle.delta_codec.specs.declared.limits.TheConstants.{VERSION}
use Rattle.site_journal.proofs.journaled.spelled.Goals as goal

pub returns-clause-spelled : goal.returns-clause-spelled
returns-clause-spelled c =
    subst (SpellsIn VERSION (frame_of c.args.maker c.args.number c.args.delta.now)) (sym c.in_ok-bytes.ensures) (c.in_ok-encode_parts.ensures c.requires)
