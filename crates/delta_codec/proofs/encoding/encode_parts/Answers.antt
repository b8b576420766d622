use Rattle.std.proofs.Common.{◌≡◌, ap, ◌∙◌}
use Rattle.delta.specs.Frames.{frame_of}
use Rattle.member_orset.specs.Members.{Members}
use Rattle.delta_codec.proofs.Encoded.{written_spells}
use Rattle.delta_codec.proofs.encoding.encode_parts.Goals as goal

pub returns : goal.returns
returns c ranges =
    let frame = frame_of c.args.maker c.args.number c.args.delta.now in
    let known : c.context.result.now.dots ≡ c.args.delta.now.members.known = c.context.ensures ∙ ap (λ (m : Members). m.known) c.members.ensures.value in
    let are = rw known at c.as_slice-runs.ensures.value in
    let runs = c.as_slice-runs.result.now in
    written_spells c.encode_with.result (λ bytes. bytes.items) frame runs ranges are c.as_slice-runs.ensures.limits c.as_slice-runs.ensures.few c.encode_with.ensures.within c.encode_with.ensures.value
