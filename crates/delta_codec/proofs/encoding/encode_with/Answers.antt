use Rattle.std.proofs.Common.{◌≡◌, ◌++◌, length, ap, ◌∙◌}
use Rattle.std.specs.Int.{w32, to_be_bytes}
use Rattle.delta_codec.specs.Frames.{FrameParts, Heading, content_bytes, parts_with}
use Rattle.delta_codec.proofs.encoding.encode_with.Goals as goal

-- the length, and what it is the length of
pub returns-clause-value : goal.returns-clause-value
returns-clause-value c =
    let heading : Heading = record { maker = c.args.maker; number = c.args.number } in
    let parts : FrameParts = parts_with heading c.args.delta.now c.args.runs.now in
    let size : c.content_size-size.result ≡ length (content_bytes parts) = c.content_size-size.ensures.value heading in
    let none = c.in_ok-reserve_exact.ensures.items ∙ c.new-out.ensures.items in
    c.in_ok-put_content.ensures.written ∙ ap (λ front. front ++ content_bytes parts) (c.in_ok-put_number4.ensures ∙ (λ i. none i ++ to_be_bytes w32 (size i)))
