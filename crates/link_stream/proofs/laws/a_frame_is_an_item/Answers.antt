use Rattle.std.proofs.Common.{◌≡◌, ◌≤◌, ◌++◌, ◌+◌, List, arith, length, length-append, subst, sym, ℕ}
use Rattle.std.specs.Int.{to_be_bytes, w32}
use Rattle.std.proofs.lemmas.Nat.{from_be_bytes-to_be_bytes_4}
use Rattle.delta_codec.specs.Frames.{content_bytes}
use Rattle.link_stream.specs.Items.{IsFrame, size_in}
use Rattle.link_stream.proofs.laws.a_frame_is_an_item.Goals as goal

-- a length and as many bytes
frame_of : (content : List ℕ) → 24 ≤ length content → length content ≤ 8388608 → IsFrame (to_be_bytes w32 (length content) ++ content)
frame_of content least most =
    let n = length content in
    let size : size_in (to_be_bytes w32 n ++ content) ≡ n = from_be_bytes-to_be_bytes_4 n (omega (arith, most)) in
    let len : length (to_be_bytes w32 n ++ content) ≡ 4 + n = length-append (to_be_bytes w32 n) content in (
      omega (arith, len),
      (omega (arith, size, least), omega (arith, size, most)),
      omega (arith, len, size),
    )

pub returns : goal.returns
returns c = λ frame bytes spells. subst IsFrame (sym spells.spelled)
    (frame_of (content_bytes spells.parts) (c.a_frame_has_a_length.ensures.least spells.parts spells.within) (c.a_frame_has_a_length.ensures.most spells.parts spells.within))
