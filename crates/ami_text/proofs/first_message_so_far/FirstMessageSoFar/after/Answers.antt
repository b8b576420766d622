use Rattle.std.proofs.Common.{◌≡◌, ◌∙◌, ◌+◌, ◌<◌, ℕ, List, [], ◌∷◌, ◌++◌, append_assoc, ap, arith, length, slice_index_or, subst, sym, take}
use Rattle.std.proofs.lemmas.List.{take_all, take_more}
use Rattle.ami_text.specs.FirstMessages.{HasSent, message_after}
use Rattle.ami_text.proofs.SentBytes.{sent_byte}
use Rattle.ami_text.proofs.first_message_so_far.FirstMessageSoFar.after.Goals as goal

-- a byte more
pub loop-byte-preserved : goal.loop-byte-preserved
loop-byte-preserved c = λ sent has.
    let i = c.loop-byte.byte-index in
    let bytes = c.args.bytes.now in
    let byte = slice_index_or bytes i 0 in
    let low : i < length bytes = omega (arith, c.loop-byte-test.true) in
    let more : (sent ++ take i bytes) ++ byte ∷ [] ≡ sent ++ take (i + 1) bytes = append_assoc sent (take i bytes) (byte ∷ []) ∙ ap (λ ys. sent ++ ys) (sym (take_more bytes i 0 low)) in
    subst (λ (m : _). HasSent (sent ++ take (i + 1) bytes) m) (sym c.after_byte-message.ensures)
    (subst (λ (ys : List ℕ). HasSent ys (message_after c.loop-byte.message byte)) more (sent_byte (sent ++ take i bytes) c.loop-byte.message byte (c.loop-byte.invariant sent has)))

pub returns : goal.returns
returns c = λ sent has.
    let all : take c.loop-byte.byte-index c.args.bytes.now ≡ c.args.bytes.now = take_all c.loop-byte.byte-index c.args.bytes.now (omega (arith, c.loop-byte-test.false)) in
    subst (λ (ys : List ℕ). HasSent (sent ++ ys) c.loop-byte.message) all (c.loop-byte.invariant sent has)
