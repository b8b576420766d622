use Rattle.std.specs.Prelude.{ℕ, List, ◌++◌, take}
use Rattle.ami_text.specs.FirstMessages.{HasSent}
use Rattle.ami_text.proofs.first_message_so_far.FirstMessageSoFar.after.Given as goal

-- the state is that of the bytes so far
abbrev pub invariant-loop-byte : goal.invariant-loop-byte
invariant-loop-byte l = (sent : List ℕ) → HasSent sent l.fn.self → HasSent (sent ++ take l.byte-index l.bytes) l.message
