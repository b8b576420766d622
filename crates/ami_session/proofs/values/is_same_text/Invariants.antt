use Rattle.std.proofs.Common.{◌≡◌, ◌&&◌, length}
use Rattle.std.specs.Str.{bytes_eq}
use Rattle.ami_session.proofs.values.is_same_text.Given as goal

-- the texts are the same where they were so far, and what is left of them is
abbrev pub invariant-loop-byte : goal.invariant-loop-byte
invariant-loop-byte l = bytes_eq l.fn.one l.fn.other ≡ (l.is_same && bytes_eq l.left l.right)

abbrev pub decreases-loop-byte : goal.decreases-loop-byte
decreases-loop-byte l = length l.left
