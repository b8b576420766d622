use Rattle.std.proofs.Common.{◌≡◌, vec_len}
use Rattle.server.proofs.sharing.bells_of.Given as goal

abbrev pub invariant-loop-i : goal.invariant-loop-i
invariant-loop-i l = vec_len l.bells ≡ l._i
