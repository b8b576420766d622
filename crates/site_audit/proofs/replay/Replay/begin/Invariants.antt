use Rattle.std.proofs.Common.{◌≡◌, ℕ, length, slice_get, Some}
use Rattle.site_audit.proofs.replay.Replay.begin.Given as goal

-- there are as many places as sites so far, with no step given at each
abbrev pub invariant-loop : goal.invariant-loop
invariant-loop l = record { count : length l.at.items ≡ l.counter; zeros : (site n : ℕ) → slice_get l.at.items site ≡ Some n → n ≡ 0 }
