use Rattle.std.proofs.Common.{◌≡◌, ◌↔◌, ℕ, ◌<◌, ◌≤◌, slice_index_or}
use Rattle.link_keys.proofs.comparing.same_bytes.Given as goal

-- so far no byte differs exactly where none was counted
abbrev pub invariant-bytes : goal.invariant-bytes
invariant-bytes l = (l.differing ≤ l.i) × ((l.differing ≡ 0) ↔ ((k : ℕ) (none : ℕ) → k < l.i → slice_index_or l.one k none ≡ slice_index_or l.other k none))
