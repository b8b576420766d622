use Rattle.std.proofs.Common.{◌≡◌, ◌-◌, ◌^◌, min, sum_by, take}
use Rattle.site_store.specs.Restored.{body_bytes}
use Rattle.site_store.proofs.restoring.body_bytes.Given as goal

-- the bytes of the rows up to this one
abbrev pub invariant-loop-row : goal.invariant-loop-row
invariant-loop-row l = l.bytes ≡ min (sum_by body_bytes (take l.row-index l.rows)) (2 ^ 64 - 1)
