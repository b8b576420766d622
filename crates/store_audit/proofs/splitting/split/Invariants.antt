use Rattle.std.proofs.Common.{◌≡◌, map}
use Rattle.store_audit.specs.Stores.{journals_of}
use Rattle.store_audit.proofs.splitting.split.Given as goal

-- the stores so far were taken apart
abbrev pub invariant-loop-store : goal.invariant-loop-store
invariant-loop-store l = record {
  journals : l.parts.journals.items ≡ journals_of l.yielded;
  positions : map (λ p. p.items) l.parts.positions.items ≡ map (λ store. store.positions.items) l.yielded;
}
