use Rattle.std.specs.List.{All}
use Rattle.std.proofs.Common.{◌≡◌, ◌≤◌, vec_capacity, vec_len}
use Rattle.site_worker.specs.declared.ends.TheConstants.{MOST_RUN_PASSES}
use Rattle.site_worker.proofs.ends.room_for.Given as goal

-- there is room for the receipts of as many sites
abbrev pub invariant-loop-site : goal.invariant-loop-site
invariant-loop-site g l = (vec_len l.receipts ≡ l._site)
    × (l.sites ≤ vec_capacity l.receipts)
    × All (λ lists. vec_len lists ≡ 0) l.receipts.items
    × All (λ lists. MOST_RUN_PASSES ≤ vec_capacity lists) l.receipts.items
