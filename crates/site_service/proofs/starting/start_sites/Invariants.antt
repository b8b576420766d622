use Rattle.std.specs.List.{All}
use Rattle.std.specs.VecDeque.{deque_len}
use Rattle.std.proofs.Common.{◌≡◌, ◌≤◌, ◌+◌, ◌++◌, IsTrue, map, vec_capacity, vec_len}
use Rattle.site_service.proofs.starting.start_sites.Given as goal

-- the sites that have started, and then those of the stores that are left, are those of all stores
abbrev pub invariant-loop-opened : goal.invariant-loop-opened
invariant-loop-opened g l =
    (vec_len l.sites + deque_len l.stores ≡ deque_len l.fn.stores)
    × (deque_len l.fn.stores ≤ vec_capacity l.sites)
    × (map (λ it. it.replica) l.sites.items ++ map (λ it. g.D.StoreInFile.restored_site it.file) l.stores.items ≡ map (λ it. g.D.StoreInFile.restored_site it.file) l.fn.stores.items)
    × All (λ it. g.D.StoreInFile.is_restored it.file) l.stores.items
    × All (λ it. IsTrue l.fn.keeps → g.D.StoreInFile.keeps_rows it.store) l.sites.items

abbrev pub decreases-loop-opened : goal.decreases-loop-opened
decreases-loop-opened g l = deque_len l.stores
