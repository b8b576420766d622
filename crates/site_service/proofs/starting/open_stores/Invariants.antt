use Rattle.std.specs.List.{All}
use Rattle.std.specs.VecDeque.{deque_capacity, deque_len}
use Rattle.std.proofs.Common.{◌≡◌, ◌≤◌}
use Rattle.launcher.specs.Places.{AtEach}
use Rattle.site_service.proofs.starting.open_stores.Given as goal

-- there are as many stores as numbers before this one, and the site of each has its number and the queues
abbrev pub invariant-loop-number : goal.invariant-loop-number
invariant-loop-number g l =
    (deque_len l.stores ≡ l.number)
    × (l.fn.settings.sites ≤ deque_capacity l.stores)
    × AtEach (λ place it. (g.D.StoreInFile.restored_site it.file).site ≡ place) l.stores.items
    × All (λ it. (g.D.StoreInFile.restored_site it.file).names ≡ l.fn.list) l.stores.items
    × All (λ it. g.D.StoreInFile.is_restored it.file) l.stores.items
