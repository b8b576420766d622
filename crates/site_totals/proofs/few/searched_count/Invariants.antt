-- The keys are counted that are missing of the others so far.
use Rattle.std.proofs.Common.{◌≡◌, is_none, take}
use Rattle.std.specs.List.{count_by}
use Rattle.std.specs.FinMap as map
use Rattle.operations.specs.Totals.{key_cmp}
use Rattle.site_totals.specs.TotalLists.{Row}
use Rattle.site_totals.proofs.few.searched_count.Given as goal

abbrev pub invariant-loop-row : goal.invariant-loop-row
invariant-loop-row l = l.count ≡ count_by (λ (row : Row). is_none (map.find key_cmp row.0 l.rows)) (take l.row-index l.others)
