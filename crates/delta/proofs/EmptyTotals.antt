-- Totals that are empty: there is always room for them.
use Rattle.std.proofs.Common.{◌≡◌, map as each, is_none, ap, arith}
use Rattle.std.specs.FinMap as map
use Rattle.std.specs.List.{count_by}
use Rattle.operations.specs.Totals.{Entries, count_missing}
use Rattle.operations.proofs.TotalsLaws.{entries_empty}
use Rattle.site_totals.specs.Tally.{Tally, HasRoomFor}

none_missing : (x : Entries) → count_missing x map.empty ≡ 0
none_missing x = ap (λ es. count_by (λ key. is_none (map.get x key)) (each (λ e. e.0) es)) entries_empty

pub room_for_nothing : (t : Tally) (e : Entries) → e ≡ map.empty → HasRoomFor t e
room_for_nothing t e h = omega (arith, ap (count_missing t.entries) h, none_missing t.entries)
