-- What callers read of a set: cells that are borrowed, and the dots seen below given ones.
use Rattle.std.specs.Prelude.{Bool, not, ◌&&◌, List}
use Rattle.std.specs.FinMap as map
use Rattle.std.specs.FinSet as set
use Rattle.dots.specs.Values.{Dot}
use Rattle.dots.specs.Orders.{dot_cmp}
use Rattle.dots.specs.DotSets.{is_older}
use Rattle.member_orset.specs.Members.{Members}
pub use Rattle.live_cells.specs.Holdings.{cell_read}

-- given dots, with the dead ones that are older: known, and not live
unfoldable pub seen_dots : set.FinSet dot_cmp → (Dot → Bool) → List Dot → set.FinSet dot_cmp
seen_dots known live given =
    set.union (set.from_list given)
    (set.retain known (λ dot. not (live dot) && is_older given dot))

-- the dots that a set has seen below given ones: these, with all dots that are dead in the set and
-- older
abbrev pub dots_seen_below : Members → List Dot → set.FinSet dot_cmp
dots_seen_below s given = seen_dots s.known (map.contains_key s.live) given
