-- The live dots of a set apart from others, and the dead dots of a site.
use Rattle.std.specs.Prelude.{ℕ, Bool, not, ◌&&◌, nat_eq}
use Rattle.std.specs.FinMap as map
use Rattle.std.specs.FinSet as set
use Rattle.dots.specs.Values.{Dot}
use Rattle.dots.specs.Orders.{dot_cmp}
use Rattle.member_orset.specs.Members.{Members}

-- the live dots of a set that are not among others
unfoldable pub live_dots_without : Members → set.FinSet dot_cmp → set.FinSet dot_cmp
live_dots_without s others = set.difference (set.from_list (map.keys s.live)) others

-- the dots of a site that are known and not live, from the known dots and the live ones
unfoldable pub dead_dots : set.FinSet dot_cmp → (Dot → Bool) → ℕ → set.FinSet dot_cmp
dead_dots known live site = set.retain known (λ dot. nat_eq dot.site site && not (live dot))

-- the dead dots of a site
abbrev pub dead_dots_of : Members → ℕ → set.FinSet dot_cmp
dead_dots_of s site = dead_dots s.known (map.contains_key s.live) site
