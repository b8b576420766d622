-- What lies before the count at hand is gathered, and it is known whether the dot before it is among it. The walk has come no
-- further, and goes over what it began with.
use Rattle.std.proofs.Common.{◌≡◌, ◌≤◌, ◌+◌, ◌-◌, ◌*◌, ◌^◌}
use Rattle.std.specs.FinSet as set
use Rattle.dots.specs.Orders.{dot_cmp}
use Rattle.dots.specs.DotSets.{IsRunsOf}
use Rattle.live_cells.specs.PlacedLists.{is_placed}
use Rattle.member_orset.specs.Gathering.{AreToName, IsGathered, part_before}
use Rattle.member_orset.proofs.site_walk.gather_site.Given as goal

abbrev pub invariant-loop-first : goal.invariant-loop-first
invariant-loop-first l = record {
  least : 1 ≤ l.first;
  most : l.first ≤ l.end + 1;
  few : l.gathered.runs ≤ l.fn.last.site * 2 ^ 41 + l.first;
  come : l.walk.from.count ≤ l.first;
  runs : l.walk.runs.list.now ≡ l.runs.list.now;
  dots : l.walk.dots.list.now ≡ l.dots.list.now;
  given : l.walk.given.list.now ≡ l.given.list.now;
  last : l.walk.last ≡ l.fn.last;
  before : (known dots : set.FinSet dot_cmp) → IsRunsOf l.runs.list.now known → AreToName known (is_placed l.dots.list.now) l.given.list.now l.fn.last.site l.fn.last.count dots
      → l.goes_on ≡ set.contains dots (record { site = l.fn.last.site; count = l.first - 1 });
  gathered : (known dots : set.FinSet dot_cmp) → IsRunsOf l.runs.list.now known → AreToName known (is_placed l.dots.list.now) l.given.list.now l.fn.last.site l.fn.last.count dots
      → IsGathered l.fn.gathered (part_before dots l.fn.last.site 0) → IsGathered l.gathered (part_before dots l.fn.last.site l.first);
}

abbrev pub decreases-loop-first : goal.decreases-loop-first
decreases-loop-first l = (l.end + 1) - l.first
