-- All sites up to the one at hand are gathered.
use Rattle.std.proofs.Common.{◌≤◌, ◌*◌, ◌^◌}
use Rattle.live_cells.specs.PlacedLists.{is_placed}
use Rattle.member_orset.specs.Reads.{seen_dots}
use Rattle.member_orset.specs.Gathering.{IsGathered, part_before}
use Rattle.member_orset.proofs.seen.gather.Given as goal

abbrev pub invariant-loop-number : goal.invariant-loop-number
invariant-loop-number l = record {
  few : l.gathered.runs ≤ l.number * 2 ^ 41;
  gathered : IsGathered l.gathered (part_before (seen_dots l.context.dots (is_placed l.dots.list.now) l.given.list.now) l.number 0);
}
