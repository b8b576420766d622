use Rattle.std.proofs.Common.{◌≡◌, ◌≤◌, ◌-◌, true, length}
use Rattle.std.specs.List.{AllWithin}
use Rattle.std.specs.Ordering.{is_le}
use Rattle.dots.specs.Orders.{member_cmp}
use Rattle.live_cells.specs.PlacedStates.{listed_at}
use Rattle.live_cells.proofs.member_index.MemberIndex.end_of.Given as goal

-- the entries of the ids so far are of no greater member
abbrev pub invariant-loop-end : goal.invariant-loop-end
invariant-loop-end g l = record {
  order : l.known ≤ l.end;
  within : l.end ≤ length l.members;
  upto : AllWithin (λ x. is_le (member_cmp x.member l.member) ≡ true) (listed_at l.cells.held l.members) 0 l.end;
}

abbrev pub decreases-loop-end : goal.decreases-loop-end
decreases-loop-end g l = length l.members - l.end
