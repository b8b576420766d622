use Rattle.std.proofs.Common.{length, ◌-◌, ◌≡◌, ◌≤◌, ◌++◌, take, drop}
use Rattle.site_journal.specs.Settling.{receipts_of}
use Rattle.site_journal.proofs.settling.is_list_of.Given as goal

-- what was compared so far is equal
abbrev pub invariant-loop-at : goal.invariant-loop-at
invariant-loop-at l = record {
  within : l.next ≤ length l.list;
  so_far : receipts_of l.pass 0 l.steps ≡ take l.next l.list ++ receipts_of l.pass l.at (drop l.at l.steps);
}

abbrev pub decreases-loop-at : goal.decreases-loop-at
decreases-loop-at l = length l.steps - l.at
