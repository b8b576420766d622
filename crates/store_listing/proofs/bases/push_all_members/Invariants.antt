use Rattle.std.proofs.Common.{◌≡◌, ◌++◌}
use Rattle.store_listing.proofs.Members.{members_up_to}
use Rattle.store_listing.proofs.bases.push_all_members.Given as goal

-- the queues up to this number are written
abbrev pub invariant-loop-number : goal.invariant-loop-number
invariant-loop-number l = l.line.items ≡ l.initial.line.items ++ members_up_to l.replica l.number
