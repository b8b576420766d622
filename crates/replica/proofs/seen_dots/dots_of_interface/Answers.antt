use Rattle.std.proofs.Common.{subst}
use Rattle.std.specs.List.Sorted.{IsPermutation}
use Rattle.member_orset.specs.Members.{dot_view_of}
use Rattle.replica.proofs.SeenLists.{by_queue, in_queues, none_below, of_error}
use Rattle.replica.proofs.seen_dots.dots_of_interface.Goals as goal

pub returns-clause-list : goal.returns-clause-list
returns-clause-list c =
    let sorted = c.sort_unstable.new.self.items in
    by_queue (dot_view_of c.args.members.now) c.args.interface.now c.args.queues (in_queues c.args.members.now c.args.queues c.requires) sorted
    (subst (λ dots. IsPermutation dots sorted) c.in_ok-list.ensures.list c.sort_unstable.ensures.permutation) c.sort_unstable.ensures.sorted

pub returns-in_err-list-clause-some : goal.returns-in_err-list-clause-some
returns-in_err-list-clause-some c =
    of_error c.from_residual.result _ (λ none. c.in_err-list.ensures.some (none_below (dot_view_of c.args.members.now) c.args.interface.now c.args.queues none))
