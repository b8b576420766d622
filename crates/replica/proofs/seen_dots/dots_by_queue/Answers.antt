use Rattle.std.proofs.Common.{◌≡◌, List, ◌++◌, ℕ, suc, ◌+◌, ap, ◌∙◌, arith}
use Rattle.dots.specs.declared.member.Member.{Member}
use Rattle.operations.specs.Rows.{dots_of}
use Rattle.member_orset.specs.Members.{dot_view_of}
use Rattle.replica.specs.DotLists.{dots_below}
use Rattle.replica.proofs.SeenLists.{none_of_them, of_error}
use Rattle.replica.proofs.seen_dots.dots_by_queue.Goals as goal

pub loop-queue-init : goal.loop-queue-init
unfolding dots_below
loop-queue-init c = record { dots = c.new-list.ensures.items; interface = c.copy.ensures }

pub loop-queue-preserved : goal.loop-queue-preserved
unfolding dots_below
loop-queue-preserved c =
    let r = dot_view_of c.args.members.now in
    let of = λ (interface : List ℕ). let member : Member = record { queue = c.loop-queue.queue; interface = interface } in dots_of r member in
    let next : suc c.loop-queue.queue ≡ c.loop-queue.queue + 1 = omega arith in
    record {
      dots = c.in_ok-push_dots.ensures.list
          ∙ (λ i. c.loop-queue.invariant.dots i ++ of (c.loop-queue.invariant.interface i))
          ∙ ap (dots_below r c.args.interface.now) next;
      interface = c.loop-queue.invariant.interface;
    }

-- there is a dot in the queue if its list ran out of memory
pub returns-in_err-push_dots-clause-some : goal.returns-in_err-push_dots-clause-some
returns-in_err-push_dots-clause-some c =
    let r = dot_view_of c.args.members.now in
    let of = λ (interface : List ℕ). let member : Member = record { queue = c.loop-queue.queue; interface = interface } in dots_of r member in
    of_error c.from_residual.result _ (λ none. c.in_err-push_dots.ensures.some (ap of c.loop-queue.invariant.interface ∙ none_of_them r c.args.interface.now c.args.queues c.loop-queue.queue c.loop-queue-test.true none))
