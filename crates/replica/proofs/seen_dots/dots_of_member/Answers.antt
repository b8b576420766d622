use Rattle.std.proofs.Common.{ℕ, List, ◌++◌, sym, ◌∙◌}
use Rattle.dots.specs.declared.member.Member.{Member}
use Rattle.operations.specs.Rows.{dots_of}
use Rattle.member_orset.specs.Members.{dot_view_of}
use Rattle.replica.proofs.SeenOnce.{dots_paired}
use Rattle.replica.proofs.seen_dots.dots_of_member.Goals as goal

pub returns-clause-list : goal.returns-clause-list
returns-clause-list c =
    let r = dot_view_of c.args.members.now in
    let member = λ (interface : List ℕ). let m : Member = record { queue = c.args.queue; interface = interface } in m in
    let mine = member c.args.interface.now in
    c.in_ok-push_dots.ensures.list
    ∙ (λ i. c.new-list.ensures.items i ++ dots_of r (member (c.copy.ensures i)))
    ∙ sym (dots_paired mine (dots_of r mine))
