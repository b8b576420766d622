use Rattle.std.proofs.Common.{not, sym, ap, ◌+◌, ◌∙◌}
use Rattle.std.specs.List.{count_by}
use Rattle.std.specs.FinMap as map
use Rattle.std.specs.FinSet as set
use Rattle.live_cells.specs.declared.placed.Placed.{Placed}
use Rattle.live_cells.specs.LiveStates.{dead_there}
use Rattle.member_orset.specs.Members.{Members}
use Rattle.member_orset.proofs.JoinedSets.{counted_joined}
use Rattle.member_orset.proofs.member_set.MemberSet.joined_cells.Goals as goal

pub returns : goal.returns
returns c =
    let s = c.args.self.now in
    let t = c.args.other.now in
    let ps = c.placed.result.list.now in
    let qs = c.placed-2.result.list.now in
    (λ i. c.count_kept-kept.ensures i + c.count_unknown.ensures.value i)
    ∙ (λ i. count_by (λ (p : Placed). not (dead_there (c.other.view_is i).known (c.other.view_is i).live p.dot)) ps + count_by (λ (p : Placed). not (set.contains (c.self.view_is i).known p.dot)) qs)
    ∙ sym (counted_joined s t
    (λ q h e. ap (λ (x : Members). set.contains x.known q) (sym c.self.view_is) ∙ c.self.invariant.kept.heard q h (ap (λ (x : Members). map.get x.live q) c.self.view_is ∙ e))
    (λ q h e. ap (λ (x : Members). set.contains x.known q) (sym c.other.view_is) ∙ c.other.invariant.kept.heard q h (ap (λ (x : Members). map.get x.live q) c.other.view_is ∙ e))
    ps qs c.placed.result.rise c.placed-2.result.rise
    ((λ i q. c.placed.ensures.dots q i) ∙ ap (λ (x : Members). map.contains_key x.live) c.self.view_is)
    ((λ i q. c.placed-2.ensures.dots q i) ∙ ap (λ (x : Members). map.contains_key x.live) c.other.view_is))
