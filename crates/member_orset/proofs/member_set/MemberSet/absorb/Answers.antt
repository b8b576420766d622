use Rattle.std.proofs.Common.{◌≡◌, sym, ap, subst, ◌∙◌}
use Rattle.std.specs.FinMap as map
use Rattle.std.specs.FinSet as set
use Rattle.dots.specs.Orders.{dot_cmp}
use Rattle.live_cells.specs.CellIds.{IdsFollow}
use Rattle.member_orset.specs.Joining.{EntriesAgree, IsJoinedWith}
use Rattle.member_orset.specs.Members.{IsSet, Members, condition_at, AreOfTheDead}
use Rattle.member_orset.proofs.Absorbing.{conditions_after, dead_after, follow_after, held_after, left_agrees}
use Rattle.member_orset.proofs.member_set.MemberSet.absorb.Goals as goal
use Rattle.live_cells.specs.LiveStates.{IsThinned, dead_there}
use Rattle.live_cells.specs.Holdings.{Holding}

pub take_all-requires-clause-agree : goal.take_all-requires-clause-agree
take_all-requires-clause-agree c =
    let s = c.args.self.now in
    let t = c.args.other in
    let live : c.other.inside.cells.live ≡ t.live = ap (λ (x : Members). x.live) c.other.view_is in
    subst (λ (m : map.FinMap dot_cmp Holding). EntriesAgree c.drop_dead.new.cells.live (map.entries m)) (sym live)
    (left_agrees s t
    (λ q h e. ap (λ (x : Members). set.contains x.known q) (sym c.self.view_is) ∙ c.self.invariant.kept.heard q h (ap (λ (x : Members). map.get x.live q) c.self.view_is ∙ e))
    (λ q h e. ap (λ (x : Members). set.contains x.known q) (sym c.other.view_is) ∙ c.other.invariant.kept.heard q h (ap (λ (x : Members). map.get x.live q) c.other.view_is ∙ e))
    c.self.inside.cells c.drop_dead.new.cells (ap (λ (x : Members). x.live) c.self.view_is)
    (subst (λ (x : Members). IsThinned (dead_there x.known x.live) c.self.inside.cells c.drop_dead.new.cells) c.other.view_is c.drop_dead.ensures) c.requires.agree)

pub invariant_of-self : goal.invariant_of-self
invariant_of-self c =
    let s = c.args.self.now in
    let t = c.args.other in
    let live : c.other.inside.cells.live ≡ t.live = ap (λ (x : Members). x.live) c.other.view_is in
    let known : c.self.inside.context.dots ≡ s.known = ap (λ (x : Members). x.known) c.self.view_is in
    let after = c.take_all.new.cells in
    subst (λ (k : set.FinSet dot_cmp). IsSet k after.live after.spent) (sym (c.absorb.ensures.dots ∙ (λ i. set.union (c.self.view_is i).known (c.other.view_is i).known))) (record {
      kept = held_after s t
          (λ q h e. ap (λ (x : Members). set.contains x.known q) (sym c.self.view_is) ∙ c.self.invariant.kept.heard q h (ap (λ (x : Members). map.get x.live q) c.self.view_is ∙ e))
          (λ q h e. ap (λ (x : Members). set.contains x.known q) (sym c.other.view_is) ∙ c.other.invariant.kept.heard q h (ap (λ (x : Members). map.get x.live q) c.other.view_is ∙ e))
          c.self.inside.cells c.drop_dead.new.cells (ap (λ (x : Members). x.live) c.self.view_is)
          (subst (λ (x : Members). IsThinned (dead_there x.known x.live) c.self.inside.cells c.drop_dead.new.cells) c.other.view_is c.drop_dead.ensures) c.take_all.new.cells
          (subst (λ (m : map.FinMap dot_cmp Holding). IsJoinedWith (set.contains s.known) c.drop_dead.new.cells m c.take_all.new.cells) live
          (subst (λ (k : set.FinSet dot_cmp). IsJoinedWith (set.contains k) c.drop_dead.new.cells c.other.inside.cells.live c.take_all.new.cells) known c.take_all.ensures))
          (λ q h e. c.self.invariant.kept.set q h (ap (λ (x : Members). map.get x.live q) c.self.view_is ∙ e)) (λ q h e. c.other.invariant.kept.set q h (ap (λ (x : Members). map.get x.live q) c.other.view_is ∙ e)) c.requires.cells;
      dead = dead_after s t
          (λ q h e. ap (λ (x : Members). set.contains x.known q) (sym c.self.view_is) ∙ c.self.invariant.kept.heard q h (ap (λ (x : Members). map.get x.live q) c.self.view_is ∙ e))
          (λ q h e. ap (λ (x : Members). set.contains x.known q) (sym c.other.view_is) ∙ c.other.invariant.kept.heard q h (ap (λ (x : Members). map.get x.live q) c.other.view_is ∙ e))
          c.self.inside.cells c.drop_dead.new.cells (ap (λ (x : Members). x.live) c.self.view_is)
          (subst (λ (x : Members). IsThinned (dead_there x.known x.live) c.self.inside.cells c.drop_dead.new.cells) c.other.view_is c.drop_dead.ensures) c.take_all.new.cells
          (subst (λ (m : map.FinMap dot_cmp Holding). IsJoinedWith (set.contains s.known) c.drop_dead.new.cells m c.take_all.new.cells) live
          (subst (λ (k : set.FinSet dot_cmp). IsJoinedWith (set.contains k) c.drop_dead.new.cells c.other.inside.cells.live c.take_all.new.cells) known c.take_all.ensures))
          c.len.ensures.limits.named c.len-2.ensures.limits.named
          (subst (λ (k : set.FinSet dot_cmp). AreOfTheDead k (map.contains_key c.self.inside.cells.live) c.self.inside.cells.spent) known c.self.invariant.dead);
    })

pub returns-clause-joined : goal.returns-clause-joined
returns-clause-joined c =
    let s = c.args.self.now in
    let t = c.args.other in
    let live : c.other.inside.cells.live ≡ t.live = ap (λ (x : Members). x.live) c.other.view_is in
    let known : c.self.inside.context.dots ≡ s.known = ap (λ (x : Members). x.known) c.self.view_is in
    let dots = c.absorb.ensures.dots ∙ (λ i. set.union (c.self.view_is i).known (c.other.view_is i).known) in
    record {
      known = dots;
      conditions = λ q. ap (λ k. condition_at (map.get c.take_all.new.cells.live q) (set.contains k q)) dots
          ∙ conditions_after s t
          (λ q h e. ap (λ (x : Members). set.contains x.known q) (sym c.self.view_is) ∙ c.self.invariant.kept.heard q h (ap (λ (x : Members). map.get x.live q) c.self.view_is ∙ e))
          (λ q h e. ap (λ (x : Members). set.contains x.known q) (sym c.other.view_is) ∙ c.other.invariant.kept.heard q h (ap (λ (x : Members). map.get x.live q) c.other.view_is ∙ e))
          c.self.inside.cells c.drop_dead.new.cells (ap (λ (x : Members). x.live) c.self.view_is)
          (subst (λ (x : Members). IsThinned (dead_there x.known x.live) c.self.inside.cells c.drop_dead.new.cells) c.other.view_is c.drop_dead.ensures) c.take_all.new.cells
          (subst (λ (m : map.FinMap dot_cmp Holding). IsJoinedWith (set.contains s.known) c.drop_dead.new.cells m c.take_all.new.cells) live
          (subst (λ (k : set.FinSet dot_cmp). IsJoinedWith (set.contains k) c.drop_dead.new.cells c.other.inside.cells.live c.take_all.new.cells) known c.take_all.ensures)) q;
    }

pub returns-clause-ids : goal.returns-clause-ids
returns-clause-ids c =
    let s = c.args.self.now in
    let t = c.args.other in
    let live : c.other.inside.cells.live ≡ t.live = ap (λ (x : Members). x.live) c.other.view_is in
    let known : c.self.inside.context.dots ≡ s.known = ap (λ (x : Members). x.known) c.self.view_is in
    subst (λ (x : Members). IdsFollow x.ids x.spent c.take_all.new.cells.ids c.take_all.new.cells.spent) c.self.view_is
    (follow_after s t
    (λ q h e. ap (λ (x : Members). set.contains x.known q) (sym c.self.view_is) ∙ c.self.invariant.kept.heard q h (ap (λ (x : Members). map.get x.live q) c.self.view_is ∙ e))
    (λ q h e. ap (λ (x : Members). set.contains x.known q) (sym c.other.view_is) ∙ c.other.invariant.kept.heard q h (ap (λ (x : Members). map.get x.live q) c.other.view_is ∙ e))
    c.self.inside.cells c.drop_dead.new.cells (ap (λ (x : Members). x.live) c.self.view_is)
    (subst (λ (x : Members). IsThinned (dead_there x.known x.live) c.self.inside.cells c.drop_dead.new.cells) c.other.view_is c.drop_dead.ensures) c.take_all.new.cells
    (subst (λ (m : map.FinMap dot_cmp Holding). IsJoinedWith (set.contains s.known) c.drop_dead.new.cells m c.take_all.new.cells) live
    (subst (λ (k : set.FinSet dot_cmp). IsJoinedWith (set.contains k) c.drop_dead.new.cells c.other.inside.cells.live c.take_all.new.cells) known c.take_all.ensures)) c.len-2.ensures.limits.named)
