use Rattle.std.proofs.Common.{◌≤◌, ◌≢◌, [], inl, List, Some, length, map as each, refl, sym, ap, subst, ◌∙◌}
use Rattle.dots.specs.declared.limits.TheConstants.{MOST_LIVE}
use Rattle.dots.specs.Values.{Dot}
use Rattle.std.specs.FinSet as set
use Rattle.member_orset.specs.Members.{dot_view_of}
use Rattle.replica.specs.Changes.{RemoveMember}
use Rattle.replica.specs.Commands.{MayWantMemory}
use Rattle.replica.specs.Planning.{IsPlan}
use Rattle.replica.specs.Site.{meaning_at}
use Rattle.replica.specs.SiteViews.{dots_seen}
use Rattle.replica.proofs.PlannedWrites.{remove_means, remove_plan, remove_wants, seen_few, some_seen}
use Rattle.replica.proofs.replica.Replica.plan_remove.Goals as goal

pub removed-requires : goal.removed-requires
removed-requires c =
    let are = c.deref.ensures.value ∙ c.in-Ok.ensures.list ∙ ap (λ m. each (λ p. p.0) (dots_seen (dot_view_of m) (Some c.in-Some.number) c.args.interface.now)) c.members-members.ensures.value in
    subst (λ (dots : List Dot). length dots ≤ MOST_LIVE) (sym are) (seen_few _ c.self.invariant.kept c.self.invariant.state_limits (Some c.in-Some.number) c.args.interface.now)

-- some dots were seen if their list ran out of memory
pub returns-in_default-seen_dots : goal.returns-in_default-seen_dots
returns-in_default-seen_dots c =
    let some = subst (λ m. dots_seen (dot_view_of m) (Some c.in-Some.number) c.args.interface.now ≢ []) c.members-members.ensures.value c.in_default-seen_dots.ensures.some in
    inl (
      refl,
      subst (λ s. MayWantMemory (meaning_at s (RemoveMember c.args.queue.now c.args.interface.now))) c.self.view_is
          (remove_wants _ c.self.invariant.kept c.self.invariant.state_limits (Some c.in-Some.number) c.args.interface.now _
          (remove_means _ c.self.invariant.kept c.args.queue.now c.args.interface.now c.in-Some.number (sym c.position.ensures.number ∙ c.in-Some.is)) some),
    )

-- some dots were seen if the change ran out of memory
pub returns : goal.returns
returns c =
    let are = c.deref.ensures.value ∙ c.in-Ok.ensures.list ∙ ap (λ m. each (λ p. p.0) (dots_seen (dot_view_of m) (Some c.in-Some.number) c.args.interface.now)) c.members-members.ensures.value in
    inl (
      refl,
      subst (λ s. MayWantMemory (meaning_at s (RemoveMember c.args.queue.now c.args.interface.now))) c.self.view_is
          (remove_wants _ c.self.invariant.kept c.self.invariant.state_limits (Some c.in-Some.number) c.args.interface.now _
          (remove_means _ c.self.invariant.kept c.args.queue.now c.args.interface.now c.in-Some.number (sym c.position.ensures.number ∙ c.in-Some.is))
          (some_seen _ c.deref.result.now _ c.is_empty.result are c.deref.ensures.len c.is_empty.ensures c.if-is_empty.false)),
    )

pub returns-in-Ok-removed : goal.returns-in-Ok-removed
returns-in-Ok-removed c =
    let are = c.deref.ensures.value ∙ c.in-Ok.ensures.list ∙ ap (λ m. each (λ p. p.0) (dots_seen (dot_view_of m) (Some c.in-Some.number) c.args.interface.now)) c.members-members.ensures.value in
    subst (λ s. IsPlan s (meaning_at s (RemoveMember c.args.queue.now c.args.interface.now)) (record { change = c.in-Ok-removed.change; count = c.self.inside.count; time = c.self.inside.time })) c.self.view_is
    (remove_plan _ c.self.invariant.kept c.self.invariant.state_limits (Some c.in-Some.number) c.args.interface.now _ (record { change = c.in-Ok-removed.change; count = c.self.inside.count; time = c.self.inside.time })
    (remove_means _ c.self.invariant.kept c.args.queue.now c.args.interface.now c.in-Some.number (sym c.position.ensures.number ∙ c.in-Some.is))
    (some_seen _ c.deref.result.now _ c.is_empty.result are c.deref.ensures.len c.is_empty.ensures c.if-is_empty.false)
    refl refl
    (record {
      known = c.in-Ok-removed.ensures.parts.known ∙ ap set.from_list are;
      live = c.in-Ok-removed.ensures.parts.live;
      totals = c.in-Ok-removed.ensures.parts.totals;
      limits = c.in-Ok-removed.ensures.parts.limits;
    }))
