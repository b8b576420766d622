use Rattle.std.proofs.Common.{◌≡◌, ◌≢◌, ◌≤◌, ◌<◌, [], ◌+◌, ℕ, suc, max, List, All, true, length, map as each, Err, arith, refl, sym, ap, subst, inl, inr, ◌∙◌}
use Rattle.std.specs.FinMap as map
use Rattle.causal_context.specs.declared.context_fault.ContextFault.{ContextFault}
use Rattle.causal_context.specs.declared.context_fault.ContextFault.TheVariants.{RunsFull, Memory as NoMemory}
use Rattle.dots.specs.declared.limits.TheConstants.{MOST_LIVE, MOST_RUNS}
use Rattle.dots.specs.Values.{Dot, IsCount}
use Rattle.dots.specs.DotSets.{run_count}
use Rattle.member_orset.specs.Members.{dot_view_of}
use Rattle.member_orset.specs.Reads.{dots_seen_below}
use Rattle.replica.specs.declared.refusal.Refusal.TheVariants.{MembersFull}
use Rattle.replica.specs.Changes.{Refused, meaning_of_setting, time_replaced}
use Rattle.replica.specs.Commands.{IsRefusalOfWrites, MayWantMemory}
use Rattle.replica.specs.DotLists.{DotsRise}
use Rattle.replica.specs.Planning.{IsPlan, IsUnplanned}
use Rattle.replica.specs.SetFields.{fields_written}
use Rattle.replica.specs.Settings.{setting_of}
use Rattle.replica.specs.Site.{view_of}
use Rattle.replica.specs.SiteViews.{dots_seen, greatest}
use Rattle.replica.specs.Writing.{written_to}
use Rattle.replica.proofs.GreatestTimes.{greatest_firsts}
use Rattle.replica.proofs.PlannedWrites.{seen_few, some_seen, write_long, write_plan, write_reported, write_wants}
use Rattle.replica.proofs.SeenLists.{seen_all_live, seen_rise}
use Rattle.replica.proofs.replica.Replica.plan_write.Goals as goal

one : (n : ℕ) → n + 1 ≡ suc n
one n = omega arith

-- some dots were seen if their list ran out of memory
pub returns-in_default : goal.returns-in_default
returns-in_default c =
    let some = subst (λ m. dots_seen (dot_view_of m) c.args.queue c.args.interface.now ≢ []) c.members-members.ensures.value c.in_default.ensures.some in
    inl (
      refl,
      subst (λ s. MayWantMemory (meaning_of_setting s.site (view_of s s.state) (view_of s s.pending) (setting_of c.args.setting) (dots_seen (view_of s s.state).dots c.args.queue c.args.interface.now))) c.self.view_is
          (write_wants _ c.self.invariant.kept c.self.invariant.state_limits c.args.queue c.args.interface.now (setting_of c.args.setting) some),
    )

pub refuse_write-requires-clause-few : goal.refuse_write-requires-clause-few
refuse_write-requires-clause-few c =
    let are = c.deref-in_default-new.ensures.value ∙ c.in-Ok.ensures.list ∙ ap (λ m. each (λ p. p.0) (dots_seen (dot_view_of m) c.args.queue c.args.interface.now)) c.members-members.ensures.value in
    subst (λ (dots : List Dot). length dots ≤ MOST_LIVE) (sym are) (seen_few _ c.self.invariant.kept c.self.invariant.state_limits c.args.queue c.args.interface.now)

pub returns-in_default-new : goal.returns-in_default-new
returns-in_default-new c =
    let seen_are = ap (λ m. each (λ p. p.0) (dots_seen (dot_view_of m) c.args.queue c.args.interface.now)) c.members-members.ensures.value in
    let first = c.deref.ensures.value ∙ c.in-Ok.ensures.list ∙ seen_are in
    let time = ap (λ n. n + 1) (c.later-time.ensures ∙ (λ i. max c.self.inside.time ((c.latest_replaced.ensures.value
    ∙ (λ i. greatest (time_replaced (dot_view_of (c.members-members.ensures.value i)) (setting_of c.args.setting)) (first i))
    ∙ sym (greatest_firsts (time_replaced (dot_view_of c.self.inside.state.members) (setting_of c.args.setting)) (dots_seen (dot_view_of c.self.inside.state.members) c.args.queue c.args.interface.now))) i))) ∙ one _ in
    let some = some_seen (dots_seen (dot_view_of c.self.inside.state.members) c.args.queue c.args.interface.now) c.deref.result.now _ c.is_empty.result first c.deref.ensures.len c.is_empty.ensures c.if-is_empty.false in
    subst (λ s. IsUnplanned (meaning_of_setting s.site (view_of s s.state) (view_of s s.pending) (setting_of c.args.setting) (dots_seen (view_of s s.state).dots c.args.queue c.args.interface.now)) c.refuse_write.result) c.self.view_is
    (write_reported _ c.self.invariant.kept c.self.invariant.state_limits c.args.queue c.args.interface.now (setting_of c.args.setting) some c.deref-in_default-new.result.now c.refuse_write.result
    (c.deref-in_default-new.ensures.value ∙ c.in-Ok.ensures.list ∙ seen_are) (subst (λ s. IsRefusalOfWrites s c.deref-in_default-new.result.now c.refuse_write.result) (sym c.self.view_is) c.refuse_write.ensures)
    (λ is. absurd (let none = c.in_default-new.ensures.within.1 (subst IsCount (sym time) is) in cc)))

pub written-requires-clause-rise : goal.written-requires-clause-rise
written-requires-clause-rise c =
    let are = c.deref-2.ensures.value ∙ c.in-Ok.ensures.list ∙ ap (λ m. each (λ p. p.0) (dots_seen (dot_view_of m) c.args.queue c.args.interface.now)) c.members-members.ensures.value in
    subst DotsRise (sym are) (seen_rise (dot_view_of c.self.inside.state.members) c.args.queue c.args.interface.now)

pub written-requires-clause-live : goal.written-requires-clause-live
written-requires-clause-live c =
    let are = c.deref-2.ensures.value ∙ c.in-Ok.ensures.list in
    subst (λ (dots : List Dot). All (λ dot. map.contains_key c.members-members.result.now.live dot ≡ true) dots) (sym are) (seen_all_live c.members-members.result.now c.args.queue c.args.interface.now)

pub returns-in-Ok-written : goal.returns-in-Ok-written
returns-in-Ok-written c =
    let seen_are = ap (λ m. each (λ p. p.0) (dots_seen (dot_view_of m) c.args.queue c.args.interface.now)) c.members-members.ensures.value in
    let first = c.deref.ensures.value ∙ c.in-Ok.ensures.list ∙ seen_are in
    let time = ap (λ n. n + 1) (c.later-time.ensures ∙ (λ i. max c.self.inside.time ((c.latest_replaced.ensures.value
    ∙ (λ i. greatest (time_replaced (dot_view_of (c.members-members.ensures.value i)) (setting_of c.args.setting)) (first i))
    ∙ sym (greatest_firsts (time_replaced (dot_view_of c.self.inside.state.members) (setting_of c.args.setting)) (dots_seen (dot_view_of c.self.inside.state.members) c.args.queue c.args.interface.now))) i))) ∙ one _ in
    let some = some_seen (dots_seen (dot_view_of c.self.inside.state.members) c.args.queue c.args.interface.now) c.deref.result.now _ c.is_empty.result first c.deref.ensures.len c.is_empty.ensures c.if-is_empty.false in
    let are = c.deref-2.ensures.value ∙ c.in-Ok.ensures.list ∙ seen_are in
    subst (λ s. IsPlan s (meaning_of_setting s.site (view_of s s.state) (view_of s s.pending) (setting_of c.args.setting) (dots_seen (view_of s s.state).dots c.args.queue c.args.interface.now)) (record { change = c.in-Ok-written.change; count = c.self.inside.count; time = c.later-time.result + 1 })) c.self.view_is
    (write_plan _ c.self.invariant.kept c.self.invariant.state_limits c.args.queue c.args.interface.now (setting_of c.args.setting) some
    (record { change = c.in-Ok-written.change; count = c.self.inside.count; time = c.later-time.result + 1 }) (subst IsCount time (c.in-Some.ensures.within.0 refl)) refl time
    (record {
      known = c.in-Ok-written.ensures.parts.known ∙ (λ i. dots_seen_below (c.members-members.ensures.value i) (are i));
      live = λ q. c.in-Ok-written.ensures.parts.live q ∙ (λ i. written_to (c.members-members.ensures.value i) (are i) ((c.fields.ensures
          ∙ (λ j. fields_written (record { time = (c.in-Some.ensures.value.0 ∙ time) j; site = c.in-Some.ensures.value.1 j }) (setting_of c.args.setting))) i) q);
      totals = c.in-Ok-written.ensures.parts.totals;
      limits = c.in-Ok-written.ensures.parts.limits;
    }))

pub returns : goal.returns
returns c = by c.in-Err.fault refl
  where
    many : c.in-Err.fault ≡ RunsFull → MOST_RUNS < run_count (dots_seen_below c.self.inside.state.members (each (λ p. p.0) (dots_seen (dot_view_of c.self.inside.state.members) c.args.queue c.args.interface.now)))
    many is = subst (λ k. MOST_RUNS < run_count k)
        (λ i. dots_seen_below (c.members-members.ensures.value i)
        ((c.deref-2.ensures.value ∙ c.in-Ok.ensures.list ∙ ap (λ m. each (λ p. p.0) (dots_seen (dot_view_of m) c.args.queue c.args.interface.now)) c.members-members.ensures.value) i))
        (c.written.ensures.full.0 (c.in-Err.is ∙ ap Err is))

    some : dots_seen (dot_view_of c.self.inside.state.members) c.args.queue c.args.interface.now ≢ []
    some = some_seen (dots_seen (dot_view_of c.self.inside.state.members) c.args.queue c.args.interface.now) c.deref.result.now _ c.is_empty.result
        (c.deref.ensures.value ∙ c.in-Ok.ensures.list ∙ ap (λ m. each (λ p. p.0) (dots_seen (dot_view_of m) c.args.queue c.args.interface.now)) c.members-members.ensures.value) c.deref.ensures.len c.is_empty.ensures c.if-is_empty.false

    by : (fault : ContextFault) → c.in-Err.fault ≡ fault
        → IsUnplanned (meaning_of_setting c.args.self.now.site (view_of c.args.self.now c.args.self.now.state) (view_of c.args.self.now c.args.self.now.pending) (setting_of c.args.setting)
        (dots_seen (view_of c.args.self.now c.args.self.now.state).dots c.args.queue c.args.interface.now)) c.refusal_of_runs.result
    by NoMemory is = inl (
      c.refusal_of_runs.ensures.memory is,
      subst (λ s. MayWantMemory (meaning_of_setting s.site (view_of s s.state) (view_of s s.pending) (setting_of c.args.setting) (dots_seen (view_of s s.state).dots c.args.queue c.args.interface.now))) c.self.view_is
          (write_wants _ c.self.invariant.kept c.self.invariant.state_limits c.args.queue c.args.interface.now (setting_of c.args.setting) some),
    )
    by RunsFull is = inr
        (subst (λ s. meaning_of_setting s.site (view_of s s.state) (view_of s s.pending) (setting_of c.args.setting) (dots_seen (view_of s s.state).dots c.args.queue c.args.interface.now) ≡ Refused MembersFull) c.self.view_is
        (write_long _ c.self.invariant.kept c.self.invariant.state_limits c.args.queue c.args.interface.now (setting_of c.args.setting) some (many is))
        ∙ ap Refused (sym (c.refusal_of_runs.ensures.full is)))
