use Rattle.std.proofs.Common.{◌≡◌, ◌≤◌, ◌+◌, ◌++◌, length, drop, take, vec_len, rules, arith, ap, sym, subst, ◌∙◌}
use Rattle.std.proofs.lemmas.Grind.{common_steps}
use Rattle.std.proofs.lemmas.List.{length-append, length-drop, length-take}
use Rattle.std.specs.FinSet as sets
use Rattle.std.specs.List.{All}
use Rattle.std.specs.Vec.{vec_capacity}
use Rattle.dots.specs.DotSets.{AreApart, run_count, set_of}
use Rattle.dots.proofs.Runs.{set_of_runs}
use Rattle.general_lemmas.proofs.Fronts.{turned, written_back}
use Rattle.causal_context.specs.Contexts.{IsRunWithinLimits}
use Rattle.causal_context.specs.ListedRuns.{ArePlaces, AreRuns}
use Rattle.causal_context.proofs.Merging.{union_none}
use Rattle.causal_context.proofs.Views.{counted}
use Rattle.causal_context.proofs.run_list.RunList.absorb_walked.Goals as goal
use Rattle.causal_context.proofs.run_list.RunList.absorb_walked.Goals.{After-deref_mut}

pub returns-then-is_empty-clause-united : goal.returns-then-is_empty-clause-united
returns-then-is_empty-clause-united c =
    let none : length c.as_slice-others.result.now ≡ 0 = grind arith in
    union_none c.args.self.now.items c.args.other.now.items (omega (arith, none, ap length c.as_slice-others.ensures.value))

-- what stands in the places before the merge
module _ (c : After-deref_mut) where
  grown : c.extend_from_slice.new.self.items ≡ c.self.inside.runs.items ++ c.as_slice-others.result.now
  grown =
      let ours = counted c.self.inside.runs.items c.self.invariant.apart in
      let others = counted c.as_slice-others.result.now c.as_slice-others.ensures.runs.apart in
      let seen = ap (λ l. run_count (set_of l.items)) c.self.view_is in
      let seen_others = ap (λ rs. run_count (set_of rs)) c.as_slice-others.ensures.value in
      let capacity : vec_capacity c.self.inside.runs ≡ c.args.self.now.room = ap (λ l. l.room) c.self.view_is in
      let len : vec_len c.self.inside.runs ≡ length c.self.inside.runs.items = search rules in
      let room : vec_len c.self.inside.runs + length c.as_slice-others.result.now ≤ vec_capacity c.self.inside.runs = omega (arith, c.requires, ours, others, seen, seen_others, capacity, len) in
      grind (arith, common_steps, room)

  places : c.deref_mut.result.now ≡ drop c.len-own.result (c.self.inside.runs.items ++ c.as_slice-others.result.now) ++ take c.len-own.result (c.self.inside.runs.items ++ c.as_slice-others.result.now)
  places = c.deref_mut.ensures.value ∙ c.rotate_left.ensures.items ∙ (λ i. drop c.len-own.result (grown i) ++ take c.len-own.result (grown i))

  kept : drop (length c.as_slice-others.result.now) c.deref_mut.result.now ≡ c.self.inside.runs.items
  kept =
      let own : c.len-own.result ≡ length c.self.inside.runs.items = search rules in
      turned c.self.inside.runs.items c.as_slice-others.result.now c.deref_mut.result.now c.len-own.result own places

pub merge-united-requires : goal.merge-united-requires
merge-united-requires c =
    let old = c.self.inside.runs.items in
    let others = c.as_slice-others.result.now in
    let whole : length c.deref_mut.result.now ≡ length old + length others = simp (places c) (omega (arith, length-append (drop c.len-own.result (old ++ others)) (take c.len-own.result (old ++ others)), length-drop c.len-own.result (old ++ others), length-take c.len-own.result (old ++ others), length-append old others)) in
    subst (λ xs. ArePlaces c.deref_mut.result.now xs) c.as_slice-others.ensures.value
    (record { free = omega (arith, whole); ours = subst AreRuns (sym (kept c)) c.self.invariant })

pub invariant_of-self : goal.invariant_of-self
invariant_of-self c =
    let same : c.truncate.new.self.items ≡ take c.merge-united.result c.merge-united.new.places = c.truncate.ensures.items ∙ written_back _ _ _ _ (omega arith) (omega arith) in
    record {
      apart = subst AreApart (sym same) c.merge-united.ensures.united.apart;
      limits = subst (All IsRunWithinLimits) (sym same) c.merge-united.ensures.limits;
    }

pub returns-clause-united : goal.returns-clause-united
returns-clause-united c =
    let old = c.self.inside.runs.items in
    let new = c.truncate.new.self.items in
    let same : new ≡ take c.merge-united.result c.merge-united.new.places = c.truncate.ensures.items ∙ written_back _ _ _ _ (omega arith) (omega arith) in
    let left : drop (length c.args.other.now.items) c.deref_mut.result.now ≡ old = subst (λ xs. drop (length xs) c.deref_mut.result.now ≡ old) c.as_slice-others.ensures.value (kept (goal.at.returns-clause-united c).After-deref_mut) in
    ap set_of same ∙ set_of_runs _ _ c.merge-united.ensures.united ∙ ap (λ rs. sets.union (set_of rs) (set_of c.args.other.now.items)) left
    ∙ ap (λ l. sets.union (set_of l.items) (set_of c.args.other.now.items)) c.self.view_is
