use Rattle.std.proofs.Common.{rules, ◌≡◌, ◌∙◌, ◌+◌, ◌≤◌, Some, ap, arith, slice_get, subst, vec_capacity, vec_len}
use Rattle.site_worker.specs.WorkTasks.{FirstHasGate, IsRunOf}
use Rattle.site_worker.specs.declared.ends.TheConstants.{MOST_RUN_PASSES}
use Rattle.site_worker.proofs.Ended.{front_each, no_element, one_of}
use Rattle.site_worker.proofs.PlaceLemmas.{each_itself, each_pop}
use Rattle.site_worker.proofs.ends.runs_of.Goals as goal

-- no runs yet, and all ends are left
pub loop-end-init : goal.loop-end-init
loop-end-init g c = (
  omega (arith, c.requires.no_ends),
  c.requires.ends,
  c.requires.number,
  c.requires.gates,
  c.requires.passes,
  c.requires.none,
  c.requires.lists,
  each_itself c.args.ends.items,
  (λ k run end at there. no_element c.args.room.ends.items k run (omega (arith, c.requires.no_ends, c.args.room.ends.ok.0)) at),
)

-- the last end has a gate
pub run_of-requires-clause-gate : goal.run_of-requires-clause-gate
run_of-requires-clause-gate g c = λ _ _.
    (each_pop (λ k end. FirstHasGate end.outputs.items) c.loop-end.ends.items c.pop.new.self.items c.in-Some.end c.in-Some.ensures.items c.loop-end.invariant.3).1

-- the last room has no list yet
pub run_of-requires-clause-none : goal.run_of-requires-clause-none
run_of-requires-clause-none g c = λ _ _.
    (each_pop (λ k lists. vec_len lists ≡ 0) c.loop-end.receipts.items c.pop-in-Some.new.self.items c.in-Some-pop.lists c.in-Some-pop.ensures.items c.loop-end.invariant.5).1

-- the last room is for a list of each output
pub run_of-requires-clause-room : goal.run_of-requires-clause-room
run_of-requires-clause-room g c = λ _ _.
    let few = (each_pop (λ k end. vec_len end.outputs ≤ MOST_RUN_PASSES) c.loop-end.ends.items c.pop.new.self.items c.in-Some.end c.in-Some.ensures.items c.loop-end.invariant.4).1 in
    let room = (each_pop (λ k lists. MOST_RUN_PASSES ≤ vec_capacity lists) c.loop-end.receipts.items c.pop-in-Some.new.self.items c.in-Some-pop.lists c.in-Some-pop.ensures.items c.loop-end.invariant.6).1 in
    omega (arith, few, room)

-- one run more
pub loop-end-preserved : goal.loop-end-preserved
loop-end-preserved g c =
    let was = c.loop-end.invariant in
    let less = c.in-Some.ensures.cases in
    let fewer = c.in-Some-pop.ensures.cases in
    let first = each_pop (λ k end. FirstHasGate end.outputs.items) c.loop-end.ends.items c.pop.new.self.items c.in-Some.end c.in-Some.ensures.items was.3 in
    let few = each_pop (λ k end. vec_len end.outputs ≤ MOST_RUN_PASSES) c.loop-end.ends.items c.pop.new.self.items c.in-Some.end c.in-Some.ensures.items was.4 in
    let none = each_pop (λ k lists. vec_len lists ≡ 0) c.loop-end.receipts.items c.pop-in-Some.new.self.items c.in-Some-pop.lists c.in-Some-pop.ensures.items was.5 in
    let room = each_pop (λ k lists. MOST_RUN_PASSES ≤ vec_capacity lists) c.loop-end.receipts.items c.pop-in-Some.new.self.items c.in-Some-pop.lists c.in-Some-pop.ensures.items was.6 in
    let kept = each_pop (λ place end. slice_get c.args.ends.items place ≡ Some end) c.loop-end.ends.items c.pop.new.self.items c.in-Some.end c.in-Some.ensures.items was.7 in (
      omega (arith, c.insert_with_room.ensures.len, was.0, less),
      (let e = c.insert_with_room.ensures.capacity in omega (arith, e, was.1)),
      omega (arith, was.2, less, fewer),
      first.0,
      few.0,
      none.0,
      room.0,
      kept.0,
      λ k run end at there. front_each (λ j run. (end : _) → slice_get c.args.ends.items (vec_len c.pop.new.self + j) ≡ Some end → IsRunOf end run)
          c.loop-end.runs.items c.insert_with_room.new.list.items c.run_of.result c.insert_with_room.ensures.items
          (λ end there. let same : c.in-Some.end ≡ end = one_of c.args.ends.items (vec_len c.pop.new.self) c.in-Some.end end (ap (slice_get c.args.ends.items) c.pop.new.self.ok.0 ∙ kept.1)
          (ap (slice_get c.args.ends.items) (omega arith) ∙ there) in subst (λ e. IsRunOf e c.run_of.result) same c.run_of.ensures)
          (λ j run at end there. was.8 j run end at (ap (slice_get c.args.ends.items) (omega (arith, less)) ∙ there))
          k run at end there,
    )

pub returns : goal.returns
returns g c = let was = c.loop-end.invariant in let none : vec_len c.loop-end.ends ≡ 0 = search rules in record {
  number = omega (arith, was.0, none, c.args.ends.ok.0, c.loop-end.runs.ok.0, c.loop-end.ends.ok.0);
  each = λ site end run at there. was.8 site run end there (ap (slice_get c.args.ends.items) (omega (arith, none, c.loop-end.ends.ok.0)) ∙ at);
}
