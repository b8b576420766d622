use Rattle.std.proofs.Common.{rules, ◌≡◌, ◌∙◌, ◌+◌, Some, ap, arith, slice_get, subst, vec_len}
use Rattle.site_worker.proofs.PlaceLemmas.{each_itself, each_pop}
use Rattle.site_worker.specs.WorkTasks.{IsLaunchOf, tasks_for}
use Rattle.site_worker.proofs.Ended.{front_each, no_element, one_of}
use Rattle.site_worker.proofs.ends.all_tasks.Goals as goal

-- no tasks yet, and all works are left
pub loop-work-init : goal.loop-work-init
loop-work-init g c = (
  omega (arith, c.in-Ok.ensures.len),
  search rules,
  c.requires.links.to,
  c.requires.links.from,
  c.requires.links.from_others,
  each_itself c.args.works.items,
  (λ k of work at there. no_element c.in-Ok.all.items k of (omega (arith, c.in-Ok.ensures.len, c.in-Ok.all.ok.0)) at),
)

pub launch_of-requires-clause-from : goal.launch_of-requires-clause-from
launch_of-requires-clause-from g c = λ _ _.
    let last = each_pop (λ k from. vec_len from + 1 ≡ vec_len c.args.works) c.loop-work.links.from.items c.pop-in-Some.new.self.from.items c.in-Some-pop.ends.from c.in-Some-pop.ensures.from c.loop-work.invariant.4 in
    omega (arith, last.1, c.requires.few)

-- the tasks of one work more
pub loop-work-preserved : goal.loop-work-preserved
loop-work-preserved g c =
    let was = c.loop-work.invariant in
    let less = c.in-Some.ensures.cases in
    let left = c.in-Some-pop.ensures.left in
    let from = each_pop (λ k from. vec_len from + 1 ≡ vec_len c.args.works) c.loop-work.links.from.items c.pop-in-Some.new.self.from.items c.in-Some-pop.ends.from c.in-Some-pop.ensures.from was.4 in
    let kept = each_pop (λ place work. slice_get c.args.works.items place ≡ Some work) c.loop-work.works.items c.pop.new.self.items c.in-Some.work c.in-Some.ensures.items was.5 in
    let number : c.in-Some-new.number ≡ vec_len c.pop.new.self = search rules in
    let made = c.in-Ok-launch_of.ensures in (
      omega (arith, c.insert_with_room.ensures.len, was.0, less),
      (let e = c.insert_with_room.ensures.capacity in omega (arith, e, was.1)),
      (let e = left.0 in omega (arith, e, was.2, less)),
      (let e = left.1 in omega (arith, e, was.3, less)),
      from.0,
      kept.0,
      λ k of work at there. front_each (λ j of. (work : _) → slice_get c.args.works.items (vec_len c.pop.new.self + j) ≡ Some work → IsLaunchOf (vec_len c.args.works) c.args.list.now (vec_len c.pop.new.self + j) work of)
          c.loop-work.all.items c.insert_with_room.new.list.items _ c.insert_with_room.ensures.items
          (λ work there. let same : c.in-Some.work ≡ work = one_of c.args.works.items (vec_len c.pop.new.self) c.in-Some.work work (ap (slice_get c.args.works.items) c.pop.new.self.ok.0 ∙ kept.1)
          (ap (slice_get c.args.works.items) (omega arith) ∙ there) in record {
            number = made.number ∙ (number ∙ omega arith);
            names_are = made.names;
            new = made.new;
            tasks = record {
              links = c.in-Some-pop.ends;
              others = (let e = from.1 in omega (arith, e, c.in-Some-pop.ends.from.ok.0));
              tasks_are = subst (λ w. c.in-Ok-launch_of.site.tasks.items ≡ tasks_for w c.in-Some-pop.ends) same made.tasks;
            };
          })
          (λ j of at work there. subst (λ n. IsLaunchOf (vec_len c.args.works) c.args.list.now n work of) (omega (arith, less)) (was.6 j of work at (ap (slice_get c.args.works.items) (omega (arith, less)) ∙ there)))
          k of at work there,
    )

pub returns : goal.returns
returns g c = let was = c.loop-work.invariant in let none : vec_len c.loop-work.works ≡ 0 = search rules in record {
  number = omega (arith, was.0, none, c.args.works.ok.0, c.loop-work.all.ok.0, c.loop-work.works.ok.0);
  each = λ site work of at there. subst (λ n. IsLaunchOf n c.args.list.now site work of) c.args.works.ok.0
      (subst (λ n. IsLaunchOf (vec_len c.args.works) c.args.list.now n work of) (omega (arith, none)) (was.6 site of work there (ap (slice_get c.args.works.items) (omega (arith, none, c.loop-work.works.ok.0)) ∙ at)));
}
