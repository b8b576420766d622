use Rattle.std.proofs.Common.{◌∙◌, ◌∷◌, ap, arith, insert}
use Rattle.site_worker.specs.declared.tasks.WorkTask.TheVariants.{Take}
use Rattle.site_worker.proofs.Ended.{moved}
use Rattle.site_worker.proofs.tasks.tasks_of.Goals as goal

-- a link more stands behind
pub loop-link-preserved : goal.loop-link-preserved
loop-link-preserved g c =
    let was = c.loop-link.invariant in
    let less = c.in-Some.ensures.cases in
    let behind = was.3.0 in (
      omega (arith, c.insert_with_room.ensures.len, was.0, less),
      (let e = c.insert_with_room.ensures.capacity in omega (arith, e, was.1)),
      omega (arith, c.insert_with_room.ensures.len, was.2),
      (
        c.in-Some.link ∷ behind,
        moved c.args.links.from.items c.loop-link.from.items c.pop.new.self.items behind c.in-Some.link was.3.1 c.in-Some.ensures.items,
        c.insert_with_room.ensures.items ∙ ap (λ l. insert l 2 (Take c.in-Some.link)) was.3.2,
      ),
    )
