use Rattle.std.proofs.Common.{arith}
use Rattle.site_worker.proofs.Ended.{all_first, all_ran, outputs_few}
use Rattle.site_worker.proofs.running.run_works.Goals as goal

-- each site has the gate of its work
pub runs_of-requires-clause-gates : goal.runs_of-requires-clause-gates
runs_of-requires-clause-gates g c = λ _ _.
    let many = c.in-Ok-launch.ensures.number in
    let number = c.in-Ok-all_tasks.ensures.number in
    all_first g.G.Gate.called c.args.list.now c.args.works.items c.in-Ok-all_tasks.all.items c.in-Ok-launch.ends.items c.in-Ok-all_tasks.ensures c.in-Ok-launch.ensures.ends
    (omega (arith, many, number, c.in-Ok-launch.ends.ok.0, c.in-Ok-all_tasks.all.ok.0))

-- each site has few passes
pub runs_of-requires-clause-passes : goal.runs_of-requires-clause-passes
runs_of-requires-clause-passes g c = λ _ _.
    let many = c.in-Ok-launch.ensures.number in
    let number = c.in-Ok-all_tasks.ensures.number in
    let few = c.requires.few in
    outputs_few g.G.Gate.called c.args.list.now c.args.works.items c.in-Ok-all_tasks.all.items c.in-Ok-launch.ends.items c.in-Ok-all_tasks.ensures c.in-Ok-launch.ensures.ends
    (omega (arith, many, number, c.in-Ok-launch.ends.ok.0, c.in-Ok-all_tasks.all.ok.0)) (omega (arith, few, c.args.works.ok.0))

pub returns-in-Ok-launch-clause-ran : goal.returns-in-Ok-launch-clause-ran
returns-in-Ok-launch-clause-ran g c =
    let many = c.in-Ok-launch.ensures.number in
    let number = c.in-Ok-all_tasks.ensures.number in
    all_ran g.G.Gate.called c.args.list.now c.args.works c.in-Ok-all_tasks.all.items c.in-Ok-launch.ends.items c.runs_of.result c.in-Ok-all_tasks.ensures c.in-Ok-launch.ensures.ends
    (omega (arith, many, number, c.in-Ok-launch.ends.ok.0, c.in-Ok-all_tasks.all.ok.0)) c.runs_of.ensures
