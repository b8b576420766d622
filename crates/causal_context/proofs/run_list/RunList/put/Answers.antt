use Rattle.std.proofs.Common.{Result, Ok, Err, arith, ap}
use Rattle.std.specs.Prelude.{IsOk, OnOk}
use Rattle.dots.specs.DotSets.{run_count}
use Rattle.dots.proofs.RunCounts.{run_count_runs}
use Rattle.causal_context.proofs.Uniting.{set_replaced}
use Rattle.causal_context.proofs.run_list.RunList.put.Goals as goal

made : {E P : Type 0} (r : Result (Unit {0}) E) → IsOk r → OnOk r P → P
made (Ok u) is h = h
made (Err e) is h = absurd (cc)

pub returns-clause-united : goal.returns-clause-united
returns-clause-united c =
    let united = c.unite-united.result in
    set_replaced c.args.self.now.items _ united.start united.end united.run c.args.run c.unite-united.ensures.united
    (made c.replace.result (c.replace.ensures.with_room c.requires) c.replace.ensures.ok)

pub returns-clause-few : goal.returns-clause-few
returns-clause-few c =
    let united = c.unite-united.result in
    let is = ap run_count (set_replaced c.args.self.now.items _ united.start united.end united.run c.args.run c.unite-united.ensures.united
    (made c.replace.result (c.replace.ensures.with_room c.requires) c.replace.ensures.ok)) in
    let count = run_count_runs _ _ c.unite-united.ensures.united in
    omega (arith, is, count, c.unite-united.ensures.few)
