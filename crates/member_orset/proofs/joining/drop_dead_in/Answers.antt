use Rattle.std.proofs.Common.{◌+◌, ap, subst, arith}
use Rattle.member_orset.specs.Joining.{IsNextDead}
use Rattle.member_orset.proofs.Thinning.{dropped_all, dropped_more, dropped_none}
use Rattle.member_orset.proofs.joining.drop_dead_in.Goals as goal

pub loop-dot-init : goal.loop-dot-init
loop-dot-init c =
    let first = ap (λ r. r.first) c.run.view_is in
    let last = ap (λ r. r.last) c.run.view_is in
    let ordered = c.run.invariant.ordered in
    record {
      least = omega arith;
      most = omega arith;
      thinned = dropped_none c.args.run c.args.there.now.live c.args.cells.now c.run.inside.first first;
    }

pub loop-dot-preserved : goal.loop-dot-preserved
loop-dot-preserved c =
    let dot = c.in-Some.dot in
    let d = c.in-Some.ensures in
    let count = c.count-first.ensures.value in
    let first = c.loop-dot.invariant.least in
    record {
      least = let l = d.least in omega arith;
      most = let m = d.most in omega arith;
      thinned = dropped_more c.args.run c.args.there.now.live c.loop-dot.first c.args.cells.now c.loop-dot.cells c.len.ensures.limits.named c.loop-dot.invariant.thinned
          c.remove.new.self dot (c.count-first.result + 1) (ap (λ n. n + 1) count) first d c.remove.ensures.live c.remove.ensures.ids c.remove.ensures.spent c.remove.ensures.room;
    }

pub returns : goal.returns
returns c =
    dropped_all c.args.run c.args.there.now.live c.loop-dot.first c.args.cells.now c.loop-dot.cells c.len.ensures.limits.named c.loop-dot.invariant.thinned
    (subst (IsNextDead c.args.run c.args.there.now.live c.loop-dot.first c.loop-dot.cells.live) c.in_default.is c.next_dead.ensures)
