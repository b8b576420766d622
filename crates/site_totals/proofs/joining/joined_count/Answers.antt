use Rattle.std.proofs.Common.{◌≡◌, length, drop, ap, arith}
use Rattle.std.proofs.lemmas.List.{drop_all}
use Rattle.site_totals.specs.TotalLists.{joined_rows}
use Rattle.site_totals.proofs.joining.joined_count.Goals as goal

-- one entry more is counted
pub loop-own-preserved : goal.loop-own-preserved
loop-own-preserved c =
    let next = ap length c.next_row.ensures.next in
    record {
      ours = omega arith;
      others = omega arith;
      few = omega arith;
      counted = omega (arith, next, c.loop-own.invariant.counted);
    }

-- nothing is left
pub returns : goal.returns
returns c =
    let none : length (joined_rows (drop c.loop-own.own c.args.rows.now) (drop c.loop-own.theirs c.args.others.now)) ≡ 0 =
    λ i. length (joined_rows (drop_all c.loop-own.own c.args.rows.now (omega arith) i) (drop_all c.loop-own.theirs c.args.others.now (omega arith) i)) in
    omega (arith, none, c.loop-own.invariant.counted)
