use Rattle.std.proofs.Common.{◌∙◌, arith}
use Rattle.member_orset.specs.Members.{dot_view_of}
use Rattle.replica.specs.Changes.{time_replaced}
use Rattle.replica.specs.Settings.{setting_of}
use Rattle.replica.proofs.GreatestTimes.{greater_of, greatest_more}
use Rattle.replica.proofs.setting.latest_replaced.Goals as goal

pub loop-dot-preserved : goal.loop-dot-preserved
loop-dot-preserved c =
    let time = time_replaced (dot_view_of c.args.members.now) (setting_of c.args.setting.now) in
    let more = greatest_more time c.args.dots.now c.loop-dot.dot-index c.dot-item.result c.loop-dot-test.true c.dot-item.is in
    let is = c.max-latest.ensures ∙ greater_of c.loop-dot.latest c.time_replaced.result in
    record {
      value = omega (arith, more, c.loop-dot.invariant.value, c.time_replaced.ensures.value, is);
      limit = omega (arith, c.loop-dot.invariant.limit, c.time_replaced.ensures.limit, is);
    }
