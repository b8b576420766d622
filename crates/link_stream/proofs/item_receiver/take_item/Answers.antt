use Rattle.std.proofs.Common.{rules, take, ◌≡◌}
use Rattle.link_stream.specs.Tagged.{TakesTagged}
use Rattle.link_stream.proofs.Causes.{takes_beat}
use Rattle.link_stream.proofs.item_receiver.take_item.Goals as goal

pub returns-then-is_beat-clause-item : goal.returns-then-is_beat-clause-item
returns-then-is_beat-clause-item c =
    let four : c.args.size ≡ 4 = search rules in
    let passed : TakesTagged c.args.stream.now (take c.args.size c.args.stream.now.held) c.pass.new.self = search rules in
    (tt, takes_beat c.args.stream.now c.pass.new.self c.args.size c.requires four passed)
