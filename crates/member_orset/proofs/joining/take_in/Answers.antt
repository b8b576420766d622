use Rattle.std.proofs.Common.{lit<, is_some, sym, ap, ◌∙◌}
use Rattle.std.specs.FinMap as map
use Rattle.std.specs.FinSet as set
use Rattle.live_cells.specs.LiveLists.{holding}
use Rattle.member_orset.proofs.LiveIds.{none_read, some_read}
use Rattle.member_orset.proofs.Taking.{met_agrees, taken_met, taken_new}
use Rattle.member_orset.proofs.joining.take_in.Goals as goal

pub join_fields-requires : goal.join_fields-requires
join_fields-requires c = (lit< tt, met_agrees (map.get c.args.cells.now.live c.args.cell.dot) (holding c.args.cell) c.requires.agree)

pub returns-then-is_some : goal.returns-then-is_some
returns-then-is_some c =
    let there = some_read c.get.result (map.get c.args.cells.now.live c.args.cell.dot) c.get.ensures ∙ sym c.is_some.ensures ∙ c.if-is_some.true in
    taken_met (set.contains c.args.known.now.dots) c.args.cells.now c.join_fields.new.self c.args.cell (λ none. absurd (let n = sym there ∙ ap is_some none in cc n))
    c.join_fields.ensures.live c.join_fields.ensures.ids c.join_fields.ensures.spent c.join_fields.ensures.room

pub returns-then-not-contains : goal.returns-then-not-contains
returns-then-not-contains c =
    taken_new (set.contains c.args.known.now.dots) c.args.cells.now c.insert.new.self c.args.cell c.insert.result c.insert.ensures.had_none
    (none_read c.get.result (map.get c.args.cells.now.live c.args.cell.dot) c.get.ensures (sym c.is_some.ensures ∙ c.if-is_some.false)) (sym c.contains.ensures ∙ c.if-not-contains.true)
    c.insert.ensures.live c.insert.ensures.ids c.insert.ensures.new c.insert.ensures.spent c.insert.ensures.room
