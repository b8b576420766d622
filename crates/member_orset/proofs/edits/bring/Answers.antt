use Rattle.std.proofs.Common.{◌≡◌, None, sym, ap, subst, ◌∙◌}
use Rattle.std.specs.FinMap as map
use Rattle.live_cells.specs.CellIds.{IdMap, IdSet, IdsFollow, IsNew}
use Rattle.live_cells.proofs.IdSteps.{follow_insert}
use Rattle.member_orset.proofs.edits.bring.Goals as goal

pub returns-clause-ids : goal.returns-clause-ids
returns-clause-ids c =
    let ids = c.args.cells.now.ids in
    let spent = c.args.cells.now.spent in
    let new : IsNew ids spent spent c.insert.result = subst (λ (m : IdMap). IsNew m spent spent c.insert.result) c.reserve.ensures.ids (subst (λ (s : IdSet). IsNew c.reserve.new.self.ids s s c.insert.result) c.reserve.ensures.spent c.insert.ensures.new) in
    let none : map.get ids c.args.cell.dot ≡ None = ap (λ m. map.get m c.args.cell.dot) (sym c.reserve.ensures.ids) ∙ c.insert.ensures.had_none in
    subst (λ (m : IdMap). IdsFollow ids spent m c.insert.new.self.spent) (ap (λ m. map.insert m c.args.cell.dot c.insert.result) (sym c.reserve.ensures.ids) ∙ sym c.insert.ensures.ids)
    (subst (λ (s : IdSet). IdsFollow ids spent (map.insert ids c.args.cell.dot c.insert.result) s) (sym (c.insert.ensures.spent ∙ c.reserve.ensures.spent)) (follow_insert ids spent c.args.cell.dot c.insert.result new none))
