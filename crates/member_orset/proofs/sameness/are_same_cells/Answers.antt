use Rattle.std.proofs.Common.{sym, ap, ◌∙◌}
use Rattle.std.specs.FinMap as map
use Rattle.dots.specs.Orders.{dot_cmp}
use Rattle.dots.proofs.DotOrder.{dots_exact, dots_total}
use Rattle.general_lemmas.proofs.MapEntries.{same_both}
use Rattle.member_orset.proofs.sameness.are_same_cells.Goals as goal

pub returns-then-not-has_all : goal.returns-then-not-has_all
returns-then-not-has_all c = (λ t. absurd (cc t), λ e. absurd (let t = c.has_all.ensures.1 (λ dot h g. ap (λ m. map.get m dot) (sym e) ∙ g) in cc (t, c.if-not-has_all.true)))

pub returns : goal.returns
returns c = (
  λ t. same_both dot_cmp dots_total dots_exact c.args.others.now.live c.args.cells.now.live (c.has_all-2.ensures.0 t) (c.has_all.ensures.0 c.if-not-has_all.false),
  λ e. c.has_all-2.ensures.1 (λ dot h g. ap (λ m. map.get m dot) e ∙ g),
)
