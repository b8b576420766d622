use Rattle.std.proofs.Common.{◌≡◌, length, rules, of_calls, arith}
use Rattle.std.specs.FinMap as map
use Rattle.std.proofs.lemmas.Fn.{filter_same}
use Rattle.live_cells.specs.declared.placed.Placed.{Placed}
use Rattle.live_cells.specs.Freed.{with_cells}
use Rattle.live_cells.proofs.FreedCells.{all_kept}
use Rattle.live_cells.proofs.freeing.keep_dots.Goals as goal

pub returns-then-len-clause-kept : goal.returns-then-len-clause-kept
returns-then-len-clause-kept g c =
    let held = c.args.cells.now.held in
    let dots = c.args.dots.now.items in
    let as_many : length (with_cells held dots) ≡ length dots = omega (arith, c.requires.as_many) in
    all_kept (λ (p : Placed). map.contains_key held p.id) dots as_many

pub returns-clause-kept : goal.returns-clause-kept
returns-clause-kept g c = filter_same _ _ _ (λ x b f' k. search (rules, of_calls)) _ _ c.retain.ensures.items
