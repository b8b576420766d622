use Rattle.std.proofs.Common.{◌≡◌, length, filter, rules, of_calls, arith}
use Rattle.std.specs.FinMap as map
use Rattle.std.proofs.lemmas.Fn.{filter_same}
use Rattle.op_arena.specs.Ids.{Id}
use Rattle.live_cells.proofs.FreedCells.{all_kept}
use Rattle.live_cells.proofs.LiveChanges.{members_count}
use Rattle.live_cells.proofs.freeing.keep_ids.Goals as goal

pub returns-then-len-clause-kept : goal.returns-then-len-clause-kept
returns-then-len-clause-kept g c =
    let held = c.args.cells.now.held in
    let ids = c.args.ids.now.items in
    let count = members_count c.args.cells.now (filter (λ (id : Id). map.contains_key held id) ids) c.requires in
    let as_many : length (filter (λ (id : Id). map.contains_key held id) ids) ≡ length ids = omega (arith, count) in
    all_kept (λ (id : Id). map.contains_key held id) ids as_many

pub returns-clause-kept : goal.returns-clause-kept
returns-clause-kept g c = filter_same _ _ _ (λ x b f' k. search (rules, of_calls)) _ _ c.retain.ensures.items
