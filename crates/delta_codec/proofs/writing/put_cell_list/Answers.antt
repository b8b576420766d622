use Rattle.std.proofs.Common.{length, ◌∙◌}
use Rattle.std.specs.FinMap as map
use Rattle.std.specs.List.{flat_map}
use Rattle.delta_codec.specs.Parts.{cell_bytes}
use Rattle.delta_codec.proofs.Appending.{counted_written}
use Rattle.delta_codec.proofs.writing.put_cell_list.Goals as goal

pub returns-clause-written : goal.returns-clause-written
returns-clause-written c = counted_written c.args.out.now.items c.put_number4.new.out.items c.put_cells.new.out.items (flat_map cell_bytes (map.entries c.args.members.now.live)) c.cells.result (length (map.entries c.args.members.now.live)) (c.cells.ensures.value ∙ map.len-entries c.args.members.now.live) c.in_ok-put_number4.ensures c.in_ok-put_cells.ensures.written
