-- What contracts see of totals that are read, without their place in memory, and where a dot that is read belongs.
use Rattle.std.specs.Prelude.{◌≡◌, Option, None, IsSome}
use Rattle.std.specs.FinMap as map
use Rattle.std.specs.declared.cmp.Ordering.TheVariants.{Less}
use Rattle.dots.specs.Orders.{dot_cmp}
use Rattle.dots.specs.Values.{Dot}
use Rattle.member_orset.specs.Members.{Holding}
use Rattle.delta_codec.specs.declared.elements.TotalRead.{TotalRead}
use Rattle.delta_codec.specs.Parts.{CellParts, TotalParts}
use Rattle.delta_codec.specs.Reading.{is_dot_before, order_fault, with_cell}

-- a total that was read, as a part of a frame
abbrev pub total_read : TotalRead → TotalParts
total_read total = (total.key, total.totals)

-- a cell's dot, and what is live with the cell
abbrev pub kept_cell : map.FinMap dot_cmp Holding → CellParts → Dot × map.FinMap dot_cmp Holding
kept_cell live cell = (cell.0, with_cell live cell)

-- a dot that may follow the last one lies after all live ones
abbrev pub IsBehind : Option Dot → map.FinMap dot_cmp Holding → Type 0
IsBehind last live = (q dot : Dot) → IsSome (map.get live q) → order_fault is_dot_before last dot ≡ None → dot_cmp q dot ≡ Less
