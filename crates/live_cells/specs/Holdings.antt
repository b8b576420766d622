-- The members and fields of live dots, and what readers see of them.
use Rattle.std.specs.Prelude.{◌≡◌, Some}
use Rattle.std.specs.Option.{option_map, option_map_or}
use Rattle.std.specs.FinMap as map
use Rattle.std.specs.FinSet as set
use Rattle.dots.specs.declared.member.Member.{Member}
use Rattle.dots.specs.Values.{Dot}
use Rattle.dots.specs.Orders.{dot_cmp}
use Rattle.operations.specs.Conditions.{DotFields, no_fields}
use Rattle.operations.specs.Rows.{DotView}
use Rattle.live_cells.specs.declared.cell.Cell.{Cell}

-- the member and the fields of a live dot
abbrev pub Holding : Type 0
Holding = Member × DotFields

-- what a lent cell shows
abbrev pub cell_read : Cell → Holding
cell_read c = (c.member.now, c.fields.now)

-- what readers see of live dots: they are the visible ones, with their members and fields
abbrev pub view_of : map.FinMap dot_cmp Holding → DotView
view_of live = record {
  visible = set.from_list (map.keys live);
  member = λ dot. option_map (λ h. h.0) (map.get live dot);
  fields = λ dot. option_map_or (λ h. h.1) (map.get live dot) no_fields;
}

-- a dot that is live with a member
pub record IsPresentIn (dots : map.FinMap dot_cmp Holding) (member : Member) : Type 0 where
  pub dot : Dot
  pub fields : DotFields
  pub live : map.get dots dot ≡ Some (member, fields)
