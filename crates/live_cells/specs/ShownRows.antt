-- What live dots show: the dots and the rows of members.
use Rattle.std.specs.Prelude.{ℕ, ◌≡◌, Bool, true, false, not, ◌&&◌, ◌||◌, nat_eq, nat_lt, List, [], ◌∷◌, Option, Some, None, Contains, filter, map}
use Rattle.std.specs.List.{All, filter_map}
use Rattle.std.specs.Option.{option_map}
use Rattle.std.specs.FinMap as maps
use Rattle.std.specs.Ordering.{eq_by_cmp, is_lt}
use Rattle.dots.specs.declared.member.Member.{Member}
use Rattle.dots.specs.Values.{Dot}
use Rattle.dots.specs.Orders.{dot_cmp, member_cmp, text_cmp}
use Rattle.operations.specs.Conditions.{DotFields, fields_joined}
use Rattle.operations.specs.Knowledge.{latest_of}
use Rattle.operations.specs.Rows.{DotView, MemberRow, rows_of}
use Rattle.live_cells.specs.declared.latest.Latest.{Latest}
use Rattle.live_cells.specs.Index.{Listed}
use Rattle.live_cells.specs.declared.live_dot.LiveDot.{LiveDot}
use Rattle.live_cells.specs.LiveLists.{live_of}
use Rattle.live_cells.specs.Holdings.{Holding, view_of}

-- what readers see of cells
abbrev pub cells_view : List LiveDot → DotView
cells_view cells = view_of (live_of cells)

-- whether an entry of the index is of a member
abbrev pub is_own : Member → Listed → Bool
is_own member l = eq_by_cmp member_cmp member l.member

-- the entries of a member, in order
abbrev pub group : Member → List Listed → List Listed
group member index = filter (is_own member) index

-- the dots of entries
abbrev pub dots_listed : List Listed → List Dot
dots_listed entries = map (λ l. l.dot) entries

-- the fields of dots, of each that is live
abbrev pub fields_held : maps.FinMap dot_cmp Holding → List Dot → List DotFields
fields_held live dots = filter_map (λ dot. option_map (λ h. h.1) (maps.get live dot)) dots

-- for each field the entry of the greatest stamp over those of some dots, for equal stamps that of the first
abbrev pub fields_over : List DotFields → DotFields
fields_over fields = record {
  penalty = latest_of (filter_map (λ f. f.penalty) fields);
  pause = latest_of (filter_map (λ f. f.pause) fields);
  label = latest_of (filter_map (λ f. f.label) fields);
  ring = latest_of (filter_map (λ f. f.ring) fields);
}

-- the fields that dots show, where there is one
abbrev pub fields_shown : List DotFields → Option DotFields
fields_shown [] = None
fields_shown (f ∷ fields) = Some (fields_over (f ∷ fields))

-- the fields of dots before, if any, with those of one that follows
abbrev pub fields_after : Option DotFields → DotFields → DotFields
fields_after None fields = fields
fields_after (Some before) fields = fields_joined before fields

-- what lent registers hold
abbrev pub latest_fields : Latest → DotFields
latest_fields l = record { penalty = l.penalty.now; pause = l.pause.now; label = l.label.now; ring = l.ring.now }

-- whether a text lies after another, if there is one
abbrev pub is_after : Option (List ℕ) → List ℕ → Bool
is_after None text = true
is_after (Some last) text = is_lt (text_cmp last text)

-- the rows of a queue whose interfaces lie after a last one, if there is one
abbrev pub rows_after : DotView → ℕ → Option (List ℕ) → List (List ℕ × MemberRow)
rows_after r queue last = filter (λ e. is_after last e.0) (rows_of r queue)

-- whether an entry is in a queue, with an interface that lies after a last one
abbrev pub is_left : ℕ → Option (List ℕ) → Listed → Bool
is_left queue last l = nat_eq queue l.member.queue && is_after last l.member.interface

-- whether a member lies before those of a queue whose interfaces lie after a last one
abbrev pub is_passed : ℕ → Option (List ℕ) → Member → Bool
is_passed queue last m = nat_lt m.queue queue || (nat_eq m.queue queue && not (is_after last m.interface))

-- an entry is one of those that are left, and none of these has a lesser interface
pub record IsLeastEntry (queue : ℕ) (last : Option (List ℕ)) (index : List Listed) (l : Listed) : Type 0 where
  pub here : Contains index l
  pub own : is_left queue last l ≡ true
  pub least : All (λ e. is_left queue last e ≡ true → is_lt (text_cmp e.member.interface l.member.interface) ≡ false) index
