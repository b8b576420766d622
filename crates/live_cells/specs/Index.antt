-- The index of the live dots by their members.
use Rattle.std.specs.Prelude.{ℕ, ◌≡◌, ◌≤◌, Bool, true, false, List, length, map, IsTrue}
use Rattle.std.specs.List.{AllWithin, list_any}
use Rattle.std.specs.Option.{option_map, option_map_or}
use Rattle.std.specs.FinMap as maps
use Rattle.std.specs.Ordering.{eq_by_cmp, is_lt, on, then_cmp}
use Rattle.std.specs.declared.cmp.Ordering.{Ordering}
use Rattle.dots.specs.Values.{Dot}
use Rattle.dots.specs.Orders.{dot_cmp, member_cmp}
use Rattle.dots.specs.declared.member.Member.{Member}
use Rattle.live_cells.specs.declared.live_dot.LiveDot.{LiveDot}
use Rattle.live_cells.specs.Holdings.{Holding}

-- a live dot as the index of members has it
pub record Listed : Type 0 where
  pub member : Member
  pub dot : Dot

-- the entries of the index are ordered by member, then by dot
abbrev pub listed_cmp : Listed → Listed → Ordering
listed_cmp = then_cmp (on (λ l. l.member) member_cmp) (on (λ l. l.dot) dot_cmp)

-- a cell as the index has it
abbrev pub listing : LiveDot → Listed
listing c = record { member = c.member; dot = c.dot }

-- the index as the entries of a map with keys only
abbrev pub listings : List Listed → List (Listed × Unit {0})
listings index = map (λ l. (l, tt)) index

-- the index is sorted, without duplicates
abbrev pub Rises : List Listed → Type 0
Rises index = IsTrue (maps.is_sorted listed_cmp (listings index))

-- whether the index has a dot under a member
abbrev pub is_listed : List Listed → Member → Dot → Bool
is_listed index member dot = list_any (eq_by_cmp listed_cmp (record { member = member; dot = dot })) index

-- an entry lies before all of an index
abbrev pub IsBelow : Listed → List Listed → Type 0
IsBelow l index = IsTrue (maps.Entries.below_all listed_cmp l (listings index))

-- a place in the index: the entries before it precede another one, and those from there on don't
pub record IsPlaceFor (index : List Listed) (l : Listed) (place : ℕ) : Type 0 where
  pub within : place ≤ length index
  pub before : AllWithin (λ x. is_lt (listed_cmp x l) ≡ true) index 0 place
  pub past : AllWithin (λ x. is_lt (listed_cmp x l) ≡ false) index place (length index)

-- whether a dot is live with a member
abbrev pub is_held : maps.FinMap dot_cmp Holding → Member → Dot → Bool
is_held live member dot = option_map_or (eq_by_cmp member_cmp member) (option_map (λ h. h.0) (maps.get live dot)) false

-- the index rises, and has exactly the live dots, each under its member
pub record IsIndex (index : List Listed) (live : maps.FinMap dot_cmp Holding) : Type 0 where
  pub rises : Rises index
  pub lists : (member : Member) (dot : Dot) → is_listed index member dot ≡ is_held live member dot
