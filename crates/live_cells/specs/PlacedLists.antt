-- Lists of live dots, each with the id of its cell.
use Rattle.std.specs.Prelude.{ℕ, ◌≡◌, ◌≤◌, ◌<◌, Bool, true, false, List, map, Option, Some, None, IsTrue}
use Rattle.std.specs.List.{list_any}
use Rattle.std.specs.FinMap as maps
use Rattle.std.specs.Ordering.{eq_by_cmp}
use Rattle.dots.specs.Values.{Dot}
use Rattle.dots.specs.Orders.{dot_cmp}
use Rattle.op_arena.specs.Ids.{Id}
use Rattle.live_cells.specs.declared.placed.Placed.{Placed}

-- a live dot as an entry of a map
abbrev pub id_entry : Placed → Dot × Id
id_entry p = (p.dot, p.id)

-- live dots as the entries of a map
abbrev pub id_entries : List Placed → List (Dot × Id)
id_entries dots = map id_entry dots

-- placed dots are sorted by their dots, without duplicates
abbrev pub AreRising : List Placed → Type 0
AreRising dots = IsTrue (maps.is_sorted dot_cmp (id_entries dots))

-- whether a dot is one of the placed ones
abbrev pub is_placed : List Placed → Dot → Bool
is_placed dots dot = list_any (λ p. eq_by_cmp dot_cmp dot p.dot) dots

-- the dot is a placed one of a site, with a count from a first to a last one, and no placed dot has a lesser such count
pub record IsFirstIn (dots : List Placed) (site first last : ℕ) (dot : Dot) : Type 0 where
  pub here : is_placed dots dot ≡ true
  pub site_is : dot.site ≡ site
  pub least : first ≤ dot.count
  pub most : dot.count ≤ last
  pub none : (n : ℕ) → first ≤ n → n < dot.count → is_placed dots (record { site = site; count = n }) ≡ false

-- the first placed dot of a site with a count from a first to a last one, or none if there is none
abbrev pub IsNextIn : List Placed → ℕ → ℕ → ℕ → Option Dot → Type 0
IsNextIn dots site first last None = (n : ℕ) → first ≤ n → n ≤ last → is_placed dots (record { site = site; count = n }) ≡ false
IsNextIn dots site first last (Some dot) = IsFirstIn dots site first last dot
