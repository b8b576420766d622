-- Which live dots have an id.
use Rattle.std.proofs.Common.{◌≡◌, false, Option, Some, None, is_some, refl, sym, ap, ◌∙◌}
use Rattle.std.specs.FinMap as map
use Rattle.std.specs.Option.{option_map}
use Rattle.live_cells.specs.declared.cell.Cell.{Cell}
use Rattle.live_cells.specs.Holdings.{cell_read}
use Rattle.dots.specs.Values.{Dot}
use Rattle.dots.specs.Orders.{dot_cmp}
use Rattle.live_cells.specs.CellIds.{IdMap}
use Rattle.live_cells.specs.Holdings.{Holding}

none_of : {X : Type 0} (o : Option X) → is_some o ≡ false → o ≡ None
none_of None h = refl
none_of (Some x) h = absurd (cc h)

module _ (ids : IdMap) (live : map.FinMap dot_cmp Holding) (named : (q : Dot) → map.contains_key ids q ≡ map.contains_key live q) where
  -- a dot that isn't live has none
  pub unnamed : (q : Dot) → map.get live q ≡ None → map.get ids q ≡ None
  unnamed q h = none_of (map.get ids q) (named q ∙ ap is_some h)

-- what isn't lent isn't there
pub none_read : (o : Option Cell) (p : Option Holding) → option_map cell_read o ≡ p → is_some o ≡ false → p ≡ None
none_read None p e h = sym e
none_read (Some x) p e h = absurd (cc h)

-- what is lent is there, and nothing else
pub some_read : (o : Option Cell) (p : Option Holding) → option_map cell_read o ≡ p → is_some p ≡ is_some o
some_read None p e = ap is_some (sym e)
some_read (Some x) p e = ap is_some (sym e)
