-- The map of cells.
use Rattle.std.proofs.Common.{◌≡◌, suc, List, [], ◌∷◌, length, refl, ap, ◌∙◌}
use Rattle.std.specs.FinMap as maps
use Rattle.std.specs.FinMap.Entries.{find}
use Rattle.dots.specs.Values.{Dot}
use Rattle.dots.specs.Orders.{dot_cmp}
use Rattle.live_cells.specs.declared.live_dot.LiveDot.{LiveDot}
use Rattle.live_cells.specs.LiveLists.{entries_of, live_of}
use Rattle.general_lemmas.proofs.TruthTables.{truth}
use Rattle.live_cells.proofs.CellLists.{Rise}

-- the map of cells that rise has the cells as its entries
pub entries_live_of : (cs : List LiveDot) → Rise cs → maps.entries (live_of cs) ≡ entries_of cs
unfolding live_of
entries_live_of cs h = maps.entries-from_sorted dot_cmp (entries_of cs) (truth _ h)

pub get_live_of : (cs : List LiveDot) (q : Dot) → Rise cs → maps.get (live_of cs) q ≡ find dot_cmp q (entries_of cs)
unfolding live_of
get_live_of cs q h = maps.get-from_sorted dot_cmp (entries_of cs) q (truth _ h)

length_entries_of : (cs : List LiveDot) → length (entries_of cs) ≡ length cs
length_entries_of [] = refl
length_entries_of (c ∷ cs) = ap suc (length_entries_of cs)

pub len_live_of : (cs : List LiveDot) → Rise cs → maps.len (live_of cs) ≡ length cs
len_live_of cs h = maps.len-entries (live_of cs) ∙ ap length (entries_live_of cs h) ∙ length_entries_of cs

pub live_of_nil : live_of [] ≡ maps.empty
live_of_nil = maps.empty_of_len (live_of []) (len_live_of [] refl)
