-- That live dots are kept by an index has one proof at most.
use Rattle.std.specs.Prelude.{List}
use Rattle.std.specs.Coded.{Coded-set, coded_bool, coded_option, coded_ℕ}
use Rattle.std.specs.FinMap as maps
use Rattle.dots.specs.DotSets.{dot_code}
use Rattle.dots.specs.Orders.{dot_cmp}
use Rattle.op_arena.specs.Ids.{Id, id_code}
use Rattle.live_cells.specs.declared.placed.Placed.{Placed}
use Rattle.live_cells.specs.CellIds.{IdSet}
use Rattle.live_cells.specs.Index.{IsIndex, Listed}
use Rattle.live_cells.specs.PlacedStates.{AreIndexed, ArePlaced, CellMap, PlacedState}
use Rattle.live_cells.specs.Holdings.{Holding}

placed-prop : (dots : List Placed) (held : CellMap) (spent : IdSet) → IsProp (ArePlaced dots held spent)
placed-prop dots held spent a b = λ i. record {
  sorted = Coded-set coded_bool _ _ a.sorted b.sorted i;
  there = λ k d l. Coded-set (coded_option dot_code) _ _ (a.there k d l) (b.there k d l) i;
  alone = λ id cell h. Coded-set (coded_option id_code) _ _ (a.alone id cell h) (b.alone id cell h) i;
  as_many = Coded-set coded_ℕ _ _ a.as_many b.as_many i;
  unspent = λ k d l. Coded-set coded_bool _ _ (a.unspent k d l) (b.unspent k d l) i;
}

index-prop : (index : List Listed) (live : maps.FinMap dot_cmp Holding) → IsProp (IsIndex index live)
index-prop index live a b = λ i. record {
  rises = Coded-set coded_bool _ _ a.rises b.rises i;
  lists = λ member dot. Coded-set coded_bool _ _ (a.lists member dot) (b.lists member dot) i;
}

-- that live dots are kept by an index has one proof at most
pub indexed-prop : (s : PlacedState) (members : List Id) → IsProp (AreIndexed s members)
indexed-prop s members a b = λ i. record {
  placed = placed-prop s.dots s.held s.spent a.placed b.placed i;
  held = λ k d l. Coded-set coded_bool _ _ (a.held k d l) (b.held k d l) i;
  index = index-prop _ _ a.index b.index i;
}
