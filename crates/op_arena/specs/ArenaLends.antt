-- What an arena ends as, once a `&mut` to one of its values ends.
use Rattle.std.specs.Prelude.{Option}
use Rattle.std.specs.FinMap as map
use Rattle.std.specs.Borrow.{Fml, RattleType, MutBor, Lends, LendsIf}
use Rattle.op_arena.specs.Cells.{Cells}
use Rattle.op_arena.specs.Ids.{Id}
use Rattle.op_arena.specs.contracts.arena.Arena.{the_row}

-- the cells `c` with `value` as the value of `id`
abbrev pub with_value : {T : Type 0} → Cells T → Id → T → Cells T
with_value c id value = record { held = map.insert c.held id value; spent = c.spent; spare = c.spare }

module _ (R Last : RattleType) (c : MutBor (Cells R.Denot)) (id : Id) where
  -- the arena ends with the last value that was written through `r` as the value of `id`
  abbrev pub lends_value : MutBor R.Denot → Fml
  lends_value r = Lends (the_row R Last) R c r (with_value c.now id)

  -- where `r` is a reference, the arena ends with the last value that was written through it as the
  -- value of `id`; at `None` it stays as it is
  abbrev pub lends_found : Option (MutBor R.Denot) → Fml
  lends_found r = LendsIf (the_row R Last) R c r (with_value c.now id) c.now
