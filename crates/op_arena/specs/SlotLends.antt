-- What a cell ends as, once a `&mut` to its value ends. Only this crate's own clauses cite this module.
use Rattle.std.specs.Borrow.{Fml, RattleType, MutBor, Lends}
use Rattle.op_arena.specs.Slots.{slot}
use Rattle.op_arena.specs.declared.slot.Slot.{Slot}
use Rattle.op_arena.specs.declared.slot.State.TheVariants.{Held}
use Rattle.op_arena.specs.contracts.slot.Slot.{the_row}

-- the cell ends with the last value that was written through `r` as the one that it holds, in the
-- same generation
abbrev pub lends_value : (R : RattleType) → MutBor (Slot R.Denot) → MutBor R.Denot → Fml
lends_value R s r = Lends (the_row R) R s r (λ w. slot s.now.generation (Held w))
