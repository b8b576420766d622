-- What a list of chunks ends as, once a `&mut` to one of its values ends. Only this crate's own clauses cite this module.
use Rattle.std.specs.Prelude.{ℕ, slice_set}
use Rattle.std.specs.Borrow.{Fml, RattleType, MutBor, Lends}
use Rattle.op_arena.specs.Columns.{Column, column}
use Rattle.op_arena.specs.contracts.chunks.Chunks.{the_row}

-- the list of chunks ends with the last value that was written through `r` as its item at `index`
abbrev pub lends_item : (R : RattleType) → MutBor (Column R.Denot) → ℕ → MutBor R.Denot → Fml
lends_item R c index r = Lends (the_row R) R c r (λ w. column (slice_set c.now.items index w) c.now.capacity)
