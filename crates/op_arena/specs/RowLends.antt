-- What places end as, once a `&mut` to a value ends. Only this crate's own clauses cite this module.
use Rattle.std.specs.Prelude.{ℕ, slice_set, Some}
use Rattle.std.specs.Borrow.{Fml, RattleType, MutBor, Lends}
use Rattle.op_arena.specs.declared.places.Places.{Places}
use Rattle.op_arena.specs.contracts.places.Places.{the_row}

-- the places `places` with `value` in the one at `index`
abbrev pub with_value : {X : Type 0} → Places X → ℕ → X → Places X
with_value places index value = record { first = places.first; slots = slice_set places.slots index (Some value) }

-- the places end with the last value that was written through `r` in the one at `index`
abbrev pub lends_value : (R : RattleType) → MutBor (Places R.Denot) → ℕ → MutBor R.Denot → Fml
lends_value R places index r = Lends (the_row R) R places r (with_value places.now index)
