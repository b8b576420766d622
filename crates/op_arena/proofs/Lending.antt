-- A `&` to places gives a `&` to each value, wherever one can be made of a borrow of the value. Assumes `Logic`.
use Prim.Native.Nat.{ℕ, ◌+◌}
use seplogic.Ra.Ura.{Ura}
use base.Fml.{Lft, Incl, ftrue, ffalse}
use types.Logic.{Logic}
use denote.RattleType.{RattleType, RowLaws}
use denote.Param.Laws.{Laws}
use denote.RawPtr.{Ptr, block_ptr, null_ptr}
use denote.Shares.{Shares-less}
use denote.Sharing.{ShrLaws, said}
use denote.SharingLaws.{nothing_shr_laws, said_shr_laws, beside_shr_laws}
use denote.Struct.Lending.{Lends, Lends-nothing, Lends-said, Lends-both, Lends-false}
use Rattle.std.specs.Prelude.{List, [], ◌∷◌, Option, Some, None}
use Rattle.std.specs.Mem.{type_size}
use Rattle.op_arena.specs.CellRows.{owns_place, owns_row, owns_places, lends_place, lends_row, lends_places, below_limit}

module _ (R : RattleType) (laws : RowLaws R) where
  place_laws : (b at : ℕ) (place : Option R.Denot) → ShrLaws (lends_place R b at place)
  place_laws b at None = nothing_shr_laws
  place_laws b at (Some value) = laws value b at

  row_laws : (b at : ℕ) (places : List (Option R.Denot)) → ShrLaws (lends_row R b at places)
  row_laws b at [] = nothing_shr_laws
  row_laws b at (place ∷ rest) = beside_shr_laws _ _ (place_laws b at place) (row_laws b (at + type_size R) rest)

  pub places_laws : (first : Ptr) (places : List (Option R.Denot)) → ShrLaws (lends_places R first places)
  places_laws null_ptr places = said_shr_laws ffalse tt
  places_laws (block_ptr b at) places = beside_shr_laws _ _ (said_shr_laws (below_limit R places) tt) (row_laws b at places)

module _ {M : Type 1} {𝓤 : Ura M} (𝓛 : Logic 𝓤) (life : Lft) (R : RattleType) (laws : Laws R) (within : Incl life R.lives) where
  place_lent : (b at : ℕ) (place : Option R.Denot) → Lends 𝓛 (owns_place R b at place) (lends_place R b at place) life
  place_lent b at None = Lends-nothing 𝓛 (owns_place R b at None) life
  place_lent b at (Some value) = λ κ ts. Shares-less 𝓛 R R.lives life within (laws.shares 𝓛) value κ ts b at

  row_lent : (b at : ℕ) (places : List (Option R.Denot)) → Lends 𝓛 (owns_row R b at places) (lends_row R b at places) life
  row_lent b at [] = Lends-nothing 𝓛 ftrue life
  row_lent b at (place ∷ rest) =
      let next = at + type_size R in
      Lends-both 𝓛 (owns_place R b at place) (owns_row R b next rest) (lends_place R b at place) (lends_row R b next rest) life (place_lent b at place) (row_lent b next rest)

  pub places_lent : (first : Ptr) (places : List (Option R.Denot)) → Lends 𝓛 (owns_places R first places) (lends_places R first places) life
  places_lent null_ptr places = Lends-false 𝓛 (said ffalse) life
  places_lent (block_ptr b at) places =
      let small = below_limit R places in
      Lends-both 𝓛 small (owns_row R b at places) (said small) (lends_row R b at places) life (Lends-said 𝓛 small tt life) (row_lent b at places)
