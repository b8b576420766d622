-- A `&` to places reaches each value. Assumes `Logic`.
use mathlib.Core.List.{[], ◌++◌}
use base.Fml.{Incl-trans}
use contract.BorrowLft.{meet_⊑_left}
use denote.RattleType.{RattleType}
use denote.Param.Laws.{Laws}
use denote.Param.Shared.{copy_shared}
use denote.Struct.Field.{RawPtr-field}
use denote.Struct.Laws.{RawPtr-copy}
use denote.Struct.Lending.{of_Lends}
use Rattle.op_arena.specs.contracts.places.Places as places
use Rattle.op_arena.proofs.Lending.{places_laws, places_lent}
use Rattle.op_arena.proofs.places.Places.TheLaw.Statement.{statement}

pub shares : (R : RattleType) (laws : Laws R) → statement R laws
shares R laws =
    of_Lends (places.struct R) (places.the_codes R.Denot R.coded) (places.the_heap R) (places.the_lent R) (λ d _. places_laws R laws.shr_laws d.first d.slots)
    (copy_shared RawPtr-field RawPtr-copy, tt)
    (λ M 𝓤 𝓛 d _. places_lent 𝓛 (places.the_row R).lives R laws (Incl-trans (meet_⊑_left (R.lives ++ []) _) (meet_⊑_left R.lives [])) d.first d.slots)
