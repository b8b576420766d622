-- A `&` to a lease gives nothing. Assumes `Logic`.
use denote.RattleType.{RattleType}
use denote.RawPtr.{RawPtr}
use denote.SharingLaws.{nothing_shr_laws}
use denote.Param.Laws.{Laws}
use denote.Param.Shared.{copy_shared}
use denote.Struct.Laws.{field_copy}
use denote.Struct.Lending.{of_Lends, Lends-nothing}
use Rattle.core.specs.declared.alloc.Allocator.{Ghosts}
use Rattle.core.specs.contracts.marker.PhantomData as marker
use Rattle.op_arena.specs.contracts.places.Lease as lease
use Rattle.op_arena.proofs.places.Lease.TheLaw.Statement.{statement}

pub shares : (R A : RattleType) (ghosts : Ghosts A.Denot) (laws : Laws R) (alloc_laws : Laws A) → statement R A ghosts laws alloc_laws
shares R A ghosts laws alloc_laws =
    of_Lends (lease.struct R A ghosts) (lease.the_codes R.Denot A.Denot R.coded A.coded (marker.the_row RawPtr).coded) (lease.the_heap R A ghosts) (lease.the_lent R A ghosts) (λ _ _. nothing_shr_laws)
    (copy_shared (marker.the_field RawPtr) (field_copy (marker.the_type RawPtr) tt), tt) (λ M 𝓤 𝓛 d _. Lends-nothing 𝓛 (lease.the_heap R A ghosts d) (lease.the_row R A ghosts).lives)
