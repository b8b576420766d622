-- Places may cross threads as their values may, and a lease as its allocator may.
use Rattle.std.specs.Prelude.{ℕ, ◌+◌, List, [], ◌∷◌, Option, Some, None}
use Rattle.std.specs.Mem.{type_size}
use base.Fraction.{full_share}
use base.Shift.{Keyless}
use denote.RattleType.{RattleType}
use denote.RawPtr.{Ptr, block_ptr, null_ptr}
use denote.Struct.Struct.{exits_of}
use denote.Struct.Owning.{shape, fields, to}
use denote.Param.Send.{IsSend, IsSync, Common, AllSend, part_keyless, owning_send, struct_send, struct_sync, sendable}
use Rattle.core.specs.declared.alloc.Allocator.{Ghosts}
use Rattle.std_alloc.proofs.SendSync.{FreesAnywhere, quiet}
use Rattle.op_arena.specs.CellRows.{owns_row, owns_places, lends_row, lends_places}
use Rattle.op_arena.specs.contracts.places.Places as places
use Rattle.op_arena.specs.contracts.places.Lease as lease

module _ (R : RattleType) where
  row_Keyless : IsSend R → (b at : ℕ) (row : List (Option R.Denot)) → Keyless (owns_row R b at row)
  row_Keyless sends b at [] = tt
  row_Keyless sends b at (None ∷ row) = (tt, row_Keyless sends b (at + type_size R) row)
  row_Keyless sends b at (Some x ∷ row) = (part_keyless R sends full_share x b at, row_Keyless sends b (at + type_size R) row)

  places_Keyless : IsSend R → (first : Ptr) (row : List (Option R.Denot)) → Keyless (owns_places R first row)
  places_Keyless sends null_ptr row = tt
  places_Keyless sends (block_ptr b at) row = (tt, row_Keyless sends b at row)

  row_Common : IsSync R → (b at : ℕ) (row : List (Option R.Denot)) → Common (lends_row R b at row)
  row_Common syncs b at [] κ = tt
  row_Common syncs b at (None ∷ row) κ = (tt, row_Common syncs b (at + type_size R) row κ)
  row_Common syncs b at (Some x ∷ row) κ = (syncs.shared x b at κ, row_Common syncs b (at + type_size R) row κ)

  places_Common : IsSync R → (first : Ptr) (row : List (Option R.Denot)) → Common (lends_places R first row)
  places_Common syncs null_ptr row κ = tt
  places_Common syncs (block_ptr b at) row κ = (tt, row_Common syncs b at row κ)

  pub places_send : IsSend R → IsSend (places.the_row R)
  places_send sends =
      let O = places.the_type R in let all : AllSend (fields O) = (search sendable, tt) in
      owning_send O all (λ d. places_Keyless sends d.first d.slots) (λ k. quiet (to O) (exits_of k (fields O)) ((struct_send (shape O) all).leaving k))

  pub places_sync : IsSync R → IsSync (places.the_row R)
  places_sync syncs =
      let O = places.the_type R in record { shared = λ d b at κ. ((struct_sync (shape O) (search sendable, tt)).shared (to O d) b at κ, places_Common syncs d.first d.slots κ) }

  module _ (A : RattleType) (g : Ghosts A.Denot) where
    pub lease_send : FreesAnywhere A.Denot g → IsSend (lease.the_row R A g)
    lease_send frees =
        let O = lease.the_type R A g in let all : AllSend (fields O) = (search sendable, tt) in
        owning_send O all (λ d. frees.frees d.alloc _ d.first) (λ k. quiet (to O) (exits_of k (fields O)) ((struct_send (shape O) all).leaving k))

    pub lease_sync : IsSync (lease.the_row R A g)
    lease_sync = let O = lease.the_type R A g in record { shared = λ d b at κ. ((struct_sync (shape O) (search sendable, tt)).shared (to O d) b at κ, tt) }
