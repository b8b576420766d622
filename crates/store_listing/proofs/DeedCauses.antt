-- Why the text of a deed isn't made, as the cause of its row.
use Rattle.std.proofs.Common.{◌≡◌, ℕ, Some, None, refl, sym, subst, inl, inr}
use Rattle.site_journal.specs.declared.step.StepDeed.{StepDeed}
use Rattle.site_journal.specs.declared.step.StepDeed.TheVariants.{Asked, Took, Cut, Whole}
use Rattle.stored_steps.specs.declared.row_kind.RowKind.TheVariants as kind
use Rattle.stored_steps.specs.StepRows.{row_of_deed, row_with}
use Rattle.stored_steps.specs.Stored.{Stored}
use Rattle.store_listing.specs.declared.listing_fault.ListingFault.{ListingFault}
use Rattle.store_listing.specs.declared.listing_fault.ListingFault.TheVariants.{Row, Base, Frame, Write, Memory}
use Rattle.store_listing.specs.Causes.{HasFrame, IsDeedFault, IsFrameFault, IsTextFault}

-- an allocation was refused
pub memory_cause : (position : ℕ) (row : Stored) (fault : ListingFault) → fault ≡ Memory → IsTextFault position row fault
memory_cause position row fault memory = subst (IsTextFault position row) (sym memory) (tt, λ e. absurd (cc))

-- the bytes of a row aren't one frame
frame_cause : (position : ℕ) (row : Stored) (fault : ListingFault) → HasFrame row → IsFrameFault position row.bytes fault → IsTextFault position row fault
frame_cause position row (Row place fault) frame why = absurd why
frame_cause position row (Base place fault) frame why = absurd why
frame_cause position row (Frame place fault) frame why = ((why.0, frame, why.1), λ e. absurd (cc))
frame_cause position row Write frame why = absurd why
frame_cause position row Memory frame why = (tt, λ e. absurd (cc))

made_cause : (position : ℕ) (row made : Stored) (fault : ListingFault) → Some made ≡ Some row → HasFrame made → IsFrameFault position made.bytes fault → IsTextFault position row fault
made_cause position row made fault is frame why = let same : made ≡ row = cc in subst (λ r. IsTextFault position r fault) same (frame_cause position made fault frame why)

-- the text of a deed isn't made, for a cause of its row
pub deed_cause : (position pass : ℕ) (deed : StepDeed) (row : Stored) (fault : ListingFault) → row_of_deed pass deed ≡ Some row → IsDeedFault position deed fault → IsTextFault position row fault
deed_cause position pass (Asked asked answer) row fault is why = memory_cause position row fault why
deed_cause position pass (Took bytes) row fault is why = made_cause position row (row_with pass kind.Took bytes) fault is (inl refl) why
deed_cause position pass (Cut None) row fault is why = absurd why
deed_cause position pass (Cut (Some bytes)) row fault is why = made_cause position row (row_with pass kind.Cut bytes) fault is (inr (inl refl)) why
deed_cause position pass (Whole bytes) row fault is why = made_cause position row (row_with pass kind.Whole bytes) fault is (inr (inr refl)) why
