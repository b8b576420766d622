-- Why a row is no base.
use Rattle.std.proofs.Common.{◌≡◌, ◌⊎◌, ℕ, List, inl, inr, Result, Ok, Err, IfErr, refl}
use Rattle.stored_steps.specs.declared.base_fault.BaseFault.{BaseFault}
use Rattle.stored_steps.specs.declared.base_fault.BaseFault.TheVariants as why
use Rattle.stored_steps.specs.declared.row_kind.RowKind.TheVariants.{Base}
use Rattle.stored_steps.specs.BaseFaults.{IsAnyBaseCause, IsBaseRowCause, IsHeading, IsHeadingCause}
use Rattle.stored_steps.specs.Kinds.{kind_number}
use Rattle.stored_steps.specs.Stored.{Stored}
use Rattle.store_listing.specs.Causes.{IsTextFault, base_fault}

-- a row has no heading, so it is no base
pub no_heading : (row : Stored) (f : BaseFault) → (f ≡ why.Memory) ⊎ IsHeadingCause row f → (f ≡ why.Memory) ⊎ IsAnyBaseCause row f
no_heading row f (inl memory) = inl memory
no_heading row f (inr cause) = inr (inl cause)

-- it has a heading, and is no base of the site and the queues that this names
pub named : {T : Type 0} (row : Stored) (site : ℕ) (names : List (List ℕ)) (r : Result T BaseFault) → IsHeading row site names → IfErr r (λ f. (f ≡ why.Memory) ⊎ IsBaseRowCause site names row f)
    → IfErr r (λ f. (f ≡ why.Memory) ⊎ IsAnyBaseCause row f)
named row site names (Ok base) heading h = tt
named row site names (Err f) heading (inl memory) = inl memory
named row site names (Err f) heading (inr cause) = inr (inr (record { site = site; names = names; heading = heading; cause = cause }))

-- the fault of a row that is no base
pub of_base : (position : ℕ) (row : Stored) (f : BaseFault) → row.kind ≡ kind_number Base → (f ≡ why.Memory) ⊎ IsAnyBaseCause row f → IsTextFault position row (base_fault position f)
of_base position row why.Memory kind cause = (tt, λ e. absurd (cc))
of_base position row why.NoBase kind (inl memory) = absurd (cc)
of_base position row why.NoBase kind (inr cause) = ((refl, kind, cause), λ e. absurd (cc))
of_base position row why.BadVersion kind (inl memory) = absurd (cc)
of_base position row why.BadVersion kind (inr cause) = ((refl, kind, cause), λ e. absurd (cc))
of_base position row why.WrongSite kind (inl memory) = absurd (cc)
of_base position row why.WrongSite kind (inr cause) = ((refl, kind, cause), λ e. absurd (cc))
of_base position row why.WrongList kind (inl memory) = absurd (cc)
of_base position row why.WrongList kind (inr cause) = ((refl, kind, cause), λ e. absurd (cc))
of_base position row why.Truncated kind (inl memory) = absurd (cc)
of_base position row why.Truncated kind (inr cause) = ((refl, kind, cause), λ e. absurd (cc))
of_base position row (why.Decode d) kind (inl memory) = absurd (cc)
of_base position row (why.Decode d) kind (inr cause) = ((refl, kind, cause), λ e. absurd (cc))
of_base position row why.WrongFrame kind (inl memory) = absurd (cc)
of_base position row why.WrongFrame kind (inr cause) = ((refl, kind, cause), λ e. absurd (cc))
of_base position row why.Trailing kind (inl memory) = absurd (cc)
of_base position row why.Trailing kind (inr cause) = ((refl, kind, cause), λ e. absurd (cc))
of_base position row (why.Parts d) kind (inl memory) = absurd (cc)
of_base position row (why.Parts d) kind (inr cause) = ((refl, kind, cause), λ e. absurd (cc))
