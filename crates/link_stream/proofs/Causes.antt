-- Why a stream gives no item.
use Rattle.std.proofs.Common.{◌≡◌, ◌∙◌, ◌∷◌, Bool, List, [], ap, arith, inl, length, subst, take, ℕ}
use Rattle.std.proofs.lemmas.List.{length-take-le, take-take}
use Rattle.std.specs.Int.{from_be_bytes, w32}
use Rattle.link_stream.specs.Items.{HasWholeItem, beat, size_in}
use Rattle.link_stream.specs.Receiving.{IsCause}
use Rattle.link_stream.specs.Tagged.{IsTagFault, TaggedState, TakesTagged}
use Rattle.link_stream.specs.declared.receive_fault.ReceiveFault.{ReceiveFault}
use Rattle.link_stream.specs.declared.receive_fault.ReceiveFault.TheVariants.{BadLength, CutOff, Ended, Exhausted, Failed, Memory, WrongTag}

-- the fault of a whole item's tag is a cause
pub cause_of_tag : (fault : ReceiveFault) (stream : TaggedState) (size : ℕ) (ended failed : Bool)
    → HasWholeItem stream.held size → IsTagFault fault stream size → IsCause fault stream ended failed
cause_of_tag WrongTag stream size ended failed whole is = (size, whole, is)
cause_of_tag Exhausted stream size ended failed whole is = ((size, whole, is.0), is.1)
cause_of_tag Memory stream size ended failed whole is = inl (size, whole, is)
cause_of_tag BadLength stream size ended failed whole is = absurd is
cause_of_tag Ended stream size ended failed whole is = absurd is
cause_of_tag CutOff stream size ended failed whole is = absurd is
cause_of_tag Failed stream size ended failed whole is = absurd is

-- four bytes that spell 0
zeros : (bytes : List ℕ) → length bytes ≡ 4 → size_in bytes ≡ 0 → bytes ≡ beat
zeros [] long none = absurd (omega (arith, long))
zeros (a ∷ []) long none = absurd (omega (arith, long))
zeros (a ∷ b ∷ []) long none = absurd (omega (arith, long))
zeros (a ∷ b ∷ c ∷ []) long none = absurd (omega (arith, long))
zeros (a ∷ b ∷ c ∷ d ∷ []) long none =
    let first : a ≡ 0 = omega (arith, none) in
    let second : b ≡ 0 = omega (arith, none) in
    let third : c ≡ 0 = omega (arith, none) in
    let last : d ≡ 0 = omega (arith, none) in
    ap (λ x. x ∷ b ∷ c ∷ d ∷ []) first ∙ ap (λ x. 0 ∷ x ∷ c ∷ d ∷ []) second ∙ ap (λ x. 0 ∷ 0 ∷ x ∷ d ∷ []) third ∙ ap (λ x. 0 ∷ 0 ∷ 0 ∷ x ∷ []) last
zeros (a ∷ b ∷ c ∷ d ∷ e ∷ more) long none = absurd (omega (arith, long))

-- a whole item of four bytes that was taken is a beat
pub takes_beat : (old new : TaggedState) (size : ℕ) → HasWholeItem old.held size → size ≡ 4 → TakesTagged old (take size old.held) new → TakesTagged old beat new
takes_beat old new size whole four taken =
    let long : length (take size old.held) ≡ 4 = length-take-le size old.held (omega (arith, whole.2)) ∙ four in
    let none : size_in old.held ≡ 0 = omega (arith, whole.1, four) in
    let same : size_in (take size old.held) ≡ size_in old.held = ap (λ front. from_be_bytes w32 front) (take-take 4 size old.held (omega (arith, four))) in
    let is : take size old.held ≡ beat = zeros (take size old.held) long (same ∙ none) in
    subst (λ b. TakesTagged old b new) is taken
