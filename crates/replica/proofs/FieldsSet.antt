-- Some field is set of what an add or a write sets.
use Rattle.std.proofs.Common.{◌≡◌, ℕ, Some, None, ap}
use Rattle.dots.specs.declared.label.Label.{Label}
use Rattle.dots.specs.Values.{PauseState, Stamp}
use Rattle.operations.specs.Conditions.{DotFields}
use Rattle.operations.specs.Operations.{Setting, SetLabel, SetPause, SetPenalty, SetRing}
use Rattle.operations.specs.Registers.{Entry}
use Rattle.member_orset.specs.Members.{HasField}
use Rattle.replica.specs.SetFields.{fields_added, fields_written}

-- nothing isn't an entry
no_entry : {T : Type 0} (entry : Entry T) → Some entry ≡ None → ⊥
no_entry entry e = (cc)

-- an add sets fields
pub added_set : (stamp : Stamp) (penalty : ℕ) (pause : PauseState) (label : Label) → HasField (fields_added stamp penalty pause label)
added_set stamp penalty pause label e = no_entry (record { stamp = stamp; value = penalty }) (ap (λ (f : DotFields). f.penalty) e)

-- a write sets a field
pub written_set : (stamp : Stamp) (setting : Setting) → HasField (fields_written stamp setting)
written_set stamp (SetPenalty penalty) e = no_entry (record { stamp = stamp; value = penalty }) (ap (λ (f : DotFields). f.penalty) e)
written_set stamp (SetPause pause) e = no_entry (record { stamp = stamp; value = pause }) (ap (λ (f : DotFields). f.pause) e)
written_set stamp (SetLabel label) e = no_entry (record { stamp = stamp; value = label }) (ap (λ (f : DotFields). f.label) e)
written_set stamp (SetRing ring) e = no_entry (record { stamp = stamp; value = ring }) (ap (λ (f : DotFields). f.ring) e)
