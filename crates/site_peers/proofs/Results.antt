-- What is known of a call that worked or failed.
use Rattle.std.proofs.Common.{◌⊎◌, inl, inr}
use Rattle.std.specs.Prelude.{Err, Ok, OnErr, OnOk, Result}

-- one thing holds where it worked, and the other where it failed
pub either : {T E A B : Type 0} (result : Result T E) → OnOk result A → OnErr result B → A ⊎ B
either (Ok x) done failed = inl done
either (Err e) done failed = inr failed
