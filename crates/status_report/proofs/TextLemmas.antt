-- Texts that are written piece by piece.
use Rattle.std.proofs.Common.{◌≡◌, ℕ, List, ◌++◌, Result, Ok, Err, OnOk, append_assoc, ap, ◌∙◌}
use Rattle.ami_text.specs.WrittenLines.{field}

-- a piece that was written at the end
pub record Writes (before piece after : List ℕ) : Type 0 where
  pub is : after ≡ before ++ piece

pub wrote : (before piece after : List ℕ) → after ≡ before ++ piece → Writes before piece after
wrote before piece after h = record { is = h }

-- one that is the same as another
pub wrote_same : (before piece after same : List ℕ) → piece ≡ same → after ≡ before ++ piece → Writes before same after
wrote_same before piece after same e h = record { is = h ∙ ap (λ p. before ++ p) e }

-- what follows where a call has succeeded
pub when_ok : {A E P Q : Type 0} (r : Result A E) → (P → Q) → OnOk r P → OnOk r Q
when_ok (Ok x) f h = f h
when_ok (Err e) f h = h

-- a field whose value is the same
pub wrote_value : (before name value after same : List ℕ) → value ≡ same → after ≡ before ++ field name value → Writes before (field name same) after
wrote_value before name value after same e h = record { is = h ∙ ap (λ v. before ++ field name v) e }

-- one piece after the other
pub and_then : {before first between second after : List ℕ} → Writes before first between → Writes between second after → Writes before (first ++ second) after
and_then {before} {first} {between} {second} {after} p q = record { is = q.is ∙ ap (λ o. o ++ second) p.is ∙ append_assoc before first second }

-- where the last piece is written, all are
pub all_written : {X E : Type 0} (r : Result X E) (before all between last after : List ℕ) → (Writes between last after → Writes before all after) → OnOk r (after ≡ between ++ last) → OnOk r (after ≡ before ++ all)
all_written (Ok x) before all between last after f h = (f (record { is = h })).is
all_written (Err e) before all between last after f h = h
