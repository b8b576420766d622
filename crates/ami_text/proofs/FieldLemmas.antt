-- The first value of a name among kept fields.
use Rattle.std.proofs.Common.{◌≡◌, ℕ, ◌+◌, ◌<◌, Bool, true, false, List, length, drop, map, get_or, Some, refl}
use Rattle.std.specs.Bool.{Decides}
use Rattle.std.proofs.lemmas.List.{drop_more}
use Rattle.std.proofs.lemmas.Slice.Eq.{bytes_eq-Decides}
use Rattle.std.proofs.lemmas.Bool.Decides.{same_from_decides}
use Rattle.std.specs.Char.{to_ascii_lowercase}
use Rattle.ami_text.specs.MessageFields.{NameAndValue, first_value, same_name}

-- a test of two names gives what the definition does
pub same_name_tested : (a b : List ℕ) (r : Bool) → Decides r (map to_ascii_lowercase a ≡ map to_ascii_lowercase b) → same_name a b ≡ r
same_name_tested a b r test = same_from_decides (same_name a b) r (bytes_eq-Decides (map to_ascii_lowercase a) (map to_ascii_lowercase b)) test

-- the first of these fields has the name
pub first_value_found : (name : List ℕ) (fields : List NameAndValue) (k : ℕ) (field : NameAndValue) → k < length fields → field ≡ get_or fields k field
    → same_name field.0 name ≡ true
    → first_value name (drop k fields) ≡ Some field.1
first_value_found name fields k field lt is e = rw (drop_more fields k field lt, ← is, e) refl

-- the first of these fields has another name
pub first_value_passed : (name : List ℕ) (fields : List NameAndValue) (k : ℕ) (field : NameAndValue) → k < length fields → field ≡ get_or fields k field
    → same_name field.0 name ≡ false
    → first_value name (drop k fields) ≡ first_value name (drop (k + 1) fields)
first_value_passed name fields k field lt is e = rw (drop_more fields k field lt, ← is, e) refl
