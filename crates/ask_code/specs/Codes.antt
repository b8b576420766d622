-- Codes: the bytes of values, and the faults of other bytes. Numbers are big-endian.
use Rattle.std.specs.Prelude.{ℕ, ⊤, ◌≡◌, ◌≢◌, ◌<◌, ◌^◌, ◌⊎◌, Bool, true, false, IsTrue, List, [], ◌∷◌, ◌++◌, length, Option, Some, None, IfSome, is_some}
use Rattle.std.specs.Int.{w32, to_be_bytes}
use Rattle.ask_code.specs.declared.ask_fault.AskFault.{AskFault}
use Rattle.ask_code.specs.declared.ask_fault.AskFault.TheVariants.{BadBit, Truncated}

-- A code: the bytes of each value, the values that have an encoding, and the fault of bytes that begin with none.
pub record Code (A : Type 0) : Type 1 where
  pub spell : A → List ℕ
  pub IsGood : A → Type 0
  pub Fails : AskFault → List ℕ → Type 0

-- Bytes begin with a good value of a code, and the property holds of the value and of the bytes after it.
pub record After {A : Type 0} (code : Code A) (Next : A → List ℕ → Type 0) (bytes : List ℕ) : Type 0 where
  pub value : A
  pub rest : List ℕ
  pub good : code.IsGood value
  pub spelled : bytes ≡ code.spell value ++ rest
  pub next : Next value rest

-- ---- raw parts: their only fault is that bytes are missing

-- One byte.
abbrev pub byte_code : Code ℕ
byte_code = record { spell = λ byte. byte ∷ []; IsGood = λ byte. byte < 256; Fails = λ fault bytes. (bytes ≡ []) × (fault ≡ Truncated) }

-- A number of four bytes.
abbrev pub number_code : Code ℕ
number_code = record { spell = to_be_bytes w32; IsGood = λ n. n < 2 ^ 32; Fails = λ fault bytes. (length bytes < 4) × (fault ≡ Truncated) }

-- A length, one byte, is missing, or fewer bytes follow it than it says.
abbrev pub IsCutShort : List ℕ → Type 0
IsCutShort [] = ⊤
IsCutShort (len ∷ rest) = length rest < len

-- At most 255 bytes with their length before them, one byte.
abbrev pub counted_code : Code (List ℕ)
counted_code = record { spell = λ xs. length xs ∷ xs; IsGood = λ xs. length xs < 256; Fails = λ fault bytes. IsCutShort bytes × (fault ≡ Truncated) }

-- ---- codes made of others

-- Values with the bytes of their raw part, by `raw_of`. A raw part without a value has the fault `rule`.
abbrev pub coded : {R A : Type 0} → Code R → (A → R) → (A → Type 0) → AskFault → Code A
coded {R} {A} raw raw_of IsValue rule = record {
  spell = λ x. raw.spell (raw_of x);
  IsGood = IsValue;
  Fails = λ fault bytes. raw.Fails fault bytes ⊎ After raw (λ r rest. ((x : A) → IsValue x → raw_of x ≢ r) × (fault ≡ rule)) bytes;
}

-- Values with the bytes of their lead, by a code of its own, followed by the rest. The faults of the rest depend on the lead.
abbrev pub led : {A B : Type 0} → Code A → (B → A) → (B → List ℕ) → (B → Type 0) → (A → AskFault → List ℕ → Type 0) → Code B
led lead lead_of rest_bytes IsValue RestFails = record {
  spell = λ x. lead.spell (lead_of x) ++ rest_bytes x;
  IsGood = IsValue;
  Fails = λ fault bytes. lead.Fails fault bytes ⊎ After lead (λ first rest. RestFails first fault rest) bytes;
}

-- A value of one code, and then a value of another.
abbrev pub both : {A B : Type 0} → Code A → Code B → Code (A × B)
both a b = led a (λ p. p.0) (λ p. b.spell p.1) (λ p. a.IsGood p.0 × b.IsGood p.1) (λ first fault rest. b.Fails fault rest)

-- Values with the bytes of their view, by another code. The faults are those of that code, provided that each good value of it is
-- the view of a value.
abbrev pub viewed : {A B : Type 0} → Code B → (A → B) → (A → Type 0) → Code A
viewed code view IsValue = record { spell = λ x. code.spell (view x); IsGood = IsValue; Fails = code.Fails }

-- 1 for true and 0 for false
abbrev pub bit_of : Bool → ℕ
bit_of true = 1
bit_of false = 0

-- A bit, which takes a byte.
abbrev pub bit_code : Code Bool
bit_code = coded byte_code bit_of (λ bit. ⊤) BadBit

-- the bytes of a value, if there is one
abbrev pub optional_bytes : {A : Type 0} → (A → List ℕ) → Option A → List ℕ
optional_bytes spell None = []
optional_bytes spell (Some x) = spell x

-- A value that may be missing: a bit that says whether it is there, and the value.
abbrev pub optional : {A : Type 0} → Code A → Code (Option A)
optional code = led bit_code is_some (optional_bytes code.spell) (λ value. IfSome value code.IsGood) (λ there fault rest. IsTrue there × code.Fails fault rest)
