-- A row as it is stored: without its words, which are never read back.
use Rattle.std.specs.Prelude.{ℕ, List, refl}
use Rattle.std.specs.Coded.{Coded, code_by, coded×, coded_ℕ, coded_list}

-- by which pass a step was done, of what kind it is, and its bytes
pub record Stored : Type 0 where
  pub pass : ℕ
  pub kind : ℕ
  pub bytes : List ℕ

-- a row is stored as the tuple of its fields
abbrev pub stored_code : Coded Stored
stored_code =
    code_by (ℕ × (ℕ × List ℕ)) (coded× coded_ℕ (coded× coded_ℕ (coded_list coded_ℕ)))
    (λ s. (s.pass, (s.kind, s.bytes)))
    (λ p. record { pass = p.0; kind = p.1.0; bytes = p.1.1 })
    (λ _. refl)
