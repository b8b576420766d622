-- What contracts see of `Totals`.
use Rattle.std.specs.Prelude.{ℕ, ◌≤◌, refl}
use Rattle.std.specs.Coded.{Coded, code_by, coded×, coded_ℕ}
use Rattle.operations.specs.Totals.{Entries, entries_code, count_missing}

-- what contracts see of `Totals`: its entries, and for how many more entries room is reserved
pub record Tally : Type 0 where
  pub entries : Entries
  pub room : ℕ

-- a tally is stored as the pair of its entries and its room
abbrev pub tally_code : Coded Tally
tally_code = code_by (Entries × ℕ) (coded× entries_code coded_ℕ) (λ t. (t.entries, t.room)) (λ p. record { entries = p.0; room = p.1 }) (λ _. refl)

-- `tally` has room for an entry at each key that `entries` has and it lacks
abbrev pub HasRoomFor : Tally → Entries → Type 0
HasRoomFor tally entries = count_missing tally.entries entries ≤ tally.room
