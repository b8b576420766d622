-- How many values each chunk holds, and where a value lies. Only this crate's own clauses cite this module.
use Rattle.std.specs.Prelude.{◌≡◌, ℕ, zero, suc, ◌+◌, ◌-◌, ◌^◌, ◌<◌, min, List, [], ◌∷◌, ◌++◌, length}
use Rattle.op_arena.specs.Columns.{Column}

-- how many values a chunk holds, by its number from 0: 1, 1, 2, 4, ..
abbrev pub size : ℕ → ℕ
size zero = 1
size (suc chunk) = 2 ^ chunk

-- how many values the first `chunks` chunks hold together
abbrev pub total : ℕ → ℕ
total zero = 0
total (suc chunks) = 2 ^ chunks

-- the value at `index`, counted over all chunks, is at the place `place` of the chunk of the number
-- `chunk`
abbrev pub IsPlaceOf : ℕ → ℕ → ℕ → Type 0
IsPlaceOf index chunk place = (total chunk + place ≡ index) × (place < size chunk)

module _ {X : Type 0} where
  -- the values of a list of chunks, one chunk after another
  abbrev pub all_items : List (Column X) → List X
  all_items [] = []
  all_items (c ∷ cs) = c.items ++ all_items cs

  -- `n` values fill a list of chunks one after another, the first of which has the number `chunk`:
  -- each has its size, and is full before the next has one
  abbrev pub IsLaid : ℕ → ℕ → List (Column X) → Type 0
  IsLaid chunk n [] = n ≡ 0
  IsLaid chunk n (c ∷ cs) = (c.capacity ≡ size chunk) × (length c.items ≡ min (size chunk) n) × IsLaid (suc chunk) (n - size chunk) cs
