-- Measuring cells one after the other.
use Rattle.std.proofs.Common.{◌≡◌, ℕ, ◌+◌, ◌*◌, ◌≤◌, List, [], ◌∷◌, ◌++◌, length, ap, refl, arith}
use Rattle.std.specs.List.{flat_map}
use Rattle.std.proofs.lemmas.List.{length-append}
use Rattle.delta_codec.specs.Measures.{most_cell}
use Rattle.delta_codec.specs.Parts.{CellParts, TotalParts, cell_bytes, list_bytes, run_bytes, total_bytes}
use Rattle.delta_codec.specs.Frames.{FrameParts, content_bytes}
use Rattle.dots.specs.DotSets.{Run}

pub value_more : (x : CellParts) (left rest : List CellParts) (size n total : ℕ) → left ≡ x ∷ rest → n ≡ length (cell_bytes x) → size + length (flat_map cell_bytes left) ≡ total → size + n + length (flat_map cell_bytes rest) ≡ total
value_more x left rest size n total step n_is so_far =
    let bytes : length (flat_map cell_bytes left) ≡ length (cell_bytes x ++ flat_map cell_bytes rest) = ap (λ (xs : List CellParts). length (flat_map cell_bytes xs)) step in
    let parts : length (cell_bytes x ++ flat_map cell_bytes rest) ≡ length (cell_bytes x) + length (flat_map cell_bytes rest) = length-append (cell_bytes x) (flat_map cell_bytes rest) in
    omega (arith, bytes, parts, n_is, so_far)

pub limit_more : (x : CellParts) (left rest : List CellParts) (size n most : ℕ) → left ≡ x ∷ rest → n ≤ most_cell → size + most_cell * length left ≤ most → size + n + most_cell * length rest ≤ most
limit_more x left rest size n most step few so_far = let len : length left ≡ length (x ∷ rest) = ap length step in omega (arith, len, few, so_far)

runs_size : (runs : List Run) → length (flat_map run_bytes runs) ≡ 17 * length runs
runs_size [] = refl
runs_size (run ∷ runs) = let rest = runs_size runs in omega arith

totals_size : (totals : List TotalParts) → length (flat_map total_bytes totals) ≡ 19 * length totals
totals_size [] = refl
totals_size (total ∷ totals) = let rest = totals_size totals in omega arith

-- how many bytes stand behind the length
pub content_size : (parts : FrameParts) (n m : ℕ) → n ≡ length (flat_map cell_bytes parts.cells) → m ≡ length parts.totals → 24 + (17 * length parts.runs + (n + 19 * m)) ≡ length (content_bytes parts)
content_size parts n m cells totals =
    let a = length-append (flat_map run_bytes parts.runs) (list_bytes cell_bytes parts.cells ++ list_bytes total_bytes parts.totals) in
    let b = length-append (flat_map cell_bytes parts.cells) (list_bytes total_bytes parts.totals) in
    omega (arith, a, b, runs_size parts.runs, totals_size parts.totals, cells, totals)
