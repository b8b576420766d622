use Rattle.std.proofs.Common.{◌≡◌, ◌+◌, ◌-◌, ◌^◌, ◌<◌, ◌∙◌, ℕ, List, [], ◌∷◌, ◌++◌, min, sum_by, take, length, get_or, sym, ap, arith}
use Rattle.std.proofs.lemmas.List.{take_more}
use Rattle.std.proofs.lemmas.List.Sums.{sum_by-append, sum_by-cons}
use Rattle.stored_steps.specs.Stored.{Stored}
use Rattle.site_store.specs.Restored.{body_bytes}
use Rattle.site_store.proofs.restoring.body_bytes.Goals as goal

-- the bytes of one row more
one_more : (rows : List Stored) (i : ℕ) (row : Stored) (before size after : ℕ) → i < length rows → row ≡ get_or rows i row → before ≡ min (sum_by body_bytes (take i rows)) (2 ^ 64 - 1) → size ≡ length row.bytes
    → after ≡ min (before + size) (2 ^ 64 - 1) → after ≡ min (sum_by body_bytes (take (i + 1) rows)) (2 ^ 64 - 1)
one_more rows i row before size after low is was sized now =
    let whole : take (i + 1) rows ≡ take i rows ++ row ∷ [] = take_more rows i row low ∙ ap (λ (r : Stored). take i rows ++ r ∷ []) (sym is) in
    let summed : sum_by body_bytes (take (i + 1) rows) ≡ sum_by body_bytes (take i rows) + sum_by body_bytes (row ∷ []) = ap (sum_by body_bytes) whole ∙ sum_by-append body_bytes (take i rows) (row ∷ []) in
    let last : sum_by body_bytes (row ∷ []) ≡ length row.bytes + 0 = sum_by-cons body_bytes row [] in
    omega (arith, was, sized, now, summed, last)

pub loop-row-preserved : goal.loop-row-preserved
loop-row-preserved c =
    one_more c.args.rows.now c.loop-row.row-index c.row-item.result c.loop-row.bytes (length c.body.result.now) c.saturating_add-bytes.result c.loop-row-test.true c.row-item.is c.loop-row.invariant (ap length c.body.ensures)
    c.saturating_add-bytes.ensures
