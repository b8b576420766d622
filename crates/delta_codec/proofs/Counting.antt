-- Totals in the order of their keys are at most one for each site and queue.
use Rattle.std.proofs.Common.{◌≡◌, ℕ, ◌+◌, ◌*◌, ◌<◌, ◌≤◌, List, [], ◌∷◌, length, refl, arith}
use Rattle.std.specs.FinMap as map
use Rattle.std.specs.List.{All}
use Rattle.std.specs.declared.cmp.Ordering.{Ordering}
use Rattle.std.specs.declared.cmp.Ordering.TheVariants.{Less, Equal, Greater}
use Rattle.std.specs.Ordering.{MatchOrdering, is_lt, nat_cmp, ordering_then}
use Rattle.std.specs.FinMap.Entries.{below_all}
use Rattle.std.proofs.lemmas.Bool.{and_parts}
use Rattle.std.proofs.lemmas.Cmp.{ranked}
use Rattle.std.proofs.lemmas.List.Elements.{All-head, All-tail}
use Rattle.general_lemmas.specs.SortedEntries.{IsRising}
use Rattle.operations.specs.Totals.{Entries, IsTotal, Key, key_cmp}
use Rattle.general_lemmas.proofs.SortedEntries.{rising_head, rising_tail}
use Rattle.operations.proofs.TotalsLaws.{keys_total}
use Rattle.general_lemmas.proofs.TruthTables.{fact, less_of}
use Rattle.delta_codec.specs.declared.limits.TheConstants.{MOST_TOTALS}
use Rattle.delta_codec.specs.Parts.{TotalParts}

-- a key as one number
abbrev place : Key → ℕ
place key = key.site * 256 + key.queue

lesser : (o p : Ordering) (m n x y : ℕ) → MatchOrdering o (m < n) (m ≡ n) (n < m) → MatchOrdering p (x < y) (x ≡ y) (y < x) → x < 256 → y < 256 → ordering_then o p ≡ Less → m * 256 + x < n * 256 + y
lesser Less p m n x y a b c d h = omega arith
lesser Equal Less m n x y a b c d h = omega arith
lesser Equal Equal m n x y a b c d h = absurd cc
lesser Equal Greater m n x y a b c d h = absurd cc
lesser Greater p m n x y a b c d h = absurd cc

-- a key that lies before another is a lesser number
lesser_place : (a b : Key) → a.queue < 256 → b.queue < 256 → key_cmp a b ≡ Less → place a < place b
lesser_place a b p q h = lesser (nat_cmp a.site b.site) (nat_cmp a.queue b.queue) a.site b.site a.queue b.queue (ranked a.site b.site (nat_cmp a.site b.site) refl) (ranked a.queue b.queue (nat_cmp a.queue b.queue) refl) p q h

abbrev IsGood : TotalParts → Type 0
IsGood total = IsTotal total.0 total.1

few_from : (e : TotalParts) (es : List TotalParts) → IsRising key_cmp (e ∷ es) → All IsGood (e ∷ es) → length (e ∷ es) + place e.0 ≤ 16384
few_from e [] rising good = let at = All-head IsGood e [] good in omega (arith, at.site, at.queue)
few_from e (n ∷ es) rising good =
    let at = All-head IsGood e (n ∷ es) good in
    let next = All-head IsGood n es (All-tail IsGood e (n ∷ es) good) in
    let less = less_of (key_cmp e.0 n.0) (and_parts (is_lt (key_cmp e.0 n.0)) (below_all key_cmp e.0 es) (rising_head key_cmp keys_total e (n ∷ es) rising)).0 in
    let lower = lesser_place e.0 n.0 at.queue next.queue less in
    let rest = few_from n es (rising_tail key_cmp keys_total e (n ∷ es) rising) (All-tail IsGood e (n ∷ es) good) in
    omega (arith, lower, rest)

few_of : (es : List TotalParts) → IsRising key_cmp es → All IsGood es → length es ≤ 16384
few_of [] rising good = omega arith
few_of (e ∷ es) rising good = omega (arith, few_from e es rising good)

-- the entries of totals are few
pub few_totals : (entries : Entries) → All IsGood (map.entries entries) → length (map.entries entries) ≤ MOST_TOTALS
few_totals entries good = few_of (map.entries entries) (fact _ (map.entries_sorted entries)) good
