-- Cells that rise by their dots: what is found in them, and what they are after one is put in, replaced or taken out.
use Rattle.std.proofs.Common.{◌≡◌, ◌≢◌, ℕ, ◌≤◌, ◌<◌, true, false, not, List, ◌∷◌, length, get_or, set, Some, None}
use Rattle.std.specs.List.{AllWithin, insert, remove}
use Rattle.std.specs.List.Sorted.{IsPartitionedBy}
use Rattle.std.specs.Ordering.{is_lt, eq_by_cmp}
use Rattle.std.specs.FinMap.Entries.{put, find, is_sorted, below_all, where_key}
use Rattle.dots.specs.Values.{Dot}
use Rattle.dots.specs.Orders.{dot_cmp}
use Rattle.dots.proofs.DotOrder.{dots_total, dots_exact}
use Rattle.live_cells.specs.declared.live_dot.LiveDot.{LiveDot}
use Rattle.live_cells.specs.LiveLists.{holding, entries_of}
use Rattle.live_cells.proofs.Rising as rising

-- the cells rise
abbrev pub Rise : List LiveDot → Type 0
Rise cs = is_sorted dot_cmp (entries_of cs) ≡ true

-- the first i cells lie before a dot
abbrev pub Ahead : Dot → List LiveDot → ℕ → Type 0
Ahead d cs i = AllWithin (λ c. is_lt (dot_cmp c.dot d) ≡ true) cs 0 i

pub rise_tail : (c : LiveDot) (cs : List LiveDot) → Rise (c ∷ cs) → Rise cs
rise_tail = rising.rise_tail dot_cmp dots_total dots_exact (λ c. c.dot) holding

pub rise_head : (c : LiveDot) (cs : List LiveDot) → Rise (c ∷ cs) → below_all dot_cmp c.dot (entries_of cs) ≡ true
rise_head = rising.rise_head dot_cmp dots_total dots_exact (λ c. c.dot) holding

-- what lies before all of some cells lies before each
pub below_at : (d : Dot) (cs : List LiveDot) → below_all dot_cmp d (entries_of cs) ≡ true → (k : ℕ) (e : LiveDot) → k < length cs → is_lt (dot_cmp d (get_or cs k e).dot) ≡ true
below_at = rising.below_at dot_cmp dots_total dots_exact (λ c. c.dot) holding

pub below_from : (d x : Dot) (cs : List LiveDot) → is_lt (dot_cmp d x) ≡ true → below_all dot_cmp x (entries_of cs) ≡ true → below_all dot_cmp d (entries_of cs) ≡ true
below_from = rising.below_from dot_cmp dots_total dots_exact (λ c. c.dot) holding

-- the cells before a dot come first
pub partitioned : (d : Dot) (cs : List LiveDot) → Rise cs → IsPartitionedBy (λ c. is_lt (dot_cmp c.dot d)) cs
partitioned = rising.partitioned dot_cmp dots_total dots_exact (λ c. c.dot) holding

pub none_below : (d : Dot) (cs : List LiveDot) → below_all dot_cmp d (entries_of cs) ≡ true → find dot_cmp d (entries_of cs) ≡ None
none_below = rising.none_below dot_cmp dots_total dots_exact (λ c. c.dot) holding

-- what is found of a dot that has the cell at its place
pub found_at : (d : Dot) (cs : List LiveDot) (i : ℕ) (e : LiveDot) → Rise cs → i < length cs → d ≡ (get_or cs i e).dot → find dot_cmp d (entries_of cs) ≡ Some (holding (get_or cs i e))
found_at = rising.found_at dot_cmp dots_total dots_exact (λ c. c.dot) holding

-- nothing is found where the cell at the place lies after it
pub missed_at : (d : Dot) (cs : List LiveDot) (i : ℕ) → Rise cs → Ahead d cs i → i ≤ length cs → (here : (e : LiveDot) → i < length cs → is_lt (dot_cmp d (get_or cs i e).dot) ≡ true) → find dot_cmp d (entries_of cs) ≡ None
missed_at = rising.missed_at dot_cmp dots_total dots_exact (λ c. c.dot) holding

-- a cell that is put in at its place
pub put_at : (cs : List LiveDot) (i : ℕ) (c : LiveDot) → Rise cs → i ≤ length cs → Ahead c.dot cs i → (here : (e : LiveDot) → i < length cs → is_lt (dot_cmp c.dot (get_or cs i e).dot) ≡ true) → entries_of (insert cs i c) ≡ put dot_cmp c.dot (holding c) (entries_of cs)
put_at = rising.put_at dot_cmp dots_total dots_exact (λ c. c.dot) holding

-- a cell that takes the place of the one of its dot
pub set_at : (cs : List LiveDot) (i : ℕ) (c e : LiveDot) → Rise cs → i < length cs → c.dot ≡ (get_or cs i e).dot → entries_of (set cs i c) ≡ put dot_cmp c.dot (holding c) (entries_of cs)
set_at = rising.set_at dot_cmp dots_total dots_exact (λ c. c.dot) holding

-- the cell of a dot that is taken out
pub removed_at : (d : Dot) (cs : List LiveDot) (i : ℕ) (e : LiveDot) → Rise cs → i < length cs → Ahead d cs i → d ≡ (get_or cs i e).dot → entries_of (remove cs i) ≡ where_key dot_cmp (λ x. not (eq_by_cmp dot_cmp d x)) (entries_of cs)
removed_at = rising.removed_at dot_cmp dots_total dots_exact (λ c. c.dot) holding

pub same_place : (cs : List LiveDot) (i : ℕ) (e x : LiveDot) → i < length cs → get_or cs i e ≡ get_or cs i x
same_place = rising.same_place dot_cmp dots_total dots_exact (λ c. c.dot) holding

-- a cell that doesn't lie before a dot, and isn't its own, lies after it
pub lies_after : (d : Dot) (cs : List LiveDot) (i : ℕ) (x : LiveDot) → i < length cs → x ≡ get_or cs i x → d ≢ x.dot
    → AllWithin (λ c. is_lt (dot_cmp c.dot d) ≡ false) cs i (length cs) → (e : LiveDot) → i < length cs → is_lt (dot_cmp d (get_or cs i e).dot) ≡ true
lies_after = rising.lies_after dot_cmp dots_total dots_exact (λ c. c.dot) holding
