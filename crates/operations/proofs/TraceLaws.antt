-- A knowledge whose operations leave traces is empty where what stands for it is.
use Rattle.std.proofs.Common.{◌≡◌, ◌≢◌, ℕ, ◌==◌, ◌&&◌, ◌||◌, if◌then◌else◌, Bool, true, false, true≢false, List, [], ◌∷◌, Option, refl, sym, ap, ◌∙◌, arith}
use Rattle.std.specs.Option.{unwrap_or}
use Rattle.std.specs.List.{list_any}
use Rattle.std.specs.Ordering.{eq_by_cmp, is_eq}
use Rattle.std.specs.FinMap as map
use Rattle.std.specs.FinSet as set
use Rattle.std.proofs.lemmas.Bool.Decides.{nat_tests}
use Rattle.std.proofs.lemmas.Cmp.{tied_itself}
use Rattle.dots.specs.declared.calls.Calls.{Calls}
use Rattle.dots.specs.declared.calls.Calls.TheVariants.{Completed, Abandoned}
use Rattle.dots.specs.Values.{Dot}
use Rattle.dots.specs.Orders.{dot_cmp}
use Rattle.operations.specs.Conditions.{Condition, Represents}
use Rattle.dots.specs.CountedCalls.{same_calls}
use Rattle.operations.specs.Counts.{count_in, site_total}
use Rattle.operations.specs.Operations.{Operation, Add, Write, Remove, Count}
use Rattle.operations.specs.Knowledge.{Knowledge, asserts, is_asserted, is_dot, is_named, known_dots, names}
use Rattle.dots.specs.CountedCalls.{no_calls}
use Rattle.operations.specs.Totals.{Entries, key_cmp, totals_of}
use Rattle.operations.specs.Traces.{LeaveTraces, LeavesTrace}
use Rattle.dots.proofs.DotOrder.{dots_exact, dots_total}
use Rattle.operations.proofs.KnownLaws.{known_dot}
use Rattle.general_lemmas.proofs.Membership.{first_in}

is_itself : (dot : Dot) → is_dot dot dot ≡ true
is_itself dot = ap is_eq (tied_itself dots_total dot)

-- a set that isn't empty has a dot
some_dot : (dots : set.FinSet dot_cmp) → dots ≢ set.empty → (dot : Dot) × (set.contains dots dot ≡ true)
some_dot dots some = by (set.items dots) refl
  where
    by : (ds : List Dot) → set.items dots ≡ ds → (dot : Dot) × (set.contains dots dot ≡ true)
    by [] e = absurd (some (set.same_set dots_total dots_exact _ _ (λ q. set.contains-items dots q ∙ ap (list_any (eq_by_cmp dot_cmp q)) e ∙ sym (set.contains-empty dot_cmp q))))
    by (d ∷ ds) e = (d, set.contains-items dots d ∙ ap (list_any (eq_by_cmp dot_cmp d)) e ∙ ap (λ b. b || list_any (eq_by_cmp dot_cmp d) ds) (is_itself d))

-- a dot that the first operation asserts, or names, is known
asserted_known : (o : Operation) (k : Knowledge) (dot : Dot) → asserts dot o ≡ true → set.contains (known_dots (o ∷ k)) dot ≡ true
asserted_known o k dot h = known_dot (o ∷ k) dot ∙ ap (λ b. (b || is_asserted k dot) || is_named (o ∷ k) dot) h

named_known : (o : Operation) (k : Knowledge) (dot : Dot) → names dot o ≡ true → set.contains (known_dots (o ∷ k)) dot ≡ true
named_known o k dot h = known_dot (o ∷ k) dot ∙ ap (λ b. is_asserted (o ∷ k) dot || (b || is_named k dot)) h ∙ or_true (is_asserted (o ∷ k) dot)
  where
    or_true : (b : Bool) → (b || true) ≡ true
    or_true true = refl
    or_true false = refl

-- no dot is known to what knows none
none_known : (k : Knowledge) (dot : Dot) → known_dots k ≡ set.empty → set.contains (known_dots k) dot ≡ true → ⊥
none_known k dot e h = true≢false (sym h ∙ ap (λ s. set.contains s dot) e ∙ set.contains-empty dot_cmp dot)

-- calls are of their own kind
pub same_kind : (calls : Calls) → same_calls calls calls ≡ true
same_kind Completed = refl
same_kind Abandoned = refl

own_number : (n : ℕ) → (n == n) ≡ true
own_number n = grind (arith, nat_tests)

counts_itself : (site queue : ℕ) (calls : Calls) (total : ℕ) → count_in site queue calls (Count site queue calls total) ≡ total
counts_itself site queue calls total = λ i. if own_number site i && (own_number queue i && same_kind calls i) then total else 0

nothing_read : (site queue : ℕ) → totals_of map.empty site queue ≡ no_calls
nothing_read site queue = ap (λ o. unwrap_or o no_calls) (map.get-empty key_cmp (record { site = site; queue = queue }))

-- the operation that is first leaves a trace, and so there is one
trace : (o : Operation) (k : Knowledge) → LeavesTrace o → known_dots (o ∷ k) ≡ set.empty → ((site queue : ℕ) (calls : Calls) → site_total (o ∷ k) site queue calls ≡ 0) → ⊥
trace (Add dot member stamp penalty pause label older) k leaves none uncounted =
    none_known (Add dot member stamp penalty pause label older ∷ k) dot none (asserted_known (Add dot member stamp penalty pause label older) k dot (ap (λ b. b || false) (is_itself dot)))
trace (Write [] setting stamp older) k leaves none uncounted = leaves refl
trace (Write (p ∷ dots) setting stamp older) k leaves none uncounted =
    none_known (Write (p ∷ dots) setting stamp older ∷ k) p.0 none
    (asserted_known (Write (p ∷ dots) setting stamp older) k p.0 (ap (λ b. b || list_any (λ q. is_dot p.0 q.0) dots) (is_itself p.0)))
trace (Remove dots) k leaves none uncounted =
    let one = some_dot dots leaves in none_known (Remove dots ∷ k) one.0 none (named_known (Remove dots) k one.0 one.1)
trace (Count site queue calls total) k leaves none uncounted =
    let none_counted = uncounted site queue calls in
    let said = counts_itself site queue calls total in
    omega (arith, none_counted, said, leaves)

-- a knowledge that leaves traces is empty exactly where no dot and no total of what stands for it is
pub traces_none : (c : Dot → Option Condition) (known : set.FinSet dot_cmp) (counts : Entries) (k : Knowledge) → LeaveTraces k → Represents c known counts k
    → known ≡ set.empty → counts ≡ map.empty → k ≡ []
traces_none c known counts [] leave r e f = refl
traces_none c known counts (o ∷ k) leave r e f =
    absurd (trace o k (leave o (first_in o k)) (sym r.dots ∙ e) (λ site queue calls. zero site queue calls (sym (r.totals site queue) ∙ ap (λ x. totals_of x site queue) f ∙ nothing_read site queue)))
  where
    zero : (site queue : ℕ) (calls : Calls) → record { completed = site_total (o ∷ k) site queue Completed; abandoned = site_total (o ∷ k) site queue Abandoned } ≡ no_calls → site_total (o ∷ k) site queue calls ≡ 0
    zero site queue Completed h = ap (λ t. t.completed) h
    zero site queue Abandoned h = ap (λ t. t.abandoned) h
