-- How many runs a set has with one more run: as many more as another set that is the same at the run and beside it.
use Rattle.std.proofs.Common.{◌≡◌, ℕ, suc, zero, ◌+◌, ◌-◌, ◌≤◌, ◌<◌, Bool, true, false, cond, ◌&&◌, ◌||◌, List, [], ◌∷◌, length, get_or, take, refl, sym, ap, subst, ◌∙◌, inl, inr, arith}
use Rattle.std.specs.Prelude.{nat_eq, nat_le, nat_lt}
use Rattle.std.specs.List.{list_any}
use Rattle.std.specs.FinSet as sets
use Rattle.std.proofs.lemmas.Bool.{cases_Bool, or_from}
use Rattle.std.proofs.lemmas.Bool.Decides.{nat_tests}
use Rattle.std.proofs.lemmas.List.{take_all, take_more}
use Rattle.std.proofs.lemmas.List.Folds.{list_any-append}
use Rattle.std.proofs.Math.Bool.{or-false, or_assoc}
use Rattle.dots.specs.Values.{Dot}
use Rattle.dots.specs.Orders.{dot_cmp}
use Rattle.dots.specs.DotSets.{Run, in_run, in_runs, is_apart, AreApart, next_dot, run_count, set_of}
use Rattle.dots.proofs.DotOrder.{dots_total, dots_exact, same_dot}
use Rattle.dots.proofs.OneMoreDot.{dot_before, insert_known, run_count_insert}
use Rattle.dots.proofs.Runs.{contains_set_of}
use Rattle.general_lemmas.proofs.TruthTables.{or_swap}

abbrev Dots : Type 0
Dots = sets.FinSet dot_cmp

-- one where a test passes
abbrev one_if : Bool → ℕ
one_if b = cond b 1 0

-- one more dot is as many runs more in two sets that are the same at the dot and beside it
one_dot_more : (s t : Dots) (d : Dot) → 1 ≤ d.count → sets.contains s d ≡ sets.contains t d → sets.contains s (next_dot d) ≡ sets.contains t (next_dot d)
    → sets.contains s (dot_before d) ≡ sets.contains t (dot_before d) → run_count (sets.insert s d) + run_count t ≡ run_count (sets.insert t d) + run_count s
one_dot_more s t d l here next before = elim (cases_Bool (sets.contains t d)) [
  | inl y ↦ let a = ap run_count (insert_known s d (here ∙ y)) in let b = ap run_count (insert_known t d y) in omega (arith, a, b)
  | inr n ↦ let a = run_count_insert s d l (here ∙ n) in let b = run_count_insert t d l n in
      let e : one_if (sets.contains s (next_dot d)) ≡ one_if (sets.contains t (next_dot d)) = ap one_if next in
      let f : one_if (sets.contains s (dot_before d)) ≡ one_if (sets.contains t (dot_before d)) = ap one_if before in
      omega (arith, a, b, e, f)
]

-- a set with n dots of a site, from a count on
abbrev grown : Dots → ℕ → ℕ → ℕ → Dots
grown s site first zero = s
grown s site first (suc n) = sets.insert (grown s site first n) (record { site = site; count = first + n })

-- whether a dot is one of these
abbrev is_among : ℕ → ℕ → ℕ → Dot → Bool
is_among site first n q = nat_eq site q.site && (nat_le first q.count && nat_lt q.count (first + n))

contains_grown : (s : Dots) (site first n : ℕ) (q : Dot) → sets.contains (grown s site first n) q ≡ (sets.contains s q || is_among site first n q)
contains_grown s site first zero q = sym (none (sets.contains s q) (nat_eq site q.site) _ (no_count q.count first))
  where
    no_count : (k first : ℕ) → (nat_le first k && nat_lt k (first + 0)) ≡ false
    no_count k first = grind (arith, nat_tests)

    none : (c a x : Bool) → x ≡ false → (c || (a && x)) ≡ c
    none c true x h = ap (λ b. c || b) h ∙ or-false c
    none c false x h = or-false c
contains_grown s site first (suc n) q =
    sets.contains-insert dots_total (grown s site first n) (record { site = site; count = first + n }) q
    ∙ (λ i. same_dot q (record { site = site; count = first + n }) i || contains_grown s site first n q i)
    ∙ shape (sets.contains s q) (nat_eq site q.site) _ _ _ (one_count q.count first n)
  where
    one_count : (k first n : ℕ) → (nat_eq (first + n) k || (nat_le first k && nat_lt k (first + n))) ≡ (nat_le first k && nat_lt k (first + suc n))
    one_count k first n = grind (arith, nat_tests)

    shape : (c a e x y : Bool) → (e || x) ≡ y → ((a && e) || (c || (a && x))) ≡ (c || (a && y))
    shape c false e x y h = refl
    shape c true e x y h = or_swap e c x ∙ ap (λ b. c || b) h

-- a set with all dots of a run
with_run : (s : Dots) (r : Run) → r.first ≤ r.last → grown s r.site r.first (suc r.last - r.first) ≡ sets.union s (set_of (r ∷ []))
with_run s r w = sets.same_set dots_total dots_exact _ _ (λ q.
    contains_grown s r.site r.first (suc r.last - r.first) q
    ∙ ap (λ b. sets.contains s q || (nat_eq r.site q.site && b)) (bounds q.count r.first r.last w)
    ∙ ap (λ b. sets.contains s q || b) (sym (contains_set_of (r ∷ []) q ∙ or-false (in_run q r)))
    ∙ sym (sets.contains-union dots_total s (set_of (r ∷ [])) q))
  where
    bounds : (k first last : ℕ) → first ≤ last → (nat_le first k && nat_lt k (first + (suc last - first))) ≡ (nat_le first k && nat_le k last)
    bounds k first last w = grind (arith, nat_tests)

-- two sets that are the same at a run and beside it
module _ (s t : Dots) (r : Run) (counted : 1 ≤ r.first) (whole : r.first ≤ r.last)
    (same : (n : ℕ) → r.first ≤ suc n → sets.contains s (record { site = r.site; count = n }) ≡ sets.contains t (record { site = r.site; count = n })) where
  same_grown : (m n : ℕ) → r.first ≤ suc n → sets.contains (grown s r.site r.first m) (record { site = r.site; count = n }) ≡ sets.contains (grown t r.site r.first m) (record { site = r.site; count = n })
  same_grown m n l =
      contains_grown s r.site r.first m (record { site = r.site; count = n })
      ∙ ap (λ b. b || is_among r.site r.first m (record { site = r.site; count = n })) (same n l)
      ∙ sym (contains_grown t r.site r.first m (record { site = r.site; count = n }))

  grown_alike : (m : ℕ) → run_count (grown s r.site r.first m) + run_count t ≡ run_count (grown t r.site r.first m) + run_count s
  grown_alike zero = omega arith
  grown_alike (suc m) =
      let step = one_dot_more (grown s r.site r.first m) (grown t r.site r.first m) (record { site = r.site; count = r.first + m }) (omega arith)
      (same_grown m (r.first + m) (omega arith)) (same_grown m (suc (r.first + m)) (omega arith)) (same_grown m ((r.first + m) - 1) (omega arith)) in
      let rest = grown_alike m in omega (arith, step, rest)

  one_run_alike : run_count (sets.union s (set_of (r ∷ []))) + run_count t ≡ run_count (sets.union t (set_of (r ∷ []))) + run_count s
  one_run_alike =
      let e = ap run_count (with_run s r whole) in let f = ap run_count (with_run t r whole) in
      let all = grown_alike (suc r.last - r.first) in omega (arith, e, f, all)

-- a run before another has none of its dots, nor of those beside it
misses : (r x : Run) (n : ℕ) → is_apart r x ≡ true → x.first ≤ suc n → in_run (record { site = x.site; count = n }) r ≡ false
misses r x n a l = grind (arith, nat_tests)

-- the runs before a run in a list have none of its dots
before_miss : (xs : List Run) (i : ℕ) (e : Run) (n : ℕ) → AreApart xs → i < length xs → (get_or xs i e).first ≤ suc n
    → in_runs (take i xs) (record { site = (get_or xs i e).site; count = n }) ≡ false
before_miss [] i e n a l h = absurd (omega (arith, l))
before_miss (r ∷ rs) zero e n a l h = refl
before_miss (r ∷ rs) (suc i) e n a l h = or_from _ _ (misses r (get_or rs i e) n (a.1 i e (omega arith)) h) (before_miss rs i e n a.2 (omega arith) h)

-- one more run of a list
pub runs_with : (xs : List Run) (i : ℕ) (x : Run) (d : Dot) → i < length xs → x ≡ get_or xs i x → in_runs (take (i + 1) xs) d ≡ (in_runs (take i xs) d || in_run d x)
runs_with xs i x d l e =
    ap (list_any (in_run d)) (take_more xs i x l) ∙ list_any-append (in_run d) (take i xs) (get_or xs i x ∷ [])
    ∙ ap (λ b. in_runs (take i xs) d || b) (or-false (in_run d (get_or xs i x)) ∙ ap (in_run d) (sym e))

-- the union with one more run of a list
pub union_with : (s : Dots) (xs : List Run) (i : ℕ) (x : Run) → i < length xs → x ≡ get_or xs i x
    → sets.union s (set_of (take (i + 1) xs)) ≡ sets.union (sets.union s (set_of (take i xs))) (set_of (x ∷ []))
union_with s xs i x l e = sets.same_set dots_total dots_exact _ _ (λ q.
    sets.contains-union dots_total s (set_of (take (i + 1) xs)) q
    ∙ ap (λ b. sets.contains s q || b) (contains_set_of (take (i + 1) xs) q ∙ runs_with xs i x q l e)
    ∙ sym (or_assoc (sets.contains s q) (in_runs (take i xs) q) (in_run q x))
    ∙ (λ j. (sets.contains s q || sym (contains_set_of (take i xs) q) j) || sym (contains_set_of (x ∷ []) q ∙ or-false (in_run q x)) j)
    ∙ ap (λ b. b || sets.contains (set_of (x ∷ [])) q) (sym (sets.contains-union dots_total s (set_of (take i xs)) q))
    ∙ sym (sets.contains-union dots_total (sets.union s (set_of (take i xs))) (set_of (x ∷ [])) q))

-- with none, and with all of them
pub union_start : (s : Dots) (xs : List Run) → sets.union s (set_of (take 0 xs)) ≡ s
union_start s xs = sets.same_set dots_total dots_exact _ _ (λ q.
    sets.contains-union dots_total s (set_of (take 0 xs)) q ∙ ap (λ b. sets.contains s q || b) (contains_set_of (take 0 xs) q ∙ none xs q) ∙ or-false (sets.contains s q))
  where
    none : (xs : List Run) (q : Dot) → in_runs (take 0 xs) q ≡ false
    none [] q = refl
    none (x ∷ xs) q = refl

pub union_whole : (s : Dots) (xs : List Run) (i : ℕ) → length xs ≤ i → sets.union s (set_of (take i xs)) ≡ sets.union s (set_of xs)
union_whole s xs i l = ap (λ ys. sets.union s (set_of ys)) (take_all i xs l)

-- how many runs the union has with one more run of a list
pub count_with_more : (rs xs : List Run) (i : ℕ) (x : Run) → AreApart xs → i < length xs → x ≡ get_or xs i x → 1 ≤ x.first → x.first ≤ x.last
    → run_count (sets.union (set_of rs) (set_of (take (i + 1) xs))) + run_count (set_of rs)
    ≡ run_count (sets.union (set_of rs) (set_of (x ∷ []))) + run_count (sets.union (set_of rs) (set_of (take i xs)))
count_with_more rs xs i x b l e counted whole =
    let grows = ap run_count (union_with (set_of rs) xs i x l e) in
    let alike = one_run_alike (sets.union (set_of rs) (set_of (take i xs))) (set_of rs) x counted whole (λ n h.
    sets.contains-union dots_total (set_of rs) (set_of (take i xs)) (record { site = x.site; count = n })
    ∙ ap (λ p. sets.contains (set_of rs) (record { site = x.site; count = n }) || p) (contains_set_of (take i xs) (record { site = x.site; count = n }) ∙ missed n h)
    ∙ or-false (sets.contains (set_of rs) (record { site = x.site; count = n }))) in
    omega (arith, grows, alike)
  where
    missed : (n : ℕ) → x.first ≤ suc n → in_runs (take i xs) (record { site = x.site; count = n }) ≡ false
    missed n h =
        subst (λ (y : Run). y.first ≤ suc n → in_runs (take i xs) (record { site = y.site; count = n }) ≡ false) (sym e)
        (before_miss xs i x n b l) h
