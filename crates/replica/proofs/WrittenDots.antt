-- Dots that are written one by one, in order.
use Rattle.std.proofs.Common.{◌≡◌, ℕ, zero, suc, ◌+◌, ◌≤◌, ◌<◌, Bool, true, false, cond, ◌||◌, List, [], ◌∷◌, ◌++◌, length, get_or, take, map as each, Contains, Option, Some, None, if◌then◌else◌, inl, inr, refl, sym, ap, subst, ◌∙◌, arith, true≢false}
use Rattle.std.specs.Prelude.{IsSome}
use Rattle.std.specs.List.{All, find, list_any}
use Rattle.std.specs.Option.{option_map}
use Rattle.std.specs.Ordering.{is_lt}
use Rattle.std.specs.FinMap as map
use Rattle.std.specs.FinMap.Entries.{below_all}
use Rattle.std.specs.FinSet as set
use Rattle.std.specs.declared.cmp.Ordering.TheVariants.{Less}
use Rattle.std.proofs.lemmas.Bool.{and_parts, cases_Bool}
use Rattle.std.proofs.lemmas.List.{take_more}
use Rattle.std.proofs.lemmas.List.Folds.{list_any-append}
use Rattle.std.proofs.Math.Bool.{or-false}
use Rattle.dots.specs.declared.member.Member.{Member}
use Rattle.dots.specs.Values.{Dot}
use Rattle.dots.specs.Orders.{dot_cmp}
use Rattle.operations.specs.Conditions.{DotFields}
use Rattle.operations.specs.Knowledge.{is_dot}
use Rattle.dots.proofs.DotOrder.{dots_total}
use Rattle.general_lemmas.proofs.ItemOrder.{units}
use Rattle.dots.proofs.KeySets.{len_of_keys}
use Rattle.general_lemmas.proofs.Membership.{first_in, in_any, later_in}
use Rattle.general_lemmas.proofs.TruthTables.{less_of}
use Rattle.member_orset.specs.Members.{Holding, Members}
use Rattle.live_cells.proofs.DotTests.{one_dot}
use Rattle.replica.specs.DotLists.{DotsRise}
use Rattle.replica.specs.Writing.{written_to}
use Rattle.replica.proofs.DotCounts.{once_few}
use Rattle.replica.proofs.MadeChanges.{held_by}
use Rattle.replica.proofs.SeenOnce.{rising_once}

-- ---- their order

-- what lies before each of some dots lies before one of them
below_at : (x : Dot) (xs : List Dot) (i : ℕ) (d : Dot) → below_all dot_cmp x (units xs) ≡ true → i < length xs → is_lt (dot_cmp x (get_or xs i d)) ≡ true
below_at x [] i d h l = absurd (omega arith)
below_at x (y ∷ ys) zero d h l = (and_parts (is_lt (dot_cmp x y)) (below_all dot_cmp x (units ys)) h).0
below_at x (y ∷ ys) (suc i) d h l = below_at x ys i d (and_parts (is_lt (dot_cmp x y)) (below_all dot_cmp x (units ys)) h).1 (omega arith)

-- of dots that rise, each that comes before a place lies before the one there
pub before_at : (dots : List Dot) (i : ℕ) (d q : Dot) → DotsRise dots → i < length dots → list_any (is_dot q) (take i dots) ≡ true → is_lt (dot_cmp q (get_or dots i d)) ≡ true
before_at [] i d q rise l h = absurd (omega arith)
before_at (x ∷ xs) zero d q rise l h = absurd (true≢false (sym h))
before_at (x ∷ xs) (suc i) d q rise l h =
    let parts = and_parts (below_all dot_cmp x (units xs)) (map.is_sorted dot_cmp (units xs)) rise in
    elim (cases_Bool (is_dot q x)) [
      | inl t ↦ ap (λ y. is_lt (dot_cmp y (get_or xs i d))) (one_dot q x t) ∙ below_at x xs i d parts.0 (omega arith)
      | inr f ↦ before_at xs i d q parts.1 (omega arith) (ap (λ b. b || list_any (is_dot q) (take i xs)) (sym f) ∙ h)
    ]

-- of live dots that rise there are at most as many as are live
pub rising_few : (s : Members) (dots : List Dot) → DotsRise dots → All (λ dot. map.contains_key s.live dot ≡ true) dots → length dots ≤ map.len s.live
rising_few s dots rise live =
    let all = set.from_list {R = dot_cmp} (map.keys s.live) in
    let same = λ (q : Dot). set.contains-from_list dots_total (map.keys s.live) q ∙ sym (map.contains_key-keys s.live q) in
    let few = once_few all dots (rising_once dots rise) (λ q h.
    let p = in_any (is_dot q) dots h in
    same q ∙ ap (map.contains_key s.live) (one_dot q p.0 p.2) ∙ is_live p.0 p.1) in
    omega (arith, few, len_of_keys s.live all same)
  where
    is_live : (d : Dot) → Contains dots d → map.contains_key s.live d ≡ true
    is_live d found = subst (λ x. map.contains_key s.live x ≡ true) found.2 (live found.0 d found.1)

-- ---- what is held of them

-- a dot with a member and fields
abbrev held : DotFields → Holding → Holding
held fields h = (h.0, fields)

module _ (s : Members) (fields : DotFields) where
  -- what is held of one dot more
  more_written : (dots : List Dot) (i : ℕ) (d : Dot) → i < length dots → d ≡ get_or dots i d → (q : Dot)
      → written_to s (take (i + 1) dots) fields q ≡ cond (is_dot q d) (option_map (held fields) (map.get s.live d)) (written_to s (take i dots) fields q)
  more_written dots i d l is q =
      ap (λ b. if b then option_map (held fields) (map.get s.live q) else None)
      (ap (list_any (is_dot q)) (take_more dots i d l ∙ ap (λ x. take i dots ++ x ∷ []) (sym is))
      ∙ list_any-append (is_dot q) (take i dots) (d ∷ []) ∙ ap (λ b. list_any (is_dot q) (take i dots) || b) (or-false (is_dot q d)))
      ∙ at (is_dot q d) (list_any (is_dot q) (take i dots)) (λ t. ap (λ x. option_map (held fields) (map.get s.live x)) (one_dot q d t))
    where
      at : (b a : Bool) → (b ≡ true → option_map (held fields) (map.get s.live q) ≡ option_map (held fields) (map.get s.live d))
          → (if a || b then option_map (held fields) (map.get s.live q) else None)
          ≡ cond b (option_map (held fields) (map.get s.live d)) (if a then option_map (held fields) (map.get s.live q) else None)
      at true true f = f refl
      at true false f = f refl
      at false true f = refl
      at false false f = refl

  -- one more that is live
  pub live_written : (dots : List Dot) (i : ℕ) (d : Dot) (h : Holding) (live : map.FinMap dot_cmp Holding) → i < length dots → d ≡ get_or dots i d
      → ((q : Dot) → map.get live q ≡ written_to s (take i dots) fields q) → map.get s.live d ≡ Some h
      → (q : Dot) → map.get (map.insert live d (h.0, fields)) q ≡ written_to s (take (i + 1) dots) fields q
  live_written dots i d h live l is same found q =
      map.get-insert dots_total live d (h.0, fields) q
      ∙ (λ i. cond (is_dot q d) (option_map (held fields) (sym found i)) (same q i))
      ∙ sym (more_written dots i d l is q)

  -- one more that isn't live
  pub none_written : (dots : List Dot) (i : ℕ) (d : Dot) (live : map.FinMap dot_cmp Holding) → i < length dots → d ≡ get_or dots i d
      → ((q : Dot) → map.get live q ≡ written_to s (take i dots) fields q) → map.get s.live d ≡ None
      → (q : Dot) → map.get live q ≡ written_to s (take (i + 1) dots) fields q
  none_written dots i d live l is same none q =
      same q ∙ sym (more_written dots i d l is q ∙ ap (λ o. cond (is_dot q d) (option_map (held fields) o) (written_to s (take i dots) fields q)) none
      ∙ at (is_dot q d) (list_any (is_dot q) (take i dots)) (λ t. ap (map.get s.live) (one_dot q d t) ∙ none))
    where
      at : (b a : Bool) → (b ≡ true → map.get s.live q ≡ None)
          → cond b None (if a then option_map (held fields) (map.get s.live q) else None) ≡ (if a then option_map (held fields) (map.get s.live q) else None)
      at true true f = sym (ap (option_map (held fields)) (f refl))
      at true false f = refl
      at false a f = refl

  -- what is held is of one of them
  written_of : (dots : List Dot) (q : Dot) → IsSome (written_to s dots fields q) → list_any (is_dot q) dots ≡ true
  written_of dots q h = at (list_any (is_dot q) dots) h
    where
      at : (b : Bool) → IsSome (if b then option_map (held fields) (map.get s.live q) else None) → b ≡ true
      at true h = refl
      at false h = absurd (true≢false (sym h))

  -- the held dots precede the dot at the next place
  pub written_before : (dots : List Dot) (i : ℕ) (d : Dot) (live : map.FinMap dot_cmp Holding) → DotsRise dots → i < length dots → d ≡ get_or dots i d
      → ((q : Dot) → map.get live q ≡ written_to s (take i dots) fields q) → (q : Dot) → IsSome (map.get live q) → dot_cmp q d ≡ Less
  written_before dots i d live rise l is same q h =
      ap (dot_cmp q) is ∙ less_of _ (before_at dots i d q rise l (written_of (take i dots) q (subst IsSome (same q) h)))

  -- what is held of dots that are live with these members is what an operation that asserts them gives
  pub held_written : (ps : List (Dot × Member)) → ((p : Dot × Member) → Contains ps p → option_map (λ h. h.0) (map.get s.live p.0) ≡ Some p.1) → (q : Dot)
      → written_to s (each (λ p. p.0) ps) fields q ≡ held_by ps fields q
  held_written [] members q = refl
  held_written (p ∷ ps) members q =
      at (is_dot q p.0) (list_any (is_dot q) (each (λ p. p.0) ps)) (find (λ p. is_dot q p.0) ps) (λ t. ap (map.get s.live) (one_dot q p.0 t)) (map.get s.live p.0) refl (members p (first_in p ps))
      (held_written ps (λ x h. members x (later_in p ps x h)) q)
    where
      at : (b a : Bool) (rest : Option (Dot × Member)) → (b ≡ true → map.get s.live q ≡ map.get s.live p.0) → (o : Option Holding) → map.get s.live p.0 ≡ o → option_map (λ h. h.0) o ≡ Some p.1
          → (if a then option_map (held fields) (map.get s.live q) else None) ≡ option_map (λ p. (p.1, fields)) rest
          → (if b || a then option_map (held fields) (map.get s.live q) else None) ≡ option_map (λ p. (p.1, fields)) (cond b (Some p) rest)
      at true a rest f (Some h) e m r = ap (option_map (held fields)) (f refl ∙ e) ∙ ap (λ m. let x : Holding = (m, fields) in Some x) (let g : h.0 ≡ p.1 = cc in g)
      at true a rest f None e m r = absurd (cc)
      at false a rest f o e m r = r

-- one entry more is at most one more
pub len_more : (live : map.FinMap dot_cmp Holding) (d : Dot) (h : Holding) (i : ℕ) → map.len live ≤ i → map.len (map.insert live d h) ≤ i + 1
len_more live d h i few = at (map.contains_key live d) (map.len-insert dots_total live d h)
  where
    at : (b : Bool) → map.len (map.insert live d h) ≡ cond b (map.len live) (map.len live + 1) → map.len (map.insert live d h) ≤ i + 1
    at true e = omega (arith, e, few)
    at false e = omega (arith, e, few)
