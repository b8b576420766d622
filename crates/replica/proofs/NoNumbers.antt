-- Whether a site is full with an operation for which no number is left, and with which it can't be made: full goes before used up.
use Rattle.std.proofs.Common.{◌≡◌, ◌≤◌, ◌<◌, ◌⊎◌, inl, inr, ℕ, zero, suc, ◌+◌, Bool, true, false, ◌||◌, List, [], ◌∷◌, length, map as each, Contains, Option, Some, None, is_some, refl, sym, ap, subst, ◌∙◌, arith, nat_lt, get_or, true≢false, max}
use Rattle.std.proofs.Math.Bool.{or-true}
use Rattle.std.specs.Prelude.{nat_le}
use Rattle.std.proofs.lemmas.Bool.{and_parts, false_from_ne_true}
use Rattle.std.proofs.lemmas.Bool.Decides.{nat_tests}
use Rattle.std.specs.FinMap as map
use Rattle.std.specs.FinSet as set
use Rattle.dots.specs.declared.label.Label.{Label}
use Rattle.dots.specs.declared.limits.TheConstants.{MOST_LIVE, MOST_RUNS}
use Rattle.dots.specs.declared.member.Member.{Member}
use Rattle.dots.specs.Values.{Dot, PauseState, Stamp}
use Rattle.dots.specs.Orders.{dot_cmp}
use Rattle.operations.specs.Conditions.{IsConditionBelow}
use Rattle.dots.specs.DotSets.{run_count}
use Rattle.operations.specs.Operations.{Operation, Setting}
use Rattle.dots.proofs.OneMoreDot.{insert_known}
use Rattle.dots.proofs.Unions.{union_same}
use Rattle.dots.proofs.DotOrder.{dots_total}
use Rattle.member_orset.specs.LiveDots.{live_dots_without, dead_dots_of}
use Rattle.member_orset.specs.Members.{Holding, IsWithinLimits, condition_at, condition_of}
use Rattle.member_orset.specs.Reads.{dots_seen_below}
use Rattle.delta.specs.DeltaStates.{DeltaState}
use Rattle.replica.specs.declared.refusal.Refusal.TheVariants.{MembersFull, Exhausted, Memory}
use Rattle.replica.specs.Changes.{add_at, is_exhausted, is_full, is_too_long, time_replaced, write_at}
use Rattle.replica.specs.Commands.{IsRefusalOf, IsRefusalOfAdds, IsRefusalOfWrites}
use Rattle.replica.specs.Fitting.{is_past_with}
use Rattle.replica.specs.Keeping.{IsBelow, IsKept}
use Rattle.replica.specs.Site.{SiteState, view_of}
use Rattle.replica.specs.SiteViews.{dots_seen, greatest, older_dots}
use Rattle.replica.proofs.Doing.{exhausted_means, full_means}
use Rattle.replica.proofs.Fullness.{contains_older, full_add, full_write, older_dead, older_live, older_new, run_count_past, seen_older, too_long_add, too_long_write}
use Rattle.replica.proofs.SeenLists.{listed}
use Rattle.replica.proofs.SeenOnce.{seen_live, seen_once}

-- what is known is below something that is known
pub below_known : (d e : DeltaState) → IsBelow d e → IsWithinLimits e.members → (q : Dot) → set.contains d.members.known q ≡ true → set.contains e.members.known q ≡ true
below_known d e below limits q h =
    by (map.get d.members.live q) (map.get e.members.live q) (set.contains e.members.known q) refl refl
    (subst (λ k. IsConditionBelow (condition_at (map.get d.members.live q) k) (condition_of e.members q)) h (below.conditions q))
  where
    by : (x y : Option Holding) (k : Bool) → map.get e.members.live q ≡ y → set.contains e.members.known q ≡ k → IsConditionBelow (condition_at x true) (condition_at y k)
        → set.contains e.members.known q ≡ true
    by x (Some g) k live is p = (limits.held q g live).known
    by x None true live is p = is
    by (Some h) None false live is p = absurd p
    by None None false live is p = absurd p

-- a dot that is live above isn't dead below
pub not_dead_below : (d e : DeltaState) → IsBelow d e → (q : Dot) → map.contains_key e.members.live q ≡ true → set.contains d.members.known q ≡ true → map.contains_key d.members.live q ≡ true
not_dead_below d e below q live known =
    by (map.get d.members.live q) (map.get e.members.live q) live
    (subst (λ k. IsConditionBelow (condition_at (map.get d.members.live q) k) (condition_of e.members q)) known (below.conditions q))
  where
    by : (x y : Option Holding) → is_some y ≡ true → IsConditionBelow (condition_at x true) (condition_at y (set.contains e.members.known q)) → is_some x ≡ true
    by (Some h) y is p = refl
    by None (Some g) is p = absurd p
    by None None is p = absurd (true≢false (sym is))

-- no dot past the last count is known
pub own_unknown : (s : SiteState) → IsKept s → set.contains s.state.members.known (record { site = s.site; count = suc s.last_count }) ≡ false
own_unknown s kept = kept.own_dots (suc s.last_count) (omega arith) ∙ by s.last_count
  where
    by : (n : ℕ) → nat_le (suc n) n ≡ false
    by n = grind (arith, nat_tests)

-- all that is known of the site goes up to it
pub own_counts : (s : SiteState) → IsKept s → (q : Dot) → set.contains s.state.members.known q ≡ true → q.site ≡ s.site → q.count ≤ s.last_count
own_counts s kept q known own = by q.count refl
  where
    test : (n : ℕ) → nat_le n s.last_count ≡ true → n ≤ s.last_count
    test n h = grind (arith, nat_tests)

    by : (n : ℕ) → q.count ≡ n → q.count ≤ s.last_count
    by zero e = omega (arith, e)
    by (suc n) e = test q.count (sym (kept.own_dots q.count (omega (arith, e))) ∙ (λ i. set.contains s.state.members.known (record { site = sym own i; count = q.count })) ∙ known)

module _ (s : SiteState) (kept : IsKept s) (limits : IsWithinLimits s.state.members) (limits_pending : IsWithinLimits s.pending.members)
    (member : Member) (penalty : ℕ) (paused : Bool) (label : Label) where
  -- the dot that comes next
  abbrev next : Dot
  next = record { site = s.site; count = suc s.last_count }

  -- the add of it
  abbrev added : Operation
  added = add_at s.site (view_of s s.state) member penalty paused label

  -- the dead dots of the site
  abbrev dead : set.FinSet dot_cmp
  dead = dead_dots_of s.state.members s.site

  -- the dead dots of the site are the older ones
  older-are : older_dots (view_of s s.state) (next ∷ []) ≡ dead
  older-are = older_dead s s.state s.site s.last_count (own_counts s kept)

  abbrev stamp_next : Stamp
  stamp_next = record { time = suc s.last_time; site = s.site }

  abbrev pause_next : PauseState
  pause_next = record { paused = paused; reason = [] }

  -- whether a delta is full with the add
  pub full_next : (d : DeltaState) → IsWithinLimits d.members → set.contains d.members.known next ≡ false
      → is_full (view_of s d) added ≡ (nat_lt MOST_LIVE (set.len (live_dots_without d.members dead) + 1) || nat_lt MOST_RUNS (run_count (set.insert (set.union d.members.known dead) next)))
  full_next d within unknown =
      full_add s d within next member stamp_next penalty pause_next label (older_dots (view_of s s.state) (next ∷ [])) unknown (older_new s s.state next)
      ∙ (λ i. nat_lt MOST_LIVE (one (set.len (live_dots_without d.members (older-are i))) i) || nat_lt MOST_RUNS (run_count (set.insert (set.union d.members.known (older-are i)) next)))
    where
      one : (n : ℕ) → suc n ≡ n + 1
      one n = omega arith

  -- whether it is too long alone
  pub long_next : is_too_long added ≡ nat_lt MOST_RUNS (run_count (set.insert (set.union dead dead) next))
  long_next =
      too_long_add next member stamp_next penalty pause_next label (older_dots (view_of s s.state) (next ∷ []))
      ∙ (λ i. nat_lt MOST_RUNS (run_count (set.insert ((older-are ∙ sym (union_same dead)) i) next)))

  -- the tests of the state and the buffer decide whether they are full
  pub full_state : is_full (view_of s s.state) added
      ≡ (nat_lt MOST_LIVE (set.len (live_dots_without s.state.members dead) + 1) || nat_lt MOST_RUNS (run_count (set.insert (set.union s.state.members.known dead) next)))
  full_state = full_next s.state limits (own_unknown s kept)

  pub full_pending : is_full (view_of s s.pending) added
      ≡ (nat_lt MOST_LIVE (set.len (live_dots_without s.pending.members dead) + 1) || nat_lt MOST_RUNS (run_count (set.insert (set.union s.pending.members.known dead) next)))
  full_pending = full_next s.pending limits_pending
      (false_from_ne_true _ (λ h. true≢false (sym (below_known s.pending s.state kept.below limits next h) ∙ own_unknown s kept)))

  -- dead dots that alone have too many runs have too many with the next dot
  pub dead_too_long : MOST_RUNS < run_count dead → is_too_long added ≡ true
  dead_too_long many =
      too_long_add next member stamp_next penalty pause_next label (older_dots (view_of s s.state) (next ∷ []))
      ∙ (λ i. nat_lt MOST_RUNS (run_count (set.insert (older-are i) next)))
      ∙ by (run_count dead) (run_count (set.insert dead next)) many (run_count_past dead next (omega arith) less)
    where
      less : (q : Dot) → set.contains dead q ≡ true → q.site ≡ s.site → q.count < suc s.last_count
      less q h own = let most = own_counts s kept q (dead_is_known q h) own in omega arith
        where
          dead_is_known : (q : Dot) → set.contains dead q ≡ true → set.contains s.state.members.known q ≡ true
          dead_is_known q h = (and_parts (set.contains s.state.members.known q) _ (sym (contains_older s s.state (next ∷ []) q) ∙ ap (λ k. set.contains k q) older-are ∙ h)).0

      by : (m n : ℕ) → MOST_RUNS < m → m ≤ n → nat_lt MOST_RUNS n ≡ true
      by m n many le = grind (arith, nat_tests)

-- ---- an add for which no number is left

-- the refusal of an operation for which a delta is full
pub reported_full : (s : SiteState) (o : Operation) → (is_full (view_of s s.state) o ≡ true) ⊎ ((is_full (view_of s s.pending) o ≡ true) ⊎ (is_too_long o ≡ true)) → IsRefusalOf s o MembersFull
reported_full s o h = inr (full_means (view_of s s.state) (view_of s s.pending) o h)

pub reported_exhausted : (s : SiteState) (o : Operation) → is_full (view_of s s.state) o ≡ false → is_full (view_of s s.pending) o ≡ false → is_too_long o ≡ false → is_exhausted o ≡ true → IsRefusalOf s o Exhausted
reported_exhausted s o p q l e = inr (exhausted_means (view_of s s.state) (view_of s s.pending) o p q l e)

-- ---- a write for which none is left

module _ (s : SiteState) (kept : IsKept s) (queue : Option ℕ) (interface : List ℕ) (setting : Setting) where
  -- the dots that it goes over
  abbrev pairs : List (Dot × Member)
  pairs = dots_seen (view_of s s.state).dots queue interface

  abbrev its_dots : List Dot
  its_dots = each (λ p. p.0) pairs

  -- the write of them
  abbrev written : Operation
  written = write_at s.site (view_of s s.state) setting pairs

  abbrev stamp_of : Stamp
  stamp_of = record { time = suc (max s.last_time (greatest (λ d. time_replaced (view_of s s.state).dots setting d.0) pairs)); site = s.site }

  -- with the dead ones that are older
  abbrev seen : set.FinSet dot_cmp
  seen = dots_seen_below s.state.members its_dots

  length_firsts : (ps : List (Dot × Member)) → length (each (λ p. p.0) ps) ≡ length ps
  length_firsts [] = refl
  length_firsts (p ∷ ps) = ap suc (length_firsts ps)

  -- each of its dots is among what is seen
  first_seen : (first : Dot) → Contains its_dots first → set.contains seen first ≡ true
  first_seen first here =
      ap (λ k. set.contains k first) (seen_older s s.state its_dots)
      ∙ set.contains-union dots_total (set.from_list its_dots) (older_dots (view_of s s.state) its_dots) first
      ∙ ap (λ b. b || set.contains (older_dots (view_of s s.state) its_dots) first) (set.contains-from_list dots_total its_dots first ∙ listed its_dots first here)

  -- whether a delta is full with it
  full_written : (d : DeltaState) → ((p : Dot × Member) → Contains pairs p → set.contains d.members.known p.0 ≡ true → map.contains_key d.members.live p.0 ≡ true)
      → (first : Dot) → Contains its_dots first
      → is_full (view_of s d) written
      ≡ (nat_lt MOST_LIVE (set.len (live_dots_without d.members seen) + length its_dots) || nat_lt MOST_RUNS (run_count (set.insert (set.union d.members.known seen) first)))
  full_written d not_dead first here =
      full_write s d pairs setting stamp_of (older_dots (view_of s s.state) its_dots) seen (seen_older s s.state its_dots) (seen_once (view_of s s.state).dots queue interface)
      (λ p h. older_live s s.state its_dots p.0 (seen_live s s.state queue interface p h)) not_dead
      ∙ (λ i. nat_lt MOST_LIVE (set.len (live_dots_without d.members seen) + sym (length_firsts pairs) i)
      || nat_lt MOST_RUNS (run_count (sym (insert_known (set.union d.members.known seen) first
      (set.contains-union dots_total d.members.known seen first ∙ ap (λ b. set.contains d.members.known first || b) (first_seen first here) ∙ or-true (set.contains d.members.known first))) i)))

  pub full_state_written : (first : Dot) → Contains its_dots first
      → is_full (view_of s s.state) written
      ≡ (nat_lt MOST_LIVE (set.len (live_dots_without s.state.members seen) + length its_dots) || nat_lt MOST_RUNS (run_count (set.insert (set.union s.state.members.known seen) first)))
  full_state_written = full_written s.state (λ p h known. seen_live s s.state queue interface p h)

  pub full_pending_written : (first : Dot) → Contains its_dots first
      → is_full (view_of s s.pending) written
      ≡ (nat_lt MOST_LIVE (set.len (live_dots_without s.pending.members seen) + length its_dots) || nat_lt MOST_RUNS (run_count (set.insert (set.union s.pending.members.known seen) first)))
  full_pending_written = full_written s.pending (λ p h. not_dead_below s.pending s.state kept.below p.0 (seen_live s s.state queue interface p h))

  -- whether a write is too long alone
  pub long_written : is_too_long written ≡ nat_lt MOST_RUNS (run_count seen)
  long_written = too_long_write pairs setting stamp_of (older_dots (view_of s s.state) its_dots) seen (seen_older s s.state its_dots)

-- ---- the refusal of all adds and all writes

module _ (s : SiteState) (kept : IsKept s) (limits : IsWithinLimits s.state.members) where
  -- with dead dots of too many runs each add is refused as full
  pub adds_long : IsWithinLimits s.pending.members → MOST_RUNS < run_count (dead_dots_of s.state.members s.site) → IsRefusalOfAdds s MembersFull
  adds_long limits_pending many member penalty paused label e =
      reported_full s _ (inr (inr (dead_too_long s kept limits limits_pending member penalty paused label many)))

  module _ (limits_pending : IsWithinLimits s.pending.members) (dots : set.FinSet dot_cmp) (count : ℕ) (are_dead : dots ≡ dead_dots_of s.state.members s.site) (is_next : count ≡ s.last_count + 1) where
    -- a test with these dots and this count is that with the dead ones and the next count
    same_test : (d : DeltaState) → is_past_with d dots 1 (record { site = s.site; count = count }) ≡ is_past_with d (dead_dots_of s.state.members s.site) 1 (record { site = s.site; count = suc s.last_count })
    same_test d i = is_past_with d (are_dead i) 1 (record { site = s.site; count = (is_next ∙ one s.last_count) i })
      where
        one : (n : ℕ) → n + 1 ≡ suc n
        one n = omega arith

    same_runs_test : run_count (set.insert (set.union dots dots) (record { site = s.site; count = count }))
        ≡ run_count (set.insert (set.union (dead_dots_of s.state.members s.site) (dead_dots_of s.state.members s.site)) (record { site = s.site; count = suc s.last_count }))
    same_runs_test i = run_count (set.insert (set.union (are_dead i) (are_dead i)) (record { site = s.site; count = (is_next ∙ one s.last_count) i }))
      where
        one : (n : ℕ) → n + 1 ≡ suc n
        one n = omega arith

    -- where the test of the state is true, the site is full
    pub adds_full : is_past_with s.state dots 1 (record { site = s.site; count = count }) ≡ true → IsRefusalOfAdds s MembersFull
    adds_full is member penalty paused label e = reported_full s _ (inl (full_state s kept limits limits_pending member penalty paused label ∙ sym (same_test s.state) ∙ is))

    -- if the test of the buffer is true, the site is full
    pub adds_full_pending : is_past_with s.pending dots 1 (record { site = s.site; count = count }) ≡ true → IsRefusalOfAdds s MembersFull
    adds_full_pending is member penalty paused label e = reported_full s _ (inr (inl (full_pending s kept limits limits_pending member penalty paused label ∙ sym (same_test s.pending) ∙ is)))

    -- if the test of the dead dots alone is true, the site is full
    pub adds_too_long : MOST_RUNS < run_count (set.insert (set.union dots dots) (record { site = s.site; count = count })) → IsRefusalOfAdds s MembersFull
    adds_too_long many member penalty paused label e =
        reported_full s _ (inr (inr (long_next s kept limits limits_pending member penalty paused label ∙ ap (nat_lt MOST_RUNS) (sym same_runs_test) ∙ test (run_count (set.insert (set.union dots dots) (record { site = s.site; count = count }))) many)))
      where
        test : (n : ℕ) → MOST_RUNS < n → nat_lt MOST_RUNS n ≡ true
        test n h = grind (arith, nat_tests)

    -- if no test is true, the numbers of the site are used up
    pub adds_exhausted : is_past_with s.state dots 1 (record { site = s.site; count = count }) ≡ false → is_past_with s.pending dots 1 (record { site = s.site; count = count }) ≡ false
        → (MOST_RUNS < run_count (set.insert (set.union dots dots) (record { site = s.site; count = count })) → ⊥) → IsRefusalOfAdds s Exhausted
    adds_exhausted p q few member penalty paused label e =
        reported_exhausted s _ (full_state s kept limits limits_pending member penalty paused label ∙ sym (same_test s.state) ∙ p)
        (full_pending s kept limits limits_pending member penalty paused label ∙ sym (same_test s.pending) ∙ q)
        (long_next s kept limits limits_pending member penalty paused label ∙ ap (nat_lt MOST_RUNS) (sym same_runs_test) ∙ test (run_count (set.insert (set.union dots dots) (record { site = s.site; count = count }))) few) e
      where
        test : (n : ℕ) → (MOST_RUNS < n → ⊥) → nat_lt MOST_RUNS n ≡ false
        test n h = grind (arith, nat_tests)

-- all may be refused as out of memory
pub adds_memory : (s : SiteState) → IsRefusalOfAdds s Memory
adds_memory s member penalty paused label e = inl refl

pub writes_memory : (s : SiteState) (dots : List Dot) → IsRefusalOfWrites s dots Memory
writes_memory s dots queue interface setting are e = inl refl

module _ (s : SiteState) (kept : IsKept s) (dots : List Dot) where
  -- with dots that make too many runs together with the older ones each write is refused as full
  pub writes_long : MOST_RUNS < run_count (dots_seen_below s.state.members dots) → IsRefusalOfWrites s dots MembersFull
  writes_long many queue interface setting are e =
      reported_full s _ (inr (inr (long_written s kept queue interface setting ∙ test (run_count (seen s kept queue interface setting)) (subst (λ ds. MOST_RUNS < run_count (dots_seen_below s.state.members ds)) are many))))
    where
      test : (n : ℕ) → MOST_RUNS < n → nat_lt MOST_RUNS n ≡ true
      test n h = grind (arith, nat_tests)

  module _ (below : set.FinSet dot_cmp) (is_seen : below ≡ dots_seen_below s.state.members dots) (first : Dot) (here : Contains dots first) (few : MOST_RUNS < run_count below → ⊥) where
    -- the test of a delta is whether it is full with the write
    past_written : (queue : Option ℕ) (interface : List ℕ) (setting : Setting) → dots ≡ its_dots s kept queue interface setting → (d : DeltaState)
        → is_past_with d below (length dots) first ≡ is_past_with d (seen s kept queue interface setting) (length (its_dots s kept queue interface setting)) first
    past_written queue interface setting are d i = is_past_with d ((is_seen ∙ ap (dots_seen_below s.state.members) are) i) (length (are i)) first

    pub writes_full : is_past_with s.state below (length dots) first ≡ true → IsRefusalOfWrites s dots MembersFull
    writes_full is queue interface setting are e =
        reported_full s _ (inl (full_state_written s kept queue interface setting first (subst (λ ds. Contains ds first) are here) ∙ sym (past_written queue interface setting are s.state) ∙ is))

    pub writes_full_pending : is_past_with s.pending below (length dots) first ≡ true → IsRefusalOfWrites s dots MembersFull
    writes_full_pending is queue interface setting are e =
        reported_full s _ (inr (inl (full_pending_written s kept queue interface setting first (subst (λ ds. Contains ds first) are here) ∙ sym (past_written queue interface setting are s.pending) ∙ is)))

    pub writes_exhausted : is_past_with s.state below (length dots) first ≡ false → is_past_with s.pending below (length dots) first ≡ false → IsRefusalOfWrites s dots Exhausted
    writes_exhausted p q queue interface setting are e =
        reported_exhausted s _ (full_state_written s kept queue interface setting first (subst (λ ds. Contains ds first) are here) ∙ sym (past_written queue interface setting are s.state) ∙ p)
        (full_pending_written s kept queue interface setting first (subst (λ ds. Contains ds first) are here) ∙ sym (past_written queue interface setting are s.pending) ∙ q)
        (long_written s kept queue interface setting ∙ test (run_count (seen s kept queue interface setting)) (subst (λ k. MOST_RUNS < run_count k → ⊥) (is_seen ∙ ap (dots_seen_below s.state.members) are) few)) e
      where
        test : (n : ℕ) → (MOST_RUNS < n → ⊥) → nat_lt MOST_RUNS n ≡ false
        test n h = grind (arith, nat_tests)

-- the first of given dots is one of them, whatever its numbers were read into
pub first_in : (dots : List Dot) (first d : Dot) → first ≡ get_or dots 0 first → d ≡ first → 0 < length dots → Contains dots d
first_in dots first d is same some = subst (Contains dots) (sym same) (0, some, sym is)
