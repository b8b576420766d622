-- Whether a site is full, by what it keeps and by the change that stands for an operation.
use Rattle.std.proofs.Common.{◌≡◌, ℕ, suc, ◌+◌, ◌≤◌, ◌<◌, Bool, true, false, not, ◌&&◌, ◌||◌, [], ◌∷◌, List, length, cond, Contains, map as each, Option, Some, None, is_some, refl, sym, ap, ◌∙◌, arith, true≢false}
use Rattle.std.specs.Prelude.{nat_eq, nat_lt}
use Rattle.std.specs.List.{AllByRecursion, IsDistinct, list_any}
use Rattle.std.specs.FinMap as map
use Rattle.std.specs.FinSet as set
use Rattle.std.proofs.lemmas.Bool.{false_from_ne_true, le-ltb, or_right}
use Rattle.std.proofs.lemmas.List.{length-map}
use Rattle.std.proofs.lemmas.Map.Keys.{IsDistinct-head, IsDistinct-tail}
use Rattle.std.proofs.lemmas.Bool.Decides.{nat_tests}
use Rattle.std.proofs.Math.Bool.{and-false, or-false}
use Rattle.dots.specs.declared.limits.TheConstants.{MOST_LIVE, MOST_RUNS}
use Rattle.dots.specs.declared.member.Member.{Member}
use Rattle.dots.specs.Values.{Dot, Stamp, PauseState}
use Rattle.dots.specs.Orders.{dot_cmp}
use Rattle.dots.specs.DotSets.{is_older, next_dot, run_count}
use Rattle.operations.specs.Conditions.{DotFields, condition_joined, fields_in}
use Rattle.operations.specs.Knowledge.{asserted_dots, asserts, is_dot, known_dots, member_of, names}
use Rattle.dots.specs.declared.calls.Calls.{Calls}
use Rattle.dots.specs.declared.label.Label.{Label}
use Rattle.operations.specs.Operations.{Operation, Setting, Add, Write, Count}
use Rattle.dots.proofs.DotOrder.{dots_exact, dots_total}
use Rattle.operations.proofs.JoinedKnowledge.{condition_by, member_some}
use Rattle.operations.proofs.KnownLaws.{known_dot}
use Rattle.operations.proofs.VisibleLaws.{asserted_dot}
use Rattle.dots.proofs.KeySets.{len_of_keys}
use Rattle.general_lemmas.proofs.Membership.{any_map, in_any}
use Rattle.dots.proofs.OneMoreDot.{dot_before, run_count_insert}
use Rattle.dots.proofs.RunCounts.{run_count_runs}
use Rattle.general_lemmas.proofs.TruthTables.{or_swap}
use Rattle.dots.proofs.Unions.{union_empty}
use Rattle.member_orset.specs.LiveDots.{dead_dots, dead_dots_of, live_dots_without}
use Rattle.live_cells.proofs.Counts.{AreNew, add, contains_add, len_add}
use Rattle.live_cells.proofs.DotTests.{one_dot, same_itself}
use Rattle.member_orset.specs.Members.{Holding, IsWithinLimits, both_joined, cells_joined, condition_at, condition_of, is_live, joined_dots, runs_joined}
use Rattle.member_orset.specs.Reads.{dots_seen_below, seen_dots}
use Rattle.delta.specs.DeltaStates.{DeltaState}
use Rattle.delta.specs.Standing.{IsDeltaOf}
use Rattle.replica.proofs.MadeChanges.{known_by}
use Rattle.replica.specs.Changes.{is_full, is_too_long}
use Rattle.replica.specs.Site.{SiteState, view_of}
use Rattle.replica.specs.SiteViews.{is_dead, is_past_limits, known_with, older_dots, visible_with}

-- sets of dots
abbrev Dots : Type 0
Dots = set.FinSet dot_cmp

module _ (s : SiteState) (d : DeltaState) where
  -- what is visible is what is live
  pub visible_live : (q : Dot) → set.contains (view_of s d).dots.visible q ≡ map.contains_key d.members.live q
  visible_live q = set.contains-from_list dots_total (map.keys d.members.live) q ∙ sym (map.contains_key-keys d.members.live q)

  -- a dead dot is known and not live
  pub dead_known : (q : Dot) → is_dead (view_of s d) q ≡ (set.contains d.members.known q && not (map.contains_key d.members.live q))
  dead_known q = ap (λ b. set.contains d.members.known q && not b) (visible_live q)

  -- what is visible with one operation more, by tests of a dot
  pub contains_visible_with : (o : Operation) (q : Dot) → set.contains (visible_with (view_of s d) o) q
      ≡ ((map.contains_key d.members.live q || asserts q o) && not ((set.contains d.members.known q && not (map.contains_key d.members.live q)) || names q o))
  unfolding visible_with
  contains_visible_with o q =
      let r = view_of s d in
      set.contains-retain (set.union r.dots.visible (asserted_dots (o ∷ []))) (λ x. not (is_dead r x || names x o)) q (λ x e. ap (λ y. not (is_dead r y || names y o)) (sym (dots_exact q x e)))
      ∙ (λ i. set.contains-union dots_total r.dots.visible (asserted_dots (o ∷ [])) q i && not (dead_known q i || names q o))
      ∙ (λ i. (visible_live q i || (asserted_dot (o ∷ []) q ∙ or-false (asserts q o)) i) && not ((set.contains d.members.known q && not (map.contains_key d.members.live q)) || names q o))

  -- what is known with one operation more
  pub known_with_is : (o : Operation) → known_with (view_of s d) o ≡ set.union d.members.known (known_dots (o ∷ []))
  unfolding known_with
  known_with_is o = refl

  -- whether a site is full, by its two counts
  pub full_counts : (o : Operation) (live runs : ℕ) → set.len (visible_with (view_of s d) o) ≡ live → run_count (known_with (view_of s d) o) ≡ runs
      → is_full (view_of s d) o ≡ (nat_lt MOST_LIVE live || nat_lt MOST_RUNS runs)
  full_counts o live runs e f = λ i. nat_lt MOST_LIVE (e i) || nat_lt MOST_RUNS (f i)

  -- a live dot is known
  live_known : IsWithinLimits d.members → (q : Dot) → map.contains_key d.members.live q ≡ true → set.contains d.members.known q ≡ true
  live_known limits q h = at (map.get d.members.live q) refl h
    where
      at : (o : Option Holding) → map.get d.members.live q ≡ o → is_some o ≡ true → set.contains d.members.known q ≡ true
      at None e f = absurd (true≢false (sym f))
      at (Some held) e f = (limits.held q held e).known

  -- what is live of a dot in the join, as it is seen
  seen_live : (held : Option Holding) (known named asserted : Bool) (member : Option Member) (fields : DotFields) → is_some member ≡ asserted
      → (is_some held ≡ true → known ≡ true)
      → ((is_some held || asserted) && not ((known && not (is_some held)) || named))
      ≡ ((known || (asserted || named)) && is_live (condition_joined (condition_at held known) (condition_by named member fields)))
  seen_live (Some h) true true a m f e g = refl
  seen_live (Some h) true false a None f e g = refl
  seen_live (Some h) true false a (Some b) f e g = refl
  seen_live (Some h) false n a m f e g = absurd (let k = g refl in cc)
  seen_live None true n true m f e g = refl
  seen_live None true n false m f e g = refl
  seen_live None false true true m f e g = refl
  seen_live None false true false m f e g = refl
  seen_live None false false true (Some b) f e g = refl
  seen_live None false false true None f e g = absurd (cc)
  seen_live None false false false m f e g = refl

  module _ (x : DeltaState) (o : Operation) (limits : IsWithinLimits d.members) (stands : IsDeltaOf x (o ∷ [])) where
    -- what is visible with one operation more is live in the join with what stands for it
    pub visible_joined : visible_with (view_of s d) o ≡ joined_dots d.members x.members
    unfolding joined_dots
    visible_joined = set.same_set dots_total dots_exact _ _ (λ q.
        contains_visible_with o q
        ∙ seen_live (map.get d.members.live q) (set.contains d.members.known q) (names q o) (asserts q o) (member_of (o ∷ []) q) (fields_in (o ∷ []) q) (member_some (o ∷ []) q ∙ or-false (asserts q o)) (live_known limits q)
        ∙ (λ i. (set.contains d.members.known q || sym (known_change q) i) && is_live (condition_joined (condition_of d.members q) (condition_by (sym (or-false (names q o)) i) (member_of (o ∷ []) q) (fields_in (o ∷ []) q))))
        ∙ (λ i. sym (set.contains-union dots_total d.members.known x.members.known q) i && is_live (condition_joined (condition_of d.members q) (sym (stands.conditions q) i)))
        ∙ sym (set.contains-retain (set.union d.members.known x.members.known) (λ y. is_live (both_joined d.members x.members y)) q (λ y e. ap (λ z. is_live (both_joined d.members x.members z)) (sym (dots_exact q y e)))))
      where
        known_change : (q : Dot) → set.contains x.members.known q ≡ (asserts q o || names q o)
        known_change q = ap (λ k. set.contains k q) stands.dots ∙ known_dot (o ∷ []) q ∙ (λ i. or-false (asserts q o) i || or-false (names q o) i)

    -- the dots that are known with one more operation are known to either delta
    pub known_joined : known_with (view_of s d) o ≡ set.union d.members.known x.members.known
    known_joined = known_with_is o ∙ ap (set.union d.members.known) (sym stands.dots)

    -- a site is full exactly where the join is too large
    pub full_joined : is_full (view_of s d) o ≡ (nat_lt MOST_LIVE (cells_joined d.members x.members) || nat_lt MOST_RUNS (runs_joined d.members x.members))
    full_joined = λ i. is_past_limits (visible_joined i) (known_joined i)

-- an operation alone is too long where what stands for it has too many runs
pub too_long_change : (x : DeltaState) (o : Operation) → IsDeltaOf x (o ∷ []) → is_too_long o ≡ nat_lt MOST_RUNS (run_count x.members.known)
too_long_change x o stands = ap (λ k. nat_lt MOST_RUNS (run_count k)) (sym stands.dots)

-- ---- older dots

module _ (s : SiteState) (d : DeltaState) where
  -- which dots are among the older dead ones
  pub contains_older : (given : List Dot) (q : Dot) → set.contains (older_dots (view_of s d) given) q
      ≡ (set.contains d.members.known q && (not (map.contains_key d.members.live q) && is_older given q))
  unfolding older_dots
  contains_older given q =
      let r = view_of s d in
      set.contains-retain r.known (λ x. is_dead r x && is_older given x) q (λ x e. ap (λ y. is_dead r y && is_older given y) (sym (dots_exact q x e)))
      ∙ ap (λ b. set.contains d.members.known q && (b && is_older given q)) (dead_known s d q)
      ∙ twice (set.contains d.members.known q) (not (map.contains_key d.members.live q)) (is_older given q)
    where
      twice : (k n o : Bool) → (k && ((k && n) && o)) ≡ (k && (n && o))
      twice true n o = refl
      twice false n o = refl

  -- what a set has seen below given dots is these, with the older ones that a site names
  pub seen_older : (given : List Dot) → dots_seen_below d.members given ≡ set.union (set.from_list given) (older_dots (view_of s d) given)
  unfolding seen_dots
  seen_older given =
      let test = λ (x : Dot). not (map.contains_key d.members.live x) && is_older given x in
      ap (set.union (set.from_list given)) (set.same_set dots_total dots_exact _ _ (λ q.
      set.contains-retain d.members.known test q (λ x e. ap test (sym (dots_exact q x e))) ∙ sym (contains_older given q)))

  -- a given dot is none of the older ones, where no other of its site has a greater count
  pub older_than_given : (given : List Dot) (q : Dot) → is_older given q ≡ false → set.contains (older_dots (view_of s d) given) q ≡ false
  older_than_given given q h =
      contains_older given q ∙ ap (λ b. set.contains d.members.known q && (not (map.contains_key d.members.live q) && b)) h
      ∙ none (set.contains d.members.known q) (not (map.contains_key d.members.live q))
    where
      none : (k n : Bool) → (k && (n && false)) ≡ false
      none true true = refl
      none true false = refl
      none false n = refl

  -- a dot is none of those that are older than it
  pub older_new : (dot : Dot) → set.contains (older_dots (view_of s d) (dot ∷ [])) dot ≡ false
  older_new dot = older_than_given (dot ∷ []) dot (itself dot.site dot.count)
    where
      itself : (t c : ℕ) → ((nat_eq t t && nat_lt c c) || false) ≡ false
      itself t c = grind (arith, nat_tests)

  -- a live dot is none of the older dead ones
  pub older_live : (given : List Dot) (q : Dot) → map.contains_key d.members.live q ≡ true → set.contains (older_dots (view_of s d) given) q ≡ false
  older_live given q h =
      contains_older given q ∙ ap (λ b. set.contains d.members.known q && (not b && is_older given q)) h ∙ and-false (set.contains d.members.known q)

  -- where no dot of a site has a count past one, all dead dots of the site are older than the next
  pub older_dead : (site n : ℕ) → ((q : Dot) → set.contains d.members.known q ≡ true → q.site ≡ site → q.count ≤ n)
      → older_dots (view_of s d) (record { site = site; count = suc n } ∷ []) ≡ dead_dots_of d.members site
  unfolding dead_dots
  older_dead site n most = set.same_set dots_total dots_exact _ _ (λ q.
      contains_older (record { site = site; count = suc n } ∷ []) q
      ∙ at (set.contains d.members.known q) (map.contains_key d.members.live q) site q.site q.count n (most q)
      ∙ sym (set.contains-retain d.members.known (λ x. nat_eq x.site site && not (map.contains_key d.members.live x)) q (λ x e. ap (λ y. nat_eq y.site site && not (map.contains_key d.members.live y)) (sym (dots_exact q x e)))))
    where
      test : (t u c m : ℕ) → (u ≡ t → c ≤ m) → ((nat_eq t u && nat_lt c (suc m)) || false) ≡ nat_eq u t
      test t u c m f = grind (arith, nat_tests)

      swap : (a b : Bool) → (not a && b) ≡ (b && not a)
      swap true true = refl
      swap true false = refl
      swap false true = refl
      swap false false = refl

      at : (k l : Bool) (t u c m : ℕ) → (k ≡ true → u ≡ t → c ≤ m)
          → (k && (not l && ((nat_eq t u && nat_lt c (suc m)) || false))) ≡ (k && (nat_eq u t && not l))
      at true l t u c m f = ap (λ b. not l && b) (test t u c m (f refl)) ∙ swap l (nat_eq u t)
      at false l t u c m f = refl

-- ---- counts without the change

-- what an add knows alone: the older dots, and the new one
pub known_add : (dot : Dot) (member : Member) (stamp : Stamp) (penalty : ℕ) (pause : PauseState) (label : Label) (older : Dots)
    → known_dots (Add dot member stamp penalty pause label older ∷ []) ≡ set.insert older dot
known_add dot member stamp penalty pause label older =
    known_by (Add dot member stamp penalty pause label older) ((dot, member) ∷ []) older refl refl
    ∙ set.same_set dots_total dots_exact _ _ (λ q.
    set.contains-union dots_total (set.from_list (dot ∷ [])) older q
    ∙ ap (λ b. b || set.contains older q) (set.contains-from_list dots_total (dot ∷ []) q ∙ or-false (is_dot q dot))
    ∙ sym (set.contains-insert dots_total older dot q))

-- what a write knows alone: what it asserts and names
pub known_write : (ps : List (Dot × Member)) (setting : Setting) (stamp : Stamp) (older seen : Dots)
    → seen ≡ set.union (set.from_list (each (λ p. p.0) ps)) older
    → known_dots (Write ps setting stamp older ∷ []) ≡ seen
known_write ps setting stamp older seen e = known_by (Write ps setting stamp older) ps older refl refl ∙ sym e

-- what a count knows alone: nothing
pub known_count : (site queue : ℕ) (calls : Calls) (total : ℕ) → known_dots (Count site queue calls total ∷ []) ≡ set.empty
known_count site queue calls total = known_by (Count site queue calls total) [] set.empty refl refl ∙ union_empty set.empty

-- no dots have no runs
pub no_runs : run_count set.empty ≡ 0
no_runs = run_count_runs [] set.empty (record { apart = tt; same = λ q. set.contains-empty dot_cmp q })

-- one dot more, past all of its site, leaves no fewer runs
pub run_count_past : (older : Dots) (dot : Dot) → 1 ≤ dot.count → ((q : Dot) → set.contains older q ≡ true → q.site ≡ dot.site → q.count < dot.count)
    → run_count older ≤ run_count (set.insert older dot)
run_count_past older dot counted less =
    bound (run_count older) (run_count (set.insert older dot)) (set.contains older (next_dot dot)) (set.contains older (dot_before dot))
    (false_from_ne_true _ (λ h. let l : suc dot.count < dot.count = less (next_dot dot) h refl in omega arith))
    (run_count_insert older dot counted (false_from_ne_true _ (λ h. let l : dot.count < dot.count = less dot h refl in omega arith)))
  where
    bound : (m n : ℕ) (a b : Bool) → a ≡ false → n + cond a 1 0 + cond b 1 0 ≡ m + 1 → m ≤ n
    bound m n true b h e = absurd (cc)
    bound m n false true h e = omega (arith, e)
    bound m n false false h e = omega (arith, e)

-- dots of which none comes twice, and none is in a set, are new to it
new_all : (t : Dots) (dots : List Dot) → IsDistinct is_dot dots → ((q : Dot) → list_any (is_dot q) dots ≡ true → set.contains t q ≡ false) → AreNew t dots
new_all t [] apart none = tt
new_all t (x ∷ xs) apart none = (
  later xs (IsDistinct-head is_dot x xs apart),
  none x (ap (λ b. b || list_any (is_dot x) xs) (same_itself x)),
  new_all t xs (IsDistinct-tail is_dot x xs apart) (λ q h. none q (or_right (is_dot q x) (list_any (is_dot q) xs) h)),
)
  where
    later : (ys : List Dot) → AllByRecursion (λ y. is_dot x y ≡ false) ys → list_any (is_dot x) ys ≡ false
    later [] h = refl
    later (y ∷ ys) h = ap (λ b. b || list_any (is_dot x) ys) h.0 ∙ later ys h.1

module _ (s : SiteState) (d : DeltaState) where
  -- which dots are among the live ones without others
  pub contains_without : (others : Dots) (q : Dot) → set.contains (live_dots_without d.members others) q
      ≡ (map.contains_key d.members.live q && not (set.contains others q))
  unfolding live_dots_without
  contains_without others q =
      set.contains-difference dots_total (set.from_list (map.keys d.members.live)) others q ∙ ap (λ b. b && not (set.contains others q)) (visible_live s d q)

  -- ---- an add of a new dot
  module _ (limits : IsWithinLimits d.members) (dot : Dot) (member : Member) (stamp : Stamp) (penalty : ℕ) (pause : PauseState) (label : Label) (older : Dots)
      (unknown : set.contains d.members.known dot ≡ false) (new : set.contains older dot ≡ false) where
    -- the add
    abbrev added : Operation
    added = Add dot member stamp penalty pause label older

    -- what is visible with an add, case by case
    add_bools : (l e k n : Bool) → (l ≡ true → k ≡ true) → (e ≡ true → k ≡ false) → (e ≡ true → n ≡ false)
        → ((l || (e || false)) && not ((k && not l) || n)) ≡ (e || (l && not n))
    add_bools true true k n f g h = absurd (let a = f refl in let b = g refl in cc)
    add_bools true false true n f g h = refl
    add_bools true false false n f g h = refl
    add_bools false true true n f g h = absurd (true≢false (g refl))
    add_bools false true false true f g h = absurd (true≢false (h refl))
    add_bools false true false false f g h = refl
    add_bools false false k n f g h = refl

    -- what is visible then: the live dots that it doesn't name, and the new one
    pub visible_add : visible_with (view_of s d) added ≡ set.insert (live_dots_without d.members older) dot
    visible_add = set.same_set dots_total dots_exact _ _ (λ q.
        contains_visible_with s d added q
        ∙ add_bools (map.contains_key d.members.live q) (is_dot q dot) (set.contains d.members.known q) (set.contains older q) (live_known s d limits q)
        (λ e. ap (set.contains d.members.known) (one_dot q dot e) ∙ unknown) (λ e. ap (set.contains older) (one_dot q dot e) ∙ new)
        ∙ sym (set.contains-insert dots_total (live_dots_without d.members older) dot q ∙ ap (λ b. is_dot q dot || b) (contains_without older q)))

    -- one more than the live dots that it doesn't name
    pub len_add_visible : set.len (visible_with (view_of s d) added) ≡ suc (set.len (live_dots_without d.members older))
    len_add_visible =
        ap set.len visible_add ∙ set.len-insert dots_total (live_dots_without d.members older) dot
        ∙ ap (λ b. cond b (set.len (live_dots_without d.members older)) (set.len (live_dots_without d.members older) + 1)) (contains_without older dot ∙ ap (λ b. b && not (set.contains older dot)) not_live)
        ∙ omega arith
      where
        not_live : map.contains_key d.members.live dot ≡ false
        not_live = false_from_ne_true _ (λ h. true≢false (sym (live_known s d limits dot h) ∙ unknown))

    -- what is known then
    pub known_with_add : known_with (view_of s d) added ≡ set.insert (set.union d.members.known older) dot
    known_with_add =
        known_with_is s d added ∙ ap (set.union d.members.known) (known_add dot member stamp penalty pause label older)
        ∙ set.same_set dots_total dots_exact _ _ (λ q.
        set.contains-union dots_total d.members.known (set.insert older dot) q
        ∙ ap (λ b. set.contains d.members.known q || b) (set.contains-insert dots_total older dot q)
        ∙ or_swap (set.contains d.members.known q) (is_dot q dot) (set.contains older q)
        ∙ sym (set.contains-insert dots_total (set.union d.members.known older) dot q ∙ ap (λ b. is_dot q dot || b) (set.contains-union dots_total d.members.known older q)))

    -- whether it is full then
    pub full_add : is_full (view_of s d) added
        ≡ (nat_lt MOST_LIVE (suc (set.len (live_dots_without d.members older))) || nat_lt MOST_RUNS (run_count (set.insert (set.union d.members.known older) dot)))
    full_add = full_counts s d added _ _ len_add_visible (ap run_count known_with_add)

  -- ---- a write of dots that aren't dead
  module _ (ps : List (Dot × Member)) (setting : Setting) (stamp : Stamp) (older seen : Dots)
      (is_seen : seen ≡ set.union (set.from_list (each (λ p. p.0) ps)) older)
      (apart : IsDistinct is_dot (each (λ p. p.0) ps)) (alive : (p : Dot × Member) → Contains ps p → set.contains older p.0 ≡ false)
      (not_dead : (p : Dot × Member) → Contains ps p → set.contains d.members.known p.0 ≡ true → map.contains_key d.members.live p.0 ≡ true) where
    -- the write
    abbrev written : Operation
    written = Write ps setting stamp older

    -- the dots that it asserts
    abbrev its_dots : List Dot
    its_dots = each (λ p. p.0) ps

    -- what is visible with a write, case by case
    write_bools : (l a k n : Bool) → (a ≡ true → n ≡ false) → (a ≡ true → k ≡ true → l ≡ true)
        → ((l || a) && not ((k && not l) || n)) ≡ (a || (l && not (a || n)))
    write_bools l true k true f g = absurd (true≢false (f refl))
    write_bools true true true false f g = refl
    write_bools true true false false f g = refl
    write_bools false true true false f g = absurd (true≢false (sym (g refl refl)))
    write_bools false true false false f g = refl
    write_bools true false true n f g = refl
    write_bools true false false n f g = refl
    write_bools false false k n f g = refl

    -- what it asserts and names, by tests of a dot
    contains_seen : (q : Dot) → set.contains seen q ≡ (asserts q written || set.contains older q)
    contains_seen q =
        ap (λ t. set.contains t q) is_seen ∙ set.contains-union dots_total (set.from_list its_dots) older q
        ∙ ap (λ b. b || set.contains older q) (set.contains-from_list dots_total its_dots q ∙ any_map (is_dot q) (λ p. p.0) ps)

    -- a dot that it asserts is none of the older ones
    not_older : (q : Dot) → asserts q written ≡ true → set.contains older q ≡ false
    not_older q h = let p = in_any (λ p. is_dot q p.0) ps h in ap (set.contains older) (one_dot q p.0.0 p.2) ∙ alive p.0 p.1

    -- a dot that it asserts is not dead
    stays : (q : Dot) → asserts q written ≡ true → set.contains d.members.known q ≡ true → map.contains_key d.members.live q ≡ true
    stays q h k =
        let p = in_any (λ p. is_dot q p.0) ps h in let e = one_dot q p.0.0 p.2 in
        ap (map.contains_key d.members.live) e ∙ not_dead p.0 p.1 (ap (set.contains d.members.known) (sym e) ∙ k)

    -- what is visible then: the live dots that it doesn't assert or name, and those that it asserts
    pub visible_write : visible_with (view_of s d) written ≡ add (live_dots_without d.members seen) its_dots
    visible_write = set.same_set dots_total dots_exact _ _ (λ q.
        contains_visible_with s d written q
        ∙ write_bools (map.contains_key d.members.live q) (asserts q written) (set.contains d.members.known q) (set.contains older q) (not_older q) (stays q)
        ∙ sym (contains_add (live_dots_without d.members seen) its_dots q
        ∙ (λ i. any_map (is_dot q) (λ p. p.0) ps i || (contains_without seen q ∙ ap (λ b. map.contains_key d.members.live q && not b) (contains_seen q)) i)))

    -- the number of visible dots after a write
    pub len_write_visible : set.len (visible_with (view_of s d) written) ≡ set.len (live_dots_without d.members seen) + length ps
    len_write_visible =
        ap set.len visible_write
        ∙ len_add (live_dots_without d.members seen) its_dots (new_all (live_dots_without d.members seen) its_dots apart (λ q h.
        contains_without seen q
        ∙ ap (λ b. map.contains_key d.members.live q && not b) (contains_seen q ∙ ap (λ b. b || set.contains older q) (sym (any_map (is_dot q) (λ p. p.0) ps) ∙ h)) ∙ and-false (map.contains_key d.members.live q)))
        ∙ ap (λ n. set.len (live_dots_without d.members seen) + n) (length-map ps (λ p. p.0))

    -- what is known then
    pub known_with_write : known_with (view_of s d) written ≡ set.union d.members.known seen
    known_with_write = known_with_is s d written ∙ ap (set.union d.members.known) (known_write ps setting stamp older seen is_seen)

    -- whether it is full then
    pub full_write : is_full (view_of s d) written
        ≡ (nat_lt MOST_LIVE (set.len (live_dots_without d.members seen) + length ps) || nat_lt MOST_RUNS (run_count (set.union d.members.known seen)))
    full_write = full_counts s d written _ _ len_write_visible (ap run_count known_with_write)

  -- ---- a count
  module _ (site queue : ℕ) (calls : Calls) (total : ℕ) where
    -- the count
    abbrev counted : Operation
    counted = Count site queue calls total

    -- what is visible with a count, case by case
    count_bools : (l k : Bool) → ((l || false) && not ((k && not l) || false)) ≡ l
    count_bools true true = refl
    count_bools true false = refl
    count_bools false k = refl

    -- the same dots are visible after a count
    pub visible_count : visible_with (view_of s d) counted ≡ (view_of s d).dots.visible
    visible_count = set.same_set dots_total dots_exact _ _ (λ q.
        contains_visible_with s d counted q
        ∙ (λ i. (map.contains_key d.members.live q || false) && not ((set.contains d.members.known q && not (map.contains_key d.members.live q)) || set.contains-empty dot_cmp q i))
        ∙ count_bools (map.contains_key d.members.live q) (set.contains d.members.known q) ∙ sym (visible_live s d q))

    -- the same dots are known after a count
    pub known_with_count : known_with (view_of s d) counted ≡ (view_of s d).known
    known_with_count = known_with_is s d counted ∙ ap (set.union d.members.known) (known_count site queue calls total) ∙ union_empty d.members.known

    -- a delta isn't full for a count
    pub full_count : IsWithinLimits d.members → is_full (view_of s d) counted ≡ false
    full_count limits =
        full_counts s d counted (map.len d.members.live) (run_count d.members.known) (ap set.len visible_count ∙ len_of_keys d.members.live (view_of s d).dots.visible (visible_live s d)) (ap run_count known_with_count)
        ∙ (λ i. le-ltb MOST_LIVE (map.len d.members.live) limits.cells i || le-ltb MOST_RUNS (run_count d.members.known) limits.runs i)

-- an add alone is too long where the older dots and the new one have too many runs
pub too_long_add : (dot : Dot) (member : Member) (stamp : Stamp) (penalty : ℕ) (pause : PauseState) (label : Label) (older : Dots)
    → is_too_long (Add dot member stamp penalty pause label older) ≡ nat_lt MOST_RUNS (run_count (set.insert older dot))
too_long_add dot member stamp penalty pause label older = ap (λ k. nat_lt MOST_RUNS (run_count k)) (known_add dot member stamp penalty pause label older)

-- a write alone is too long where what it asserts and names has too many runs
pub too_long_write : (ps : List (Dot × Member)) (setting : Setting) (stamp : Stamp) (older seen : Dots)
    → seen ≡ set.union (set.from_list (each (λ p. p.0) ps)) older
    → is_too_long (Write ps setting stamp older) ≡ nat_lt MOST_RUNS (run_count seen)
too_long_write ps setting stamp older seen e = ap (λ k. nat_lt MOST_RUNS (run_count k)) (known_write ps setting stamp older seen e)

-- a count alone is not too long
pub too_long_count : (site queue : ℕ) (calls : Calls) (total : ℕ) → is_too_long (Count site queue calls total) ≡ false
too_long_count site queue calls total = ap (λ k. nat_lt MOST_RUNS (run_count k)) (known_count site queue calls total) ∙ ap (nat_lt MOST_RUNS) no_runs
