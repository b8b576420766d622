-- The runs of two sets, taken in order, make the runs of their union.
use Rattle.std.proofs.Common.{◌≡◌, ℕ, ◌+◌, ◌-◌, ◌≤◌, ◌<◌, min, max, Bool, true, false, ◌||◌, List, [], ◌∷◌, ◌++◌, length, get_or, set, take, drop, refl, sym, ap, subst, ◌∙◌, inl, inr, arith}
use Rattle.std.specs.Prelude.{IsTrue}
use Rattle.std.specs.List.{All}
use Rattle.std.specs.FinSet as sets
use Rattle.std.proofs.lemmas.Bool.Decides.{nat_tests}
use Rattle.std.proofs.lemmas.List.{drop-set-lt, get_or-drop, length-append, length-drop, take_more_set}
use Rattle.std.proofs.lemmas.List.Folds.{list_any-append}
use Rattle.std.proofs.lemmas.List.Elements.{All-nil, All-head, All-tail, All-cons, All-weaker, All-push}
use Rattle.std.proofs.Math.Bool.{or-false, or_assoc}
use Rattle.dots.specs.Values.{Dot}
use Rattle.dots.specs.DotSets.{Run, in_run, in_runs, is_apart, AreApart, IsRunsOf, run_count, set_of}
use Rattle.dots.proofs.DotOrder.{dots_total, dots_exact}
use Rattle.dots.proofs.Apart.{apart_trans}
use Rattle.dots.proofs.RunCounts.{run_count_runs}
use Rattle.dots.proofs.Runs.{contains_set_of}
use Rattle.causal_context.specs.Contexts.{IsRunWithinLimits}
use Rattle.general_lemmas.proofs.TruthTables.{or_swap}
use Rattle.general_lemmas.proofs.Fronts.{open_at}
use Rattle.causal_context.specs.ListedRuns.{IsFirstOf}
use Rattle.causal_context.specs.RunLists.{IsFirstRun, begins_by, is_first_ours, run_over}

-- all that follow a run begin after it
later_begins : (r x : Run) → r.first ≤ r.last → IsTrue (is_apart r x) → begins_by r x ≡ true
later_begins r x w a = grind (arith, nat_tests)

begins_trans : (r x y : Run) → begins_by r x ≡ true → begins_by x y ≡ true → begins_by r y ≡ true
begins_trans r x y a b = grind (arith, nat_tests)

begins_back : (r x : Run) → begins_by r x ≡ false → begins_by x r ≡ true
begins_back r x a = grind (arith, nat_tests)

begins_all : (r : Run) (rs : List Run) → AreApart (r ∷ rs) → All (λ x. begins_by r x ≡ true) rs
begins_all r rs a = All-weaker (λ x. IsTrue (is_apart r x)) (λ x. begins_by r x ≡ true) (λ x p. later_begins r x a.0 p) rs a.1

-- whatever begins where r does or later begins where what r begins before does
begins_rest : (r x : Run) (xs : List Run) → begins_by r x ≡ true → AreApart (x ∷ xs) → All (λ y. begins_by r y ≡ true) (x ∷ xs)
begins_rest r x xs h a =
    All-cons (λ y. begins_by r y ≡ true) x xs h (All-weaker (λ y. begins_by x y ≡ true) (λ y. begins_by r y ≡ true) (λ y p. begins_trans r x y h p) xs (begins_all x xs a))

pub next_of_ours : (r : Run) (ours others : List Run) → AreApart (r ∷ ours) → AreApart others → All (λ x. begins_by r x ≡ true) others → IsFirstRun r (r ∷ ours) others ours others
next_of_ours r ours others a b h = record {
  whole = a.0;
  least = λ x p q. All-head (λ y. begins_by x y ≡ true) r ours p;
  before_ours = begins_all r ours a;
  before_others = h;
  apart_ours = a.2;
  apart_others = b;
  same = λ d. or_assoc (in_run d r) (in_runs ours d) (in_runs others d);
}

pub next_of_others : (r : Run) (ours others : List Run) → AreApart ours → AreApart (r ∷ others) → All (λ x. begins_by r x ≡ true) ours → IsFirstRun r ours (r ∷ others) ours others
next_of_others r ours others a b h = record {
  whole = b.0;
  least = λ x p q. All-head (λ y. begins_by x y ≡ true) r others q;
  before_ours = h;
  before_others = begins_all r others b;
  apart_ours = a;
  apart_others = b.2;
  same = λ d. or_swap (in_runs ours d) (in_run d r) (in_runs others d);
}

-- what is written, the run at hand and what is left make the union
pub record IsMerging (written : List Run) (current : Run) (ours others runs xs : List Run) : Type 0 where
  pub apart : AreApart (written ++ current ∷ [])
  pub limits : All IsRunWithinLimits (written ++ current ∷ [])
  pub before_ours : All (λ x. begins_by current x ≡ true) ours
  pub before_others : All (λ x. begins_by current x ≡ true) others
  pub apart_ours : AreApart ours
  pub apart_others : AreApart others
  pub same : (d : Dot) → (in_runs (written ++ current ∷ []) d || (in_runs ours d || in_runs others d)) ≡ (in_runs runs d || in_runs xs d)

pub merging_starts : (next : Run) (runs xs ours others : List Run) → IsFirstRun next runs xs ours others → IsRunWithinLimits next → IsMerging [] next ours others runs xs
merging_starts next runs xs ours others is l = record {
  apart = (is.whole, All-nil (λ x. IsTrue (is_apart next x)), tt);
  limits = All-cons IsRunWithinLimits next [] l (All-nil IsRunWithinLimits);
  before_ours = is.before_ours;
  before_others = is.before_others;
  apart_ours = is.apart_ours;
  apart_others = is.apart_others;
  same = λ d. or_none (in_run d next) (in_runs ours d || in_runs others d) ∙ sym (is.same d);
}
  where
    or_none : (a b : Bool) → ((a || false) || b) ≡ (a || b)
    or_none true b = refl
    or_none false b = refl

push_all : (r x y : Run) (rs : List Run) → x.first ≤ x.last → IsTrue (is_apart x y) → All (λ z. IsTrue (is_apart r z)) (rs ++ x ∷ []) → All (λ z. IsTrue (is_apart r z)) ((rs ++ x ∷ []) ++ y ∷ [])
push_all r x y rs w h a = All-push (λ z. IsTrue (is_apart r z)) (rs ++ x ∷ []) y a (apart_trans r x y (last rs a) w h)
  where
    last : (rs : List Run) → All (λ z. IsTrue (is_apart r z)) (rs ++ x ∷ []) → IsTrue (is_apart r x)
    last [] a = All-head (λ z. IsTrue (is_apart r z)) x [] a
    last (s ∷ rs) a = last rs (All-tail (λ z. IsTrue (is_apart r z)) s (rs ++ x ∷ []) a)

-- a run past the last one is one more
apart_push : (rs : List Run) (x y : Run) → AreApart (rs ++ x ∷ []) → IsTrue (is_apart x y) → y.first ≤ y.last → AreApart ((rs ++ x ∷ []) ++ y ∷ [])
apart_push [] x y a h w = (a.0, All-cons (λ z. IsTrue (is_apart x z)) y [] h (All-nil (λ z. IsTrue (is_apart x z))), (w, All-nil (λ z. IsTrue (is_apart y z)), tt))
apart_push (r ∷ rs) x y a h w = (a.0, push_all r x y rs (last_whole rs a.2) h a.1, apart_push rs x y a.2 h w)
  where
    last_whole : (rs : List Run) → AreApart (rs ++ x ∷ []) → x.first ≤ x.last
    last_whole [] a = a.0
    last_whole (s ∷ rs) a = last_whole rs a.2

-- the last run may grow at its end
apart_grows : (rs : List Run) (x y : Run) → AreApart (rs ++ x ∷ []) → x.site ≡ y.site → x.first ≡ y.first → y.first ≤ y.last → AreApart (rs ++ y ∷ [])
apart_grows [] x y a s f w = (w, All-nil (λ z. IsTrue (is_apart y z)), tt)
apart_grows (r ∷ rs) x y a s f w = (a.0, all rs a.1, apart_grows rs x y a.2 s f w)
  where
    one : (r x y : Run) → x.site ≡ y.site → x.first ≡ y.first → IsTrue (is_apart r x) → IsTrue (is_apart r y)
    one r x y s f h = grind (arith, nat_tests)

    all : (rs : List Run) → All (λ z. IsTrue (is_apart r z)) (rs ++ x ∷ []) → All (λ z. IsTrue (is_apart r z)) (rs ++ y ∷ [])
    all [] h = All-cons (λ z. IsTrue (is_apart r z)) y [] (one r x y s f (All-head (λ z. IsTrue (is_apart r z)) x [] h)) (All-nil (λ z. IsTrue (is_apart r z)))
    all (t ∷ rs) h = All-cons (λ z. IsTrue (is_apart r z)) t (rs ++ y ∷ []) (All-head (λ z. IsTrue (is_apart r z)) t (rs ++ x ∷ []) h) (all rs (All-tail (λ z. IsTrue (is_apart r z)) t (rs ++ x ∷ []) h))

-- the next run lies apart: the one at hand is written
pub merging_writes : (written : List Run) (current next : Run) (ours others ours' others' runs xs : List Run)
    → IsMerging written current ours others runs xs → IsFirstRun next ours others ours' others' → IsRunWithinLimits next → is_apart current next ≡ true
    → IsMerging (written ++ current ∷ []) next ours' others' runs xs
merging_writes written current next ours others ours' others' runs xs m n l h = record {
  apart = apart_push written current next m.apart h n.whole;
  limits = All-push IsRunWithinLimits (written ++ current ∷ []) next m.limits l;
  before_ours = n.before_ours;
  before_others = n.before_others;
  apart_ours = n.apart_ours;
  apart_others = n.apart_others;
  same = λ d.
      ap (λ b. b || (in_runs ours' d || in_runs others' d)) (list_any-append (in_run d) (written ++ current ∷ []) (next ∷ []))
      ∙ move (in_runs (written ++ current ∷ []) d) (in_run d next) (in_runs ours' d || in_runs others' d)
      ∙ ap (λ b. in_runs (written ++ current ∷ []) d || b) (sym (n.same d)) ∙ m.same d;
}
  where
    move : (a b c : Bool) → ((a || (b || false)) || c) ≡ (a || (b || c))
    move true b c = refl
    move false true c = refl
    move false false c = refl

in_joined : (d : Dot) (r x : Run) → r.first ≤ r.last → x.first ≤ x.last → begins_by r x ≡ true → is_apart r x ≡ false → in_run d (run_over r x) ≡ (in_run d r || in_run d x)
in_joined d r x w v b h = grind (arith, nat_tests)

joined_first : (r x : Run) → begins_by r x ≡ true → is_apart r x ≡ false → r.first ≡ min r.first x.first
joined_first r x b h = grind (arith, nat_tests)

joined_begins : (r x y : Run) → begins_by r x ≡ true → is_apart r x ≡ false → begins_by x y ≡ true → begins_by (run_over r x) y ≡ true
joined_begins r x y b h k = grind (arith, nat_tests)

pub joined_site : (r x : Run) → begins_by r x ≡ true → is_apart r x ≡ false → r.site ≡ x.site
joined_site r x b h = grind (arith, nat_tests)

joined_whole : (r x : Run) → r.first ≤ r.last → min r.first x.first ≤ max r.last x.last
joined_whole r x w = omega arith

last_whole : (rs : List Run) (x : Run) → AreApart (rs ++ x ∷ []) → x.first ≤ x.last
last_whole [] x a = a.0
last_whole (s ∷ rs) x a = last_whole rs x a.2

all_but_last : (P : Run → Type 0) (rs : List Run) (x y : Run) → All P (rs ++ x ∷ []) → P y → All P (rs ++ y ∷ [])
all_but_last P [] x y a p = All-cons P y [] p (All-nil P)
all_but_last P (r ∷ rs) x y a p = All-cons P r (rs ++ y ∷ []) (All-head P r (rs ++ x ∷ []) a) (all_but_last P rs x y (All-tail P r (rs ++ x ∷ []) a) p)

-- the next run touches the one at hand, which grows
pub merging_grows : (written : List Run) (current next : Run) (ours others ours' others' runs xs : List Run)
    → IsMerging written current ours others runs xs → IsFirstRun next ours others ours' others' → IsRunWithinLimits (run_over current next) → is_apart current next ≡ false
    → IsMerging written (run_over current next) ours' others' runs xs
merging_grows written current next ours others ours' others' runs xs m n l h =
    let begins : begins_by current next ≡ true = n.least current m.before_ours m.before_others in
    let whole : current.first ≤ current.last = last_whole written current m.apart in
    record {
      apart = apart_grows written current (run_over current next) m.apart refl (joined_first current next begins h) (joined_whole current next whole);
      limits = all_but_last IsRunWithinLimits written current (run_over current next) m.limits l;
      before_ours = All-weaker (λ x. begins_by next x ≡ true) (λ x. begins_by (run_over current next) x ≡ true) (λ x p. joined_begins current next x begins h p) ours' n.before_ours;
      before_others = All-weaker (λ x. begins_by next x ≡ true) (λ x. begins_by (run_over current next) x ≡ true) (λ x p. joined_begins current next x begins h p) others' n.before_others;
      apart_ours = n.apart_ours;
      apart_others = n.apart_others;
      same = λ d.
          ap (λ b. b || (in_runs ours' d || in_runs others' d)) (list_any-append (in_run d) written (run_over current next ∷ []))
          ∙ ap (λ b. (in_runs written d || (b || false)) || (in_runs ours' d || in_runs others' d)) (in_joined d current next whole n.whole begins h)
          ∙ move (in_runs written d) (in_run d current) (in_run d next) (in_runs ours' d || in_runs others' d)
          ∙ (λ i. (sym (list_any-append (in_run d) written (current ∷ [])) i) || (sym (n.same d) i)) ∙ m.same d;
    }
  where
    move : (a b c e : Bool) → ((a || ((b || c) || false)) || e) ≡ ((a || (b || false)) || (c || e))
    move true b c e = refl
    move false true c e = refl
    move false false true e = refl
    move false false false e = refl

-- nothing is left: the runs of the union
pub merging_ends : (written : List Run) (current : Run) (runs xs : List Run) → IsMerging written current [] [] runs xs → IsRunsOf (written ++ current ∷ []) (sets.union (set_of runs) (set_of xs))
merging_ends written current runs xs m = record {
  apart = m.apart;
  same = λ d.
      sets.contains-union dots_total (set_of runs) (set_of xs) d ∙ (λ i. contains_set_of runs d i || contains_set_of xs d i)
      ∙ sym (m.same d) ∙ or-false (in_runs (written ++ current ∷ []) d);
}

-- which list has the next run
pub next_if_ours : (r : Run) (ours others : List Run) → AreApart (r ∷ ours) → AreApart others → is_first_ours (r ∷ ours) others ≡ true → IsFirstRun r (r ∷ ours) others ours others
next_if_ours r ours [] a b h = next_of_ours r ours [] a b (All-nil (λ x. begins_by r x ≡ true))
next_if_ours r ours (x ∷ others) a b h = next_of_ours r ours (x ∷ others) a b (begins_rest r x others h b)

pub next_if_others : (r : Run) (ours others : List Run) → AreApart ours → AreApart (r ∷ others) → is_first_ours ours (r ∷ others) ≡ false → IsFirstRun r ours (r ∷ others) ours others
next_if_others r [] others a b h = next_of_others r [] others a b (All-nil (λ x. begins_by r x ≡ true))
next_if_others r (x ∷ ours) others a b h = next_of_others r (x ∷ ours) others a b (begins_rest r x ours (begins_back x r h) a)

-- which list has the next run, by the places that are reached
pub next_own_at : (rs xs : List Run) (i j : ℕ) (x : Run) → i < length rs → x ≡ get_or rs i x → AreApart (drop i rs) → AreApart (drop j xs) → is_first_ours (drop i rs) (drop j xs) ≡ true
    → IsFirstRun x (drop i rs) (drop j xs) (drop (i + 1) rs) (drop j xs)
next_own_at rs xs i j x l e a b h =
    let o = open_at rs i x l e in
    subst (λ ys. IsFirstRun x ys (drop j xs) (drop (i + 1) rs) (drop j xs)) (sym o)
    (next_if_ours x (drop (i + 1) rs) (drop j xs) (subst AreApart o a) b (ap (λ ys. is_first_ours ys (drop j xs)) (sym o) ∙ h))

pub next_other_at : (rs xs : List Run) (i j : ℕ) (x : Run) → j < length xs → x ≡ get_or xs j x → AreApart (drop i rs) → AreApart (drop j xs) → is_first_ours (drop i rs) (drop j xs) ≡ false
    → IsFirstRun x (drop i rs) (drop j xs) (drop i rs) (drop (j + 1) xs)
next_other_at rs xs i j x l e a b h =
    let o = open_at xs j x l e in
    subst (λ ys. IsFirstRun x (drop i rs) ys (drop i rs) (drop (j + 1) xs)) (sym o)
    (next_if_others x (drop i rs) (drop (j + 1) xs) a (subst AreApart o b) (ap (is_first_ours (drop i rs)) (sym o) ∙ h))

-- what a step of a walk takes is the first run of what is left
pub next_first : (ours others : List Run) (own own' theirs theirs' : ℕ) (run : Run) → AreApart (drop own ours) → AreApart (drop theirs others) → IsFirstOf ours own own' others theirs theirs' run
    → IsFirstRun run (drop own ours) (drop theirs others) (drop own' ours) (drop theirs' others)
next_first ours others own own' theirs theirs' run a b (inl (first, here, stays)) =
    subst (λ k. IsFirstRun run (drop own ours) (drop theirs others) (drop own' ours) (drop k others)) (sym stays)
    (subst (λ k. IsFirstRun run (drop own ours) (drop theirs others) (drop k ours) (drop theirs others)) (sym here.passed)
    (next_own_at ours others own theirs run here.reached here.is a b first))
next_first ours others own own' theirs theirs' run a b (inr (first, here, stays)) =
    subst (λ k. IsFirstRun run (drop own ours) (drop theirs others) (drop k ours) (drop theirs' others)) (sym stays)
    (subst (λ k. IsFirstRun run (drop own ours) (drop theirs others) (drop own ours) (drop k others)) (sym here.passed)
    (next_other_at ours others own theirs run here.reached here.is a b first))

-- the run of a step is within the limits
pub next_limits : (ours others : List Run) (own own' theirs theirs' : ℕ) (run : Run) → All IsRunWithinLimits (drop own ours) → All IsRunWithinLimits others → IsFirstOf ours own own' others theirs theirs' run → IsRunWithinLimits run
next_limits ours others own own' theirs theirs' run p q (inl (first, here, stays)) =
    All-head IsRunWithinLimits run (drop (own + 1) ours) (subst (All IsRunWithinLimits) (open_at ours own run here.reached here.is) p)
next_limits ours others own own' theirs theirs' run p q (inr (first, here, stays)) = subst IsRunWithinLimits (sym here.is) (q theirs run here.reached)

-- a step of a walk is one place further in one of the lists
pub record IsOneFurther (ours : List Run) (own own' : ℕ) (others : List Run) (theirs theirs' : ℕ) : Type 0 where
  pub one : own' + theirs' ≡ own + theirs + 1
  pub behind : own ≤ own'
  pub own_within : own ≤ length ours → own' ≤ length ours
  pub theirs_within : theirs ≤ length others → theirs' ≤ length others

pub one_further : (ours others : List Run) (own own' theirs theirs' : ℕ) (run : Run) → IsFirstOf ours own own' others theirs theirs' run → IsOneFurther ours own own' others theirs theirs'
one_further ours others own own' theirs theirs' run (inl (first, here, stays)) = record {
  one = omega (arith, here.passed, stays);
  behind = omega (arith, here.passed);
  own_within = λ h. omega (arith, here.passed, here.reached);
  theirs_within = λ h. omega (arith, stays, h);
}
one_further ours others own own' theirs theirs' run (inr (first, here, stays)) = record {
  one = omega (arith, here.passed, stays);
  behind = omega (arith, stays);
  own_within = λ h. omega (arith, stays, h);
  theirs_within = λ h. omega (arith, here.passed, here.reached);
}

-- what is left then is within the limits
pub limits_left : (runs : List Run) (i j : ℕ) → i ≤ j → All IsRunWithinLimits (drop i runs) → All IsRunWithinLimits (drop j runs)
limits_left runs i j m p k e l =
    let shift : i + ((j + k) - i) ≡ j + k = omega (arith, m) in
    subst IsRunWithinLimits (get_or-drop i runs ((j + k) - i) e ∙ ap (λ n. get_or runs n e) shift ∙ sym (get_or-drop j runs k e))
    (p ((j + k) - i) e (omega (arith, m, l, length-drop i runs, length-drop j runs)))

-- the next run touches the one at hand, which grows; it is given by its value
pub grown_merging : (written : List Run) (current next grown : Run) (ours others ours' others' runs xs : List Run)
    → IsMerging written current ours others runs xs → IsFirstRun next ours others ours' others' → is_apart current next ≡ false → grown ≡ run_over current next → IsRunWithinLimits grown
    → IsMerging written grown ours' others' runs xs
grown_merging written current next grown ours others ours' others' runs xs m n h e l =
    subst (λ run. IsMerging written run ours' others' runs xs) (sym e) (merging_grows written current next ours others ours' others' runs xs m n (subst IsRunWithinLimits e l) h)

pub ended_merging : (written : List Run) (current : Run) (ours others runs xs : List Run) → IsMerging written current ours others runs xs → ours ≡ [] → others ≡ []
    → IsRunsOf (written ++ current ∷ []) (sets.union (set_of runs) (set_of xs))
ended_merging written current ours others runs xs m a b =
    merging_ends written current runs xs (subst (λ ys. IsMerging written current ys [] runs xs) a (subst (λ ys. IsMerging written current ours ys runs xs) b m))

-- the steps in place: writing at a place before what is left
pub writing_merging : (ys : List Run) (k own own' : ℕ) (current next : Run) (others others' runs xs : List Run)
    → k < length ys → k < own' → IsMerging (take k ys) current (drop own ys) others runs xs → IsFirstRun next (drop own ys) others (drop own' ys) others' → IsRunWithinLimits next → is_apart current next ≡ true
    → IsMerging (take (k + 1) (set ys k current)) next (drop own' (set ys k current)) others' runs xs
writing_merging ys k own own' current next others others' runs xs l p m n r h =
    subst (λ zs. IsMerging zs next (drop own' (set ys k current)) others' runs xs) (sym (take_more_set ys k current l))
    (subst (λ zs. IsMerging (take k ys ++ current ∷ []) next zs others' runs xs) (sym (drop-set-lt own' ys k current p))
    (merging_writes (take k ys) current next (drop own ys) others (drop own' ys) others' runs xs m n r h))

-- a count of the runs of what is merged
pub record IsCounting (count : ℕ) (current : Run) (ours others runs xs : List Run) : Type 0 where
  pub written : List Run
  pub merging : IsMerging written current ours others runs xs
  pub counted : count ≡ length written + 1

-- the steps of the count
pub counting_starts : (next : Run) (runs xs ours others : List Run) → IsFirstRun next runs xs ours others → IsRunWithinLimits next → IsCounting 1 next ours others runs xs
counting_starts next runs xs ours others n l = record { written = []; merging = merging_starts next runs xs ours others n l; counted = refl }

pub counting_writes : (count : ℕ) (current next : Run) (ours others ours' others' runs xs : List Run)
    → IsCounting count current ours others runs xs → IsFirstRun next ours others ours' others' → IsRunWithinLimits next → is_apart current next ≡ true
    → IsCounting (count + 1) next ours' others' runs xs
counting_writes count current next ours others ours' others' runs xs k n l h = record {
  written = k.written ++ current ∷ [];
  merging = merging_writes k.written current next ours others ours' others' runs xs k.merging n l h;
  counted = ap (λ m. m + 1) k.counted ∙ omega (arith, length-append k.written (current ∷ []));
}

pub counting_grows : (count : ℕ) (current next grown : Run) (ours others ours' others' runs xs : List Run)
    → IsCounting count current ours others runs xs → IsFirstRun next ours others ours' others' → is_apart current next ≡ false → grown ≡ run_over current next → IsRunWithinLimits grown
    → IsCounting count grown ours' others' runs xs
counting_grows count current next grown ours others ours' others' runs xs k n h e l = record {
  written = k.written;
  merging = grown_merging k.written current next grown ours others ours' others' runs xs k.merging n h e l;
  counted = k.counted;
}

pub counting_ends : (count : ℕ) (current : Run) (ours others runs xs : List Run) → IsCounting count current ours others runs xs → ours ≡ [] → others ≡ [] → count ≡ run_count (sets.union (set_of runs) (set_of xs))
counting_ends count current ours others runs xs k a b =
    k.counted ∙ sym (length-append k.written (current ∷ [])) ∙ sym (run_count_runs (k.written ++ current ∷ []) _ (ended_merging k.written current ours others runs xs k.merging a b))

-- two empty lists have no runs
pub counting_none : (runs xs : List Run) → length runs ≡ 0 → length xs ≡ 0 → 0 ≡ run_count (sets.union (set_of runs) (set_of xs))
counting_none [] [] a b = sym (run_count_runs [] _ (record { apart = tt; same = λ d. sets.contains-union dots_total (set_of []) (set_of []) d ∙ (λ i. contains_set_of [] d i || contains_set_of [] d i) }))
counting_none (r ∷ rs) xs a b = absurd (omega (arith, a))
counting_none [] (x ∷ xs) a b = absurd (omega (arith, b))

-- the last run in its place
pub last_merging : (ys : List Run) (k : ℕ) (current : Run) (ours others runs xs : List Run)
    → k < length ys → IsMerging (take k ys) current ours others runs xs → ours ≡ [] → others ≡ []
    → IsRunsOf (take (k + 1) (set ys k current)) (sets.union (set_of runs) (set_of xs))
last_merging ys k current ours others runs xs l m a b =
    subst (λ zs. IsRunsOf zs (sets.union (set_of runs) (set_of xs))) (sym (take_more_set ys k current l)) (ended_merging (take k ys) current ours others runs xs m a b)

-- with nothing on either side no run is made
pub merging_none : (ys runs xs : List Run) → length runs ≡ 0 → length xs ≡ 0 → IsRunsOf (take 0 ys) (sets.union (set_of runs) (set_of xs))
merging_none [] [] [] a b = record { apart = tt; same = λ d. sets.contains-union dots_total (set_of []) (set_of []) d ∙ (λ i. contains_set_of [] d i || contains_set_of [] d i) }
merging_none (y ∷ ys) [] [] a b = record { apart = tt; same = λ d. sets.contains-union dots_total (set_of []) (set_of []) d ∙ (λ i. contains_set_of [] d i || contains_set_of [] d i) }
merging_none ys (r ∷ rs) xs a b = absurd (omega (arith, a))
merging_none ys [] (x ∷ xs) a b = absurd (omega (arith, b))

-- no others are no change
pub union_none : (rs xs : List Run) → length xs ≡ 0 → set_of rs ≡ sets.union (set_of rs) (set_of xs)
union_none rs [] e = sets.same_set dots_total dots_exact _ _ (λ q. sym (sets.contains-union dots_total (set_of rs) (set_of []) q ∙ ap (λ b. sets.contains (set_of rs) q || b) (contains_set_of [] q) ∙ or-false (sets.contains (set_of rs) q)))
union_none rs (x ∷ xs) e = absurd (omega (arith, e))
