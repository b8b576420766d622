-- A run put among others takes the place of those that it touches.
use Rattle.std.proofs.Common.{◌≡◌, ℕ, suc, zero, ◌+◌, ◌-◌, ◌≤◌, ◌<◌, min, max, Bool, true, false, ◌||◌, List, [], ◌∷◌, ◌++◌, length, get_or, take, drop, refl, sym, ap, subst, ◌∙◌, arith}
use Rattle.std.specs.Prelude.{IsTrue}
use Rattle.std.specs.List.{All, list_any}
use Rattle.std.specs.List.Sorted.{IsPartitionPoint}
use Rattle.std.specs.FinSet as sets
use Rattle.std.proofs.lemmas.Bool.Decides.{nat_tests}
use Rattle.std.proofs.lemmas.List.{length-append, length-take, length-drop, get_or-take, get_or-drop, take-append-drop}
use Rattle.std.proofs.lemmas.List.Folds.{list_any-append}
use Rattle.std.proofs.lemmas.List.Elements.{All-nil, All-head, All-tail, All-cons, All-weaker, All-append, All-drop, All-take}
use Rattle.std.proofs.Math.Bool.{or-false}
use Rattle.dots.specs.Values.{Dot}
use Rattle.dots.specs.Orders.{dot_cmp}
use Rattle.dots.specs.DotSets.{Run, in_run, in_runs, is_apart, AreApart, IsRunsOf, set_of}
use Rattle.dots.proofs.DotOrder.{dots_total}
use Rattle.dots.proofs.Apart.{apart_trans}
use Rattle.dots.proofs.Runs.{contains_set_of, set_of_runs}
use Rattle.general_lemmas.proofs.Fronts.{open_at}
use Rattle.causal_context.specs.Contexts.{IsRunWithinLimits}
use Rattle.causal_context.specs.ListedRuns.{AreRuns, TakesPlace, replaced}
use Rattle.causal_context.specs.RunLists.{run_over}
use Rattle.causal_context.proofs.Places.{apart_drop}

-- a run and those that it took in, before the rest
pub record IsUniting (before : List Run) (united : Run) (rest : List Run) (run : Run) (runs : List Run) : Type 0 where
  pub whole : united.first ≤ united.last
  pub apart_before : AreApart before
  pub all_before : All (λ r. is_apart r united ≡ true) before
  pub apart_rest : AreApart rest
  pub none_before : All (λ r. is_apart r united ≡ false) rest
  pub same : (d : Dot) → (in_runs before d || (in_run d united || in_runs rest d)) ≡ (in_runs runs d || in_run d run)

apart_take : (n : ℕ) (rs : List Run) → AreApart rs → AreApart (take n rs)
apart_take zero rs a = tt
apart_take (suc n) [] a = tt
apart_take (suc n) (r ∷ rs) a = (a.0, All-take (λ x. IsTrue (is_apart r x)) n rs a.1, apart_take n rs a.2)

apart_places : (rs : List Run) (i j : ℕ) (d e : Run) → AreApart rs → i < j → j < length rs → is_apart (get_or rs i d) (get_or rs j e) ≡ true
apart_places [] i j d e a l h = absurd (omega (arith, h))
apart_places (r ∷ rs) zero zero d e a l h = absurd (omega (arith, l))
apart_places (r ∷ rs) zero (suc j) d e a l h = a.1 j e (omega arith)
apart_places (r ∷ rs) (suc i) zero d e a l h = absurd (omega (arith, l))
apart_places (r ∷ rs) (suc i) (suc j) d e a l h = apart_places rs i j d e a.2 (omega arith) (omega arith)

pub uniting_starts : (runs : List Run) (start : ℕ) (run : Run) → AreApart runs → start ≤ length runs → run.first ≤ run.last
    → IsPartitionPoint (λ r. is_apart r run ≡ true) (λ r. is_apart r run ≡ false) runs start
    → IsUniting (take start runs) run (drop start runs) run runs
uniting_starts runs start run a l w point = record {
  whole = w;
  apart_before = apart_take start runs a;
  all_before = λ k d h.
      let m : k < start = omega (arith, length-take start runs, h) in
      subst (λ r. is_apart r run ≡ true) (sym (get_or-take start runs k d m)) (point.0 k d (omega arith) m);
  apart_rest = apart_drop start runs a;
  none_before = λ k d h.
      subst (λ r. is_apart r run ≡ false) (sym (get_or-drop start runs k d)) (point.1 (start + k) d (omega arith) (omega (arith, length-drop start runs, h)));
  same = λ d.
      swap (in_runs (take start runs) d) (in_run d run) (in_runs (drop start runs) d)
      ∙ ap (λ b. b || in_run d run) (sym (list_any-append (in_run d) (take start runs) (drop start runs)) ∙ ap (list_any (in_run d)) (take-append-drop start runs));
}
  where
    swap : (a b c : Bool) → (a || (b || c)) ≡ ((a || c) || b)
    swap true b c = refl
    swap false true true = refl
    swap false true false = refl
    swap false false true = refl
    swap false false false = refl

-- where neither of two lies before the other, they are of one site
pub touching_site : (r x : Run) → is_apart r x ≡ false → is_apart x r ≡ false → r.site ≡ x.site
touching_site r x a b = grind (arith, nat_tests)

in_both : (d : Dot) (r x : Run) → r.first ≤ r.last → x.first ≤ x.last → is_apart r x ≡ false → is_apart x r ≡ false → in_run d (run_over r x) ≡ (in_run d r || in_run d x)
in_both d r x w v a b = grind (arith, nat_tests)

before_both : (y r x : Run) → r.site ≡ x.site → is_apart y r ≡ true → is_apart y x ≡ true → is_apart y (run_over r x) ≡ true
before_both y r x s a b = grind (arith, nat_tests)

not_before_both : (y r x : Run) → is_apart r x ≡ false → is_apart x r ≡ false → is_apart y r ≡ false → is_apart y (run_over r x) ≡ false
not_before_both y r x a b h = grind (arith, nat_tests)

-- one more that it touches
pub uniting_takes : (before : List Run) (united x : Run) (rest : List Run) (run : Run) (runs : List Run)
    → IsUniting before united (x ∷ rest) run runs → All (λ r. is_apart r x ≡ true) before → is_apart united x ≡ false
    → IsUniting before (run_over united x) rest run runs
uniting_takes before united x rest run runs u p h =
    let back : is_apart x united ≡ false = All-head (λ r. is_apart r united ≡ false) x rest u.none_before in
    record {
      whole = joined_whole u.whole;
      apart_before = u.apart_before;
      all_before = λ k d l. before_both (get_or before k d) united x (touching_site united x h back) (u.all_before k d l) (p k d l);
      apart_rest = u.apart_rest.2;
      none_before = λ k d l. not_before_both (get_or rest k d) united x h back (All-tail (λ r. is_apart r united ≡ false) x rest u.none_before k d l);
      same = λ d.
          ap (λ b. in_runs before d || (b || in_runs rest d)) (in_both d united x u.whole u.apart_rest.0 h back)
          ∙ move (in_runs before d) (in_run d united) (in_run d x) (in_runs rest d) ∙ u.same d;
    }
  where
    joined_whole : united.first ≤ united.last → min united.first x.first ≤ max united.last x.last
    joined_whole w = omega arith

    move : (a b c e : Bool) → (a || ((b || c) || e)) ≡ (a || (b || (c || e)))
    move true b c e = refl
    move false true c e = refl
    move false false c e = refl

apart_join : (before : List Run) (r : Run) (rest : List Run) → r.first ≤ r.last → AreApart before → All (λ x. is_apart x r ≡ true) before → All (λ x. IsTrue (is_apart r x)) rest → AreApart rest → AreApart (before ++ r ∷ rest)
apart_join [] r rest w a p q b = (w, q, b)
apart_join (x ∷ before) r rest w a p q b =
    let first : is_apart x r ≡ true = All-head (λ x. is_apart x r ≡ true) x before p in (
      a.0,
      All-append (λ y. IsTrue (is_apart x y)) before (r ∷ rest) a.1 (All-cons (λ y. IsTrue (is_apart x y)) r rest first (All-weaker (λ y. IsTrue (is_apart r y)) (λ y. IsTrue (is_apart x y)) (λ y h. apart_trans x r y first w h) rest q)),
      apart_join before r rest w a.2 (All-tail (λ x. is_apart x r ≡ true) x before p) q b,
    )

-- the run that is made lies before the rest
before_rest : (r x : Run) (rest : List Run) → is_apart r x ≡ true → AreApart (x ∷ rest) → All (λ y. IsTrue (is_apart r y)) (x ∷ rest)
before_rest r x rest h a = All-cons (λ y. IsTrue (is_apart r y)) x rest h (All-weaker (λ y. IsTrue (is_apart x y)) (λ y. IsTrue (is_apart r y)) (λ y p. apart_trans r x y h a.0 p) rest a.1)

-- all of them are the runs of the union
united_runs : (before : List Run) (united : Run) (rest : List Run) (run : Run) (runs : List Run) → IsUniting before united rest run runs → All (λ y. IsTrue (is_apart united y)) rest
    → IsRunsOf (before ++ united ∷ rest) (sets.union (set_of runs) (set_of (run ∷ [])))
united_runs before united rest run runs u p = record {
  apart = apart_join before united rest u.whole u.apart_before u.all_before p u.apart_rest;
  same = λ d.
      sets.contains-union dots_total (set_of runs) (set_of (run ∷ [])) d ∙ (λ i. contains_set_of runs d i || contains_set_of (run ∷ []) d i)
      ∙ ap (λ b. in_runs runs d || b) (or-false (in_run d run))
      ∙ sym (list_any-append (in_run d) before (united ∷ rest) ∙ u.same d);
}

pub uniting_ends_apart : (before : List Run) (united x : Run) (rest ys : List Run) (run : Run) (runs : List Run) → IsUniting before united ys run runs → ys ≡ x ∷ rest → is_apart united x ≡ true
    → IsRunsOf (before ++ united ∷ ys) (sets.union (set_of runs) (set_of (run ∷ [])))
uniting_ends_apart before united x rest ys run runs u e h =
    united_runs before united ys run runs u (subst (λ zs. All (λ y. IsTrue (is_apart united y)) zs) (sym e) (before_rest united x rest h (subst AreApart e u.apart_rest)))

pub uniting_ends_all : (before : List Run) (united : Run) (ys : List Run) (run : Run) (runs : List Run) → IsUniting before united ys run runs → ys ≡ []
    → IsRunsOf (before ++ united ∷ ys) (sets.union (set_of runs) (set_of (run ∷ [])))
uniting_ends_all before united ys run runs u e =
    united_runs before united ys run runs u (subst (λ zs. All (λ y. IsTrue (is_apart united y)) zs) (sym e) (All-nil (λ y. IsTrue (is_apart united y))))

-- the run at hand is of one site, by the places that are reached
pub uniting_site : (runs : List Run) (start at : ℕ) (united x run : Run) → IsUniting (take start runs) united (drop at runs) run runs → at < length runs → x ≡ get_or runs at x → is_apart united x ≡ false → united.site ≡ x.site
uniting_site runs start at united x run u l e h =
    touching_site united x h (All-head (λ r. is_apart r united ≡ false) x (drop (at + 1) runs) (subst (λ ys. All (λ r. is_apart r united ≡ false) ys) (open_at runs at x l e) u.none_before))

pub uniting_takes_at : (runs : List Run) (start at : ℕ) (united x grown run : Run) → IsUniting (take start runs) united (drop at runs) run runs → AreApart runs → start ≤ at → at < length runs → x ≡ get_or runs at x
    → is_apart united x ≡ false → grown ≡ run_over united x → IsUniting (take start runs) grown (drop (at + 1) runs) run runs
uniting_takes_at runs start at united x grown run u a m l e h g =
    subst (λ y. IsUniting (take start runs) y (drop (at + 1) runs) run runs) (sym g)
    (uniting_takes (take start runs) united x (drop (at + 1) runs) run runs (subst (λ ys. IsUniting (take start runs) united ys run runs) (open_at runs at x l e) u) all_before h)
  where
    all_before : All (λ r. is_apart r x ≡ true) (take start runs)
    all_before k d p =
        let q : k < start = omega (arith, length-take start runs, p) in
        (λ i. is_apart (get_or-take start runs k d q i) (e i)) ∙ apart_places runs k at d x a (omega arith) l

pub uniting_ends_at : (runs : List Run) (start at : ℕ) (united x run : Run) → IsUniting (take start runs) united (drop at runs) run runs → at < length runs → x ≡ get_or runs at x → is_apart united x ≡ true
    → IsRunsOf (take start runs ++ united ∷ drop at runs) (sets.union (set_of runs) (set_of (run ∷ [])))
uniting_ends_at runs start at united x run u l e h = uniting_ends_apart (take start runs) united x (drop (at + 1) runs) (drop at runs) run runs u (open_at runs at x l e) h

-- how many runs there are then
pub length_replaced : (runs : List Run) (start end : ℕ) (run : Run) → start ≤ end → end ≤ length runs → length (replaced runs start run end) ≡ start + suc (length runs - end)
length_replaced runs start end run a b = omega (arith, length-append (take start runs) (run ∷ drop end runs), length-take start runs, length-drop end runs)

-- the set of the list that is made
pub set_replaced : (old new : List Run) (start end : ℕ) (united run : Run)
    → IsRunsOf (replaced old start united end) (sets.union (set_of old) (set_of (run ∷ [])))
    → new ≡ replaced old start united end → set_of new ≡ sets.union (set_of old) (set_of (run ∷ []))
set_replaced old new start end united run is n = ap set_of n ∙ set_of_runs _ _ is

-- the run that is made may take the place of those that it took in
pub placed : (runs : List Run) (start end : ℕ) (united : Run) (dots : sets.FinSet dot_cmp) → AreRuns runs → start ≤ end → end ≤ length runs → IsRunWithinLimits united → IsRunsOf (replaced runs start united end) dots
    → TakesPlace runs start united end
placed runs start end united dots are order within limit is = record {
  order = order;
  within = within;
  valid = record {
    apart = is.apart;
    limits = All-append IsRunWithinLimits (take start runs) (united ∷ drop end runs) (All-take IsRunWithinLimits start runs are.limits)
        (All-cons IsRunWithinLimits united (drop end runs) limit (All-drop IsRunWithinLimits end runs are.limits));
  };
}
