-- How far a test goes on, by a list of runs or of given dots.
use Rattle.std.proofs.Common.{◌≡◌, ℕ, ◌+◌, ◌≤◌, ◌<◌, true, false, ◌||◌, List, [], ◌∷◌, length, get_or, take, sym, ap, ◌∙◌, arith}
use Rattle.std.specs.List.{AllWithin, list_any}
use Rattle.std.specs.Ordering.{eq_by_cmp}
use Rattle.std.proofs.lemmas.List.{take_more}
use Rattle.std.proofs.lemmas.List.Folds.{list_any-append}
use Rattle.std.proofs.lemmas.Bool.Decides.{nat_tests}
use Rattle.std.proofs.Math.Bool.{or-true}
use Rattle.dots.specs.Values.{Dot}
use Rattle.dots.specs.Orders.{dot_cmp}
use Rattle.dots.specs.DotSets.{AreApart, Run, in_run, in_runs}
use Rattle.causal_context.specs.RunLists.{is_below}
use Rattle.causal_context.proofs.Places.{apart_whole, at_place, at_no_place}
use Rattle.member_orset.specs.Gathering.{is_given}
use Rattle.live_cells.proofs.DotTests.{same_itself}

abbrev at : ℕ → ℕ → Dot
at site count = record { site = site; count = count }

-- runs
still_below : (d : Dot) (n : ℕ) (r : Run) → d.count ≤ n → is_below d r ≡ true → is_below (at d.site n) r ≡ true
still_below d n r h b = grind (arith, nat_tests)

elsewhere : (d : Dot) (n : ℕ) (r : Run) → (r.site ≡ d.site → ⊥) → is_below d r ≡ false → is_below (at d.site n) r ≡ false
elsewhere d n r h b = grind (arith, nat_tests)

elsewhere_out : (d : Dot) (n : ℕ) (r : Run) → (r.site ≡ d.site → ⊥) → in_run (at d.site n) r ≡ false
elsewhere_out d n r h = grind (arith, nat_tests)

not_below : (d : Dot) (n : ℕ) (r : Run) → r.site ≡ d.site → n ≤ r.last → is_below (at d.site n) r ≡ false
not_below d n r h l = grind (arith, nat_tests)

not_yet : (d : Dot) (n : ℕ) (r : Run) → n < r.first → in_run (at d.site n) r ≡ false
not_yet d n r l = grind (arith, nat_tests)

pub past_runs : (runs : List Run) (d : Dot) → AllWithin (λ r. is_below d r ≡ true) runs 0 (length runs) → (n : ℕ) → d.count ≤ n → in_runs runs (at d.site n) ≡ false
past_runs runs d before n h = at_no_place (at d.site n) runs (λ k e lo hi. still_below d n (get_or runs k e) h (before k e lo hi))

module _ (runs : List Run) (d : Dot) (i : ℕ) (x : Run) (apart : AreApart runs) (l : i < length runs) (before : AllWithin (λ r. is_below d r ≡ true) runs 0 i) (after : AllWithin (λ r. is_below d r ≡ false) runs i (length runs)) where
  below_all : (n : ℕ) → d.count ≤ n → AllWithin (λ r. is_below (at d.site n) r ≡ true) runs 0 i
  below_all n h k e lo hi = still_below d n (get_or runs k e) h (before k e lo hi)

  pub runs_elsewhere : ((get_or runs i x).site ≡ d.site → ⊥) → (n : ℕ) → d.count ≤ n → in_runs runs (at d.site n) ≡ false
  runs_elsewhere other n h = at_place (at d.site n) runs i x apart l (below_all n h) (elsewhere d n (get_or runs i x) other (after i x (omega arith) l)) ∙ elsewhere_out d n (get_or runs i x) other

  pub runs_later : (get_or runs i x).site ≡ d.site → (n : ℕ) → d.count ≤ n → n < (get_or runs i x).first → in_runs runs (at d.site n) ≡ false
  runs_later same n h m =
      let whole = apart_whole runs apart i x l in
      at_place (at d.site n) runs i x apart l (below_all n h) (not_below d n (get_or runs i x) same (omega arith)) ∙ not_yet d n (get_or runs i x) m

-- a given dot stays so where more are given
pub given_before : (given : List Dot) (i : ℕ) (x q : Dot) → i < length given → is_given (take i given) q ≡ true → is_given (take (i + 1) given) q ≡ true
given_before given i x q l h =
    ap (list_any (eq_by_cmp dot_cmp q)) (take_more given i x l) ∙ list_any-append (eq_by_cmp dot_cmp q) (take i given) (get_or given i x ∷ []) ∙ ap (λ b. b || (eq_by_cmp dot_cmp q (get_or given i x) || false)) h

pub given_now : (given : List Dot) (i : ℕ) (x : Dot) → i < length given → x ≡ get_or given i x → is_given (take (i + 1) given) x ≡ true
given_now given i x l e =
    ap (list_any (eq_by_cmp dot_cmp x)) (take_more given i x l) ∙ list_any-append (eq_by_cmp dot_cmp x) (take i given) (get_or given i x ∷ [])
    ∙ ap (λ y. list_any (eq_by_cmp dot_cmp x) (take i given) || (eq_by_cmp dot_cmp x y || false)) (sym e)
    ∙ ap (λ b. list_any (eq_by_cmp dot_cmp x) (take i given) || (b || false)) (same_itself x) ∙ or-true (list_any (eq_by_cmp dot_cmp x) (take i given))

-- runs that end before a dot end before those of later counts
pub runs_ahead : (d : Dot) (site n : ℕ) (runs : List Run) (i : ℕ) → d.site ≡ site → d.count ≤ n → AllWithin (λ r. is_below d r ≡ true) runs 0 i → AllWithin (λ r. is_below (at site n) r ≡ true) runs 0 i
runs_ahead d site n runs i same h before k e lo hi = ap (λ s. is_below (at s n) (get_or runs k e)) (sym same) ∙ still_below d n (get_or runs k e) h (before k e lo hi)
