-- Each set of dots has a list of runs.
use Rattle.std.proofs.Common.{◌≡◌, ◌≤◌, ◌<◌, ℕ, suc, Bool, true, false, ◌&&◌, ◌||◌, List, [], ◌∷◌, refl, sym, ap, ◌∙◌, arith, inl, inr}
use Rattle.std.specs.Prelude.{IsTrue, nat_eq, nat_lt}
use Rattle.std.specs.List.{All, list_any}
use Rattle.std.specs.Ordering.{MatchOrdering, eq_by_cmp, is_lt, nat_cmp, ordering_then}
use Rattle.std.specs.declared.cmp.Ordering.{Ordering}
use Rattle.std.specs.declared.cmp.Ordering.TheVariants.{Less, Equal, Greater}
use Rattle.std.specs.FinMap as map
use Rattle.std.specs.FinMap.Entries.{below_all}
use Rattle.std.specs.FinSet as set
use Rattle.std.proofs.lemmas.Bool.{and_parts, cases_Bool}
use Rattle.std.proofs.lemmas.Bool.Decides.{nat_tests}
use Rattle.std.proofs.lemmas.Cmp.{ranked}
use Rattle.std.proofs.lemmas.List.Elements.{All-cons, All-weaker}
use Rattle.general_lemmas.proofs.ItemOrder.{in_order_has, in_order_rises, units}
use Rattle.general_lemmas.proofs.TruthTables.{less_of}
use Rattle.general_lemmas.specs.SetItems.{in_order}
use Rattle.dots.specs.Values.{Dot}
use Rattle.dots.specs.Orders.{dot_cmp}
use Rattle.dots.specs.DotSets.{AreApart, IsRunsOf, Run, first_dot, in_run, in_runs, is_apart}
use Rattle.dots.proofs.Apart.{apart_trans}
use Rattle.dots.proofs.DotOrder.{dots_total, same_dot}

-- whether a dot lies before another
abbrev is_before : Dot → Dot → Bool
is_before e d = nat_lt e.site d.site || (nat_eq e.site d.site && nat_lt e.count d.count)

before_by : (o p : Ordering) (m n x y : ℕ) → MatchOrdering o (m < n) (m ≡ n) (n < m) → MatchOrdering p (x < y) (x ≡ y) (y < x) → ordering_then o p ≡ Less
    → (nat_lt m n || (nat_eq m n && nat_lt x y)) ≡ true
before_by Less p m n x y a b h = grind (arith, nat_tests)
before_by Equal Less m n x y a b h = grind (arith, nat_tests)
before_by Equal Equal m n x y a b h = absurd (cc)
before_by Equal Greater m n x y a b h = absurd (cc)
before_by Greater p m n x y a b h = absurd (cc)

lesser_before : (e d : Dot) → dot_cmp e d ≡ Less → is_before e d ≡ true
lesser_before e d h =
    before_by (nat_cmp e.site d.site) (nat_cmp e.count d.count) e.site d.site e.count d.count
    (ranked e.site d.site (nat_cmp e.site d.site) refl) (ranked e.count d.count (nat_cmp e.count d.count) refl) h

-- a dot lies before the first of runs
abbrev IsFirst : Dot → List Run → Type 0
IsFirst d [] = Unit {0}
IsFirst d (r ∷ rs) = is_before d (first_dot r) ≡ true

-- runs that have the dots of others and one dot more, which lies before all of these
record HasOneMore (d : Dot) (rs : List Run) : Type 0 where
  runs : List Run
  apart : AreApart runs
  same : (q : Dot) → in_runs runs q ≡ ((nat_eq d.site q.site && nat_eq d.count q.count) || in_runs rs q)
  begins : (e : Dot) → is_before e d ≡ true → IsFirst e runs

-- the run of one dot
abbrev alone : Dot → Run
alone d = record { site = d.site; first = d.count; last = d.count }

-- a run with the dot before it
abbrev longer : Dot → Run → Run
longer d r = record { site = r.site; first = d.count; last = r.last }

-- whether a run goes on from a dot
abbrev goes_on : Dot → Run → Bool
goes_on d r = nat_eq r.site d.site && nat_eq r.first (suc d.count)

in_alone : (q d : Dot) → in_run q (alone d) ≡ (nat_eq d.site q.site && nat_eq d.count q.count)
in_alone q d = grind (arith, nat_tests)

in_longer : (q d : Dot) (r : Run) → r.first ≤ r.last → goes_on d r ≡ true → in_run q (longer d r) ≡ ((nat_eq d.site q.site && nat_eq d.count q.count) || in_run q r)
in_longer q d r w h = grind (arith, nat_tests)

or_assoc : (a b c : Bool) → ((a || b) || c) ≡ (a || (b || c))
or_assoc true b c = refl
or_assoc false b c = refl

longer_first : (e d : Dot) (r : Run) → goes_on d r ≡ true → is_before e d ≡ true → is_before e (first_dot (longer d r)) ≡ true
longer_first e d r h b = grind (arith, nat_tests)

longer_ordered : (d : Dot) (r : Run) → r.first ≤ r.last → goes_on d r ≡ true → d.count ≤ r.last
longer_ordered d r w h = grind (arith, nat_tests)

alone_apart : (d : Dot) (r : Run) → goes_on d r ≡ false → is_before d (first_dot r) ≡ true → is_apart (alone d) r ≡ true
alone_apart d r h b = grind (arith, nat_tests)

one_more : (d : Dot) (rs : List Run) → AreApart rs → IsFirst d rs → HasOneMore d rs
one_more d [] apart first = record {
  runs = alone d ∷ [];
  apart = (omega arith, λ i x lt. absurd (omega (arith, lt)), tt);
  same = λ q. ap (λ b. b || false) (in_alone q d);
  begins = λ e before. before;
}
one_more d (r ∷ rs) apart first = elim (cases_Bool (goes_on d r)) [
  | inl on ↦ record {
    runs = longer d r ∷ rs;
    apart = (longer_ordered d r apart.0 on, apart.1, apart.2);
    same = λ q. ap (λ b. b || in_runs rs q) (in_longer q d r apart.0 on) ∙ or_assoc (nat_eq d.site q.site && nat_eq d.count q.count) (in_run q r) (in_runs rs q);
    begins = λ e before. longer_first e d r on before;
  }
  | inr off ↦ record {
    runs = alone d ∷ r ∷ rs;
    apart = (omega arith, all_apart (alone_apart d r off first), apart);
    same = λ q. ap (λ b. b || in_runs (r ∷ rs) q) (in_alone q d);
    begins = λ e before. before;
  }
]
  where
    all_apart : is_apart (alone d) r ≡ true → All (λ x. IsTrue (is_apart (alone d) x)) (r ∷ rs)
    all_apart h =
        All-cons (λ x. IsTrue (is_apart (alone d) x)) r rs h
        (All-weaker (λ x. IsTrue (is_apart r x)) (λ x. IsTrue (is_apart (alone d) x)) (λ x a. apart_trans (alone d) r x h apart.0 a) rs apart.1)

-- runs that have the dots of a list
record HasRuns (ds : List Dot) : Type 0 where
  runs : List Run
  apart : AreApart runs
  same : (q : Dot) → list_any (eq_by_cmp dot_cmp q) ds ≡ in_runs runs q
  begins : (e : Dot) → below_all dot_cmp e (units ds) ≡ true → IsFirst e runs

-- a list of dots that rise has
rising_runs : (ds : List Dot) → map.is_sorted dot_cmp (units ds) ≡ true → HasRuns ds
rising_runs [] h = record { runs = []; apart = tt; same = λ q. refl; begins = λ e below. tt }
rising_runs (d ∷ ds) h =
    let parts = and_parts (below_all dot_cmp d (units ds)) (map.is_sorted dot_cmp (units ds)) h in
    let rest = rising_runs ds parts.1 in
    let more = one_more d rest.runs rest.apart (rest.begins d parts.0) in
    record {
      runs = more.runs;
      apart = more.apart;
      same = λ q. (λ i. same_dot q d i || rest.same q i) ∙ sym (more.same q);
      begins = λ e below. more.begins e (lesser_before e d (less_of (dot_cmp e d) (and_parts (is_lt (dot_cmp e d)) (below_all dot_cmp e (units ds)) below).0));
    }

-- a set has a list of runs
pub runs_of : (dots : set.FinSet dot_cmp) → (runs : List Run) × IsRunsOf runs dots
runs_of dots =
    let has = rising_runs (in_order dots) (in_order_rises dots) in
    (has.runs, record { apart = has.apart; same = λ d. sym (in_order_has dots_total dots d) ∙ has.same d })
